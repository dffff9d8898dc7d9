use Rattle.std.proofs.Common.{◌≡◌, ◌++◌, ◌+◌, ◌∷◌, [], List, take, sym, ap, ◌∙◌, subst}
use Rattle.std.proofs.lemmas.List.{take_more}
use Rattle.node_shared.specs.declared.entry.Entry.{Entry}
use Rattle.node_shared.specs.inside.Closing.{FindsMissing}
use Rattle.node_shared.proofs.transcript.least_without_client.Goals as goal

pub loop-entry-preserved : goal.loop-entry-preserved
loop-entry-preserved g c =
    let journal = c.args.journal.now in
    let i = c.loop-entry.entry-index in
    let item = c.get.result.now in
    let more : take (i + 1) journal ≡ take i journal ++ item ∷ [] = take_more journal i c.entry-item.result c.loop-entry-test.true ∙ ap (λ (e : Entry). take i journal ++ e ∷ []) (sym c.entry-item.is ∙ sym c.get.ensures) in
    subst (λ (entries : List Entry). FindsMissing entries c.args.clients.now c.least_after_entry-least.result) (sym more) (c.least_after_entry-least.ensures (take i journal) c.loop-entry.invariant)
