use Rattle.std.proofs.Common.{◌≡◌, true, false, sym, ap, ◌∙◌, arith}
use Rattle.node_shared.specs.Journal.{is_entry_of}
use Rattle.node_shared.proofs.Parts.{ends-short, differs-here}
use Rattle.node_shared.proofs.transcript.is_part.Goals as goal

pub returns-then-at-own : goal.returns-then-at-own
returns-then-at-own c =
    let own = ap (is_entry_of c.args.pid) (sym c.entry-item.is ∙ sym c.get.ensures) ∙ sym c.is_of.ensures ∙ c.if-is_of.true in
    let short = ends-short c.args.pid c.args.journal.now c.args.own.now c.loop-entry.entry-index c.loop-entry.at c.entry-item.result c.loop-entry-test.true c.loop-entry.invariant.part own c.if-at-own.true in
    (λ (bad : false ≡ true). absurd (cc), λ whole. absurd (short whole))

pub returns-then-not-equals : goal.returns-then-not-equals
returns-then-not-equals c =
    let own = ap (is_entry_of c.args.pid) (sym c.entry-item.is ∙ sym c.get.ensures) ∙ sym c.is_of.ensures ∙ c.if-is_of.true in
    let other = differs-here c.args.pid c.args.journal.now c.args.own.now c.loop-entry.entry-index c.loop-entry.at c.entry-item.result c.loop-entry-test.true c.loop-entry.invariant.part own
    c.index-own-at.result (omega arith) c.index-own-at.is
    (λ e. let t : c.equals.result ≡ true = c.equals.ensures.1 (c.get-then-is_of.ensures ∙ c.entry-item.is ∙ e ∙ sym c.get-then-is_of-2.ensures) in let f = c.if-not-equals.true in absurd (cc)) in
    (λ (bad : false ≡ true). absurd (cc), λ whole. absurd (other whole))
