use Rattle.std.proofs.Common.{◌≡◌, List, [], refl, subst, rules}
use Rattle.node_core.specs.declared.limits.Limits.{Limits}
use Rattle.node_core.specs.State.{empty}
use Rattle.node_shared.specs.Journal.{IsRun}
use Rattle.node_shared.specs.Records.{RecordState}
use Rattle.node_shared.specs.Closing.{Compares}
use Rattle.node_shared.proofs.transcript.close.Goals as goal

pub returns-in_default : goal.returns-in_default
returns-in_default g c = ([], empty c.args.shared.limits, refl, tt)

pub returns : goal.returns
returns g c =
    let book = c.in-Some.book in
    let run = subst (λ (limits : Limits). IsRun limits book.journal book.state) c.in-Some.ensures c.close.ensures.run in
    let own : c.as_slice.result.now ≡ c.args.clients.items = search rules in
    (book.journal, book.state, run, subst (λ (clients : List RecordState). Compares book.journal clients c.close.result) own c.close.ensures.comparison)
