use Rattle.std.proofs.Common.{sym, ap, ◌∙◌, Some}
use Rattle.std.proofs.lemmas.Result.{err_from_is_err_and}
use Rattle.fixed_walk.proofs.FromLaws.{next-key-is, next-key-none}
use Rattle.fixed_walk.proofs.walked.Walked.next.Goals as goal

pub returns-in_err-slot-clause-err : goal.returns-in_err-slot-clause-err
returns-in_err-slot-clause-err g c =
    let p = err_from_is_err_and c.from_residual.result c.from_residual.ensures.1 in
    rw p.1 (next-key-none c.args.self.now.content.slots c.args.key.now c.in_err-slot.ensures.err)

pub returns-clause-ok : goal.returns-clause-ok
returns-clause-ok g c = next-key-is c.args.self.now.content.slots c.args.key.now _ c.in_ok-slot.ensures.ok ∙ ap Some (sym c.key_of.ensures)
