use Rattle.std.proofs.Common.{◌≤◌, ◌-◌, true≢false, length, sym, subst, arith}
use Rattle.bucket_table.specs.SplitRowsState.{SplitRowsState}
use Rattle.bucket_table.proofs.split.SplitRows.reserve_slots.Goals as goal

pub returns-in_err-reserve-clause-succeeds : goal.returns-in_err-reserve-clause-succeeds
returns-in_err-reserve-clause-succeeds g c = λ some h.
    let P : SplitRowsState g.row.H.Denot → Type 0 = λ v. c.args.additional ≤ v.room in
    let r : c.args.additional ≤ c.self.inside.index.list.capacity - length c.self.inside.index.list.cells = subst P (sym c.self.view_is) h in
    absurd (true≢false (sym (c.in_err-reserve.ensures.succeeds (omega arith))))
