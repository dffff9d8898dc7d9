use Rattle.std.proofs.Common.{length, sym, ◌∙◌, ap}
use Rattle.bucket_table.specs.SplitRowsState.{SplitRowsState}
use Rattle.bucket_table.proofs.order.Permute.{same-slots-of}
use Rattle.bucket_table.proofs.split.rows.SplitRowsRows.len.Goals as goal

pub returns : goal.returns
returns g c =
    c.self.invariant.counted
    ∙ (sym (same-slots-of c.self.inside.index.list.cells c.reveal_invariant.ensures.apart).many ∙ ap (λ (v : SplitRowsState g.row.H.Denot). length v.slots) c.self.view_is)
