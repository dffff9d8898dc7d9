use Rattle.std.proofs.Common.{subst, arith}
use Rattle.bucket_table.specs.Walks.{IsFirstPlace}
use Rattle.bucket_table.specs.SplitRowsState.{SplitRowsState, key_of_place}
use Rattle.bucket_table.specs.inside.Order.{above}
use Rattle.bucket_table.proofs.order.Read.{first-there}
use Rattle.bucket_table.proofs.split.rows.SplitRowsRows.first_place.Goals as goal

pub returns : goal.returns
returns g c =
    let cells = c.self.inside.index.list.cells in
    let Q : SplitRowsState g.row.H.Denot → Type 0 = λ v. IsFirstPlace (key_of_place v.places) v.slots c.next_item_at.result in
    subst Q c.self.view_is (first-there 0 (above cells) cells c.next_item_at.result (omega arith) c.next_item_at.ensures)
