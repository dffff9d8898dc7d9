use Rattle.std.proofs.Common.{sym, ap, ◌∙◌}
use Rattle.bucket_table.specs.Slots.{with_objects}
use Rattle.table_ops.specs.inside.Undo.{but_last}
use Rattle.table_ops.proofs.PutLaws.{own-in, twice-in, popped, under-some}
use Rattle.table_ops.proofs.table_rows.TableRows.undo.Goals as goal

pub returns-in-LastObject-clause-slots : goal.returns-in-LastObject-clause-slots
returns-in-LastObject-clause-slots g c =
    let old = g.R.Rows.slots c.args.self.now.rows in
    let mid = g.R.Rows.slots c.replace_at-objects.new.self in
    let new = g.R.Rows.slots c.replace_at-in-LastObject.new.self in
    let place = g.R.Rows.key_at c.args.self.now.rows c.in-Some.place in
    let key = c.args.key.now in
    let is = c.in-Some.ensures.0 in
    let own = own-in old place key c.replace_at-objects.result is c.replace_at-objects.ensures.objects in
    let written = twice-in old mid new place (g.R.Rows.key_at c.replace_at-objects.new.self c.in-Some.place) key c.new.result c.pop.new.self is c.replace_at-objects.ensures.now c.replace_at-objects.ensures.place c.replace_at-in-LastObject.ensures.now in
    let rest = popped c.pop.result c.replace_at-objects.result c.pop.new.self c.pop.ensures in
    rw c.in-LastObject.is (written ∙ ap (with_objects old key) (rest ∙ sym (ap but_last (under-some old key c.replace_at-objects.result own))))
