use Rattle.std.proofs.Common.{◌≡◌, ◌≤◌, ◌+◌, ◌++◌, vec_len, vec_capacity}
use Rattle.bucket_table.specs.Slots.{object_count}
use Rattle.table_ops.specs.Read.{all_objects}
use Rattle.table_ops.proofs.table.Table.objects.Given as goal

abbrev pub invariant-loop-objects : goal.invariant-loop-objects
invariant-loop-objects g l =
    (goal.iterator-loop-objects g).can_next l.objects-iterator
    × (goal.iterator-loop-objects g).is_finite l.objects-iterator
    × (l.copies.items ++ all_objects l.objects-iterator ≡ all_objects (g.R.Rows.slots l.self-inside.inner.rows))
    × (vec_len l.copies + object_count l.objects-iterator ≤ vec_capacity l.copies)
