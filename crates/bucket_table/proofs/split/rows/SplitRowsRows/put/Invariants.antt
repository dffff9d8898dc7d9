use Rattle.std.proofs.Common.{◌≡◌, ◌≤◌, List, length}
use Rattle.std.specs.Vec.Iter.{into_iter_items, into_iter_len}
use Rattle.bucket_table.specs.Slots.{Slot}
use Rattle.bucket_table.specs.Rows.{HasDistinctKeys, EnterAll, AreNew}
use Rattle.bucket_table.proofs.slots.Hashed.{rows_of, AreHashed}
use Rattle.bucket_table.proofs.split.rows.SplitRowsRows.put.Given as goal

abbrev pub invariant-loop-hash : goal.invariant-loop-hash
invariant-loop-hash g l =
    (goal.iterator-loop-hash g).can_next l.hash-iterator
    × (goal.iterator-loop-hash g).is_finite l.hash-iterator
    × (length (into_iter_items l.hash-iterator) ≤ l.self.room)
    × HasDistinctKeys (rows_of (into_iter_items l.hash-iterator))
    × AreNew l.self.slots (rows_of (into_iter_items l.hash-iterator))
    × ((new : List Slot) → EnterAll l.self.slots (rows_of (into_iter_items l.hash-iterator)) new → EnterAll l.initial.self.slots (rows_of (into_iter_items l.initial.hash-iterator)) new)
    × (l.self.hasher ≡ l.initial.self.hasher)
    × (l.self.ready ≡ l.initial.self.ready)
    × AreHashed (g.H.KeyHash.hash l.self.hasher) (into_iter_items l.hash-iterator)
    × (into_iter_len l.hash-iterator ≡ length (into_iter_items l.hash-iterator))
