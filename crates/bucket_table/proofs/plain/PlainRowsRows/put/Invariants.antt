use Rattle.std.proofs.Common.{◌≡◌, ◌≤◌, ◌++◌, length}
use Rattle.std.specs.Vec.Iter.{into_iter_items, into_iter_len}
use Rattle.indexmap.specs.IndexMap.{spare}
use Rattle.bucket_table.proofs.plain.PlainRowsRows.put.Given as goal

abbrev pub invariant-loop-key : goal.invariant-loop-key
invariant-loop-key l = record {
  all : l.yielded ++ into_iter_items l.key-iterator ≡ l.fn.rows.items;
  len : into_iter_len l.key-iterator ≡ length (into_iter_items l.key-iterator);
  put : l.self.slots.entries ≡ l.fn.self.slots.entries ++ l.yielded;
  room : length (into_iter_items l.key-iterator) ≤ spare l.self.slots;
}
