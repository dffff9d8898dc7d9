use Rattle.std.proofs.Common.{◌≡◌, ◌≤◌, take, length, vec_len, vec_capacity}
use Rattle.ets_term.proofs.term.+copy.Given as goal

abbrev pub invariant-copy_items-loop-item : goal.invariant-copy_items-loop-item
invariant-copy_items-loop-item l = record {
  copied : l.copies.items ≡ take l.item-index l.items;
  count : vec_len l.copies ≡ l.item-index;
  room : length l.items ≤ vec_capacity l.copies;
}
