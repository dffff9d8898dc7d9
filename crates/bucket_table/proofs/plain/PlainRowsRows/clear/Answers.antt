use Rattle.std.proofs.Common.{rules}
use Rattle.indexmap.proofs.CallerLemmas.{filter-RetainsPairs}
use Rattle.bucket_table.proofs.slots.Index.{map-RetainsPairs}
use Rattle.bucket_table.proofs.plain.PlainRowsRows.clear.Goals as goal

pub returns-then-hold-clause-now : goal.returns-then-hold-clause-now
returns-then-hold-clause-now c = rw c.if-hold.true (map-RetainsPairs _ _ _ (λ k v b w g call. search rules) _ _ c.retain.ensures.filtered)

pub returns-else-hold-clause-now : goal.returns-else-hold-clause-now
returns-else-hold-clause-now c = rw c.if-hold.false (filter-RetainsPairs _ _ _ (λ k v b w g call. search rules) _ _ c.retain-else-hold.ensures.filtered)
