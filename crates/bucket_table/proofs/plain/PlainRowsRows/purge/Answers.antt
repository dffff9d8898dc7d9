use Rattle.std.proofs.Common.{rules}
use Rattle.indexmap.proofs.CallerLemmas.{filter-RetainsPairs}
use Rattle.bucket_table.proofs.plain.PlainRowsRows.purge.Goals as goal

pub returns-clause-now : goal.returns-clause-now
returns-clause-now c = filter-RetainsPairs _ _ _ (λ k v b w g call. search rules) _ _ c.retain.ensures.filtered
