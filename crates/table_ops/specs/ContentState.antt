-- The model state of a table without its fixes.
use Rattle.std.specs.Prelude.{Bool, List}
use Rattle.table_ops.specs.Content.{Content}

-- the model state of a table: its content, and for each bucket whether it is ready
pub record ContentState : Type 0 where
  pub content : Content
  pub buckets : List Bool
