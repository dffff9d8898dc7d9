-- The world after the borrow of a table.
use Rattle.std.specs.Prelude.{ℕ, Option}
use Rattle.std.specs.Borrow.{Lends, LendsIf, MutBor, Fml, RattleType}
use Rattle.bucket_table.specs.declared.rows.Rows.{Ghosts}
use Rattle.fixed_walk.specs.TableState.{TableState}
use Rattle.fixed_walk.specs.contracts.walked.Walked as walked
use Rattle.ownership.specs.contracts.table.OwnedTable as table
use Rattle.ownership.specs.contracts.world.World as world
use Rattle.ownership.specs.World.{Table, World, with_state}

module _ (R : RattleType) (rows : Ghosts R.Denot) where
  -- the table keeps its metadata
  abbrev pub LendsFixed : MutBor Table → MutBor TableState → Fml
  LendsFixed s lent =
      Lends (table.the_row R rows) (walked.the_row R rows) s lent (λ f. record s.now { state = f })

  -- everything else in the world stays
  abbrev pub LendsTable : MutBor World → ℕ → Option (MutBor TableState) → Fml
  LendsTable s t lent =
      LendsIf (world.the_row R rows) (walked.the_row R rows)
      s lent (λ f. record s.now { tables = with_state s.now.tables t f }) s.now
