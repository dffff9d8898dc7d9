-- A table with its fixes, and what fixing and releasing it do (stdlib manual, module ets, safe_fixtable/2).
use Rattle.std.specs.Prelude.{◌≡◌, ℕ, ◌+◌, ◌-◌, ◌<◌, Bool, if◌then◌else◌, List, Result, Ok, Err}
use Rattle.table_ops.specs.Content.{Content}
use Rattle.table_ops.specs.Drop.{Which, without_those, without_held}
use Rattle.table_ops.specs.Outcomes.{Change}
use Rattle.fixed_walk.specs.declared.fault.FixFault.{FixFault}
use Rattle.fixed_walk.specs.declared.fault.FixFault.TheVariants.{SystemLimit, Memory}
use Rattle.fixed_walk.specs.Fixes.{FixCounts, max_fixes, fix_count, is_fixed, with_count}

-- the model state of a table: its content, for each bucket whether it is ready, and the fixes of each process
pub record TableState : Type 0 where
  pub content : Content
  pub buckets : List Bool
  pub fixes : FixCounts

-- a change of the content, as a change of the state that changes nothing else
abbrev pub on_content : {X : Type 0} → (Content → Change X Content) → TableState → Change X TableState
on_content change old r new =
    change old.content r new.content × (new ≡ record old { content = new.content })

-- the state of a table after these objects are deleted; if the table is fixed, a slot that loses its last object stays
-- as a tombstone
abbrev pub after_delete : Which → TableState → TableState
after_delete which table =
    record table { content = without_those (is_fixed table.fixes) which table.content }

-- the process has one more fix; system limit if it already has the greatest number of fixes
abbrev pub IncrementsFix : ℕ → TableState → Result (Unit {0}) FixFault → TableState → Type 0
IncrementsFix pid old (Ok done) new =
    (fix_count old.fixes pid < max_fixes)
    × (new ≡ record old { fixes = with_count old.fixes pid (fix_count old.fixes pid + 1) })
IncrementsFix pid old (Err SystemLimit) new = (fix_count old.fixes pid ≡ max_fixes) × (new ≡ old)
IncrementsFix pid old (Err Memory) new = (fix_count old.fixes pid < max_fixes) × (new ≡ old)

-- the state without tombstones, if the table is not fixed; else the state as it is
abbrev pub without_tombstones_if_unfixed : TableState → TableState
without_tombstones_if_unfixed table =
    if is_fixed table.fixes then table
    else record table { content = without_held table.content }

-- the state after one fix of a process is removed, if it has one; if the table is then not fixed, the tombstones are
-- removed
abbrev pub after_release : ℕ → TableState → TableState
after_release pid table =
    without_tombstones_if_unfixed (record table { fixes = with_count table.fixes pid (fix_count table.fixes pid - 1) })

-- the state after all fixes of a process are removed, as when it exits; if the table is then not fixed, the tombstones
-- are removed
abbrev pub after_release_all : ℕ → TableState → TableState
after_release_all pid table = without_tombstones_if_unfixed (record table { fixes = with_count table.fixes pid 0 })
