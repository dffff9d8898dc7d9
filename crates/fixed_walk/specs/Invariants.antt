-- The state of a table with its fixes, and what holds of it between calls.
use Rattle.std.specs.Prelude.{◌≡◌, false, true, List, ◌≢◌, ◌↔◌, ◌<◌, ℕ, Some}
use Rattle.std.specs.List.{AllByRecursion}
use Rattle.bucket_table.specs.Slots.{Slot, has_objects}
use Rattle.table_ops.specs.ContentState.{ContentState}
use Rattle.fixed_walk.specs.Fixes.{is_fixed, FixCounts, fix_count}
use Rattle.fixed_walk.specs.TableState.{TableState}
use Rattle.std.specs.FinMap as map

-- the state of a table with these fixes
abbrev pub with_fixes : ContentState → FixCounts → TableState
with_fixes table fixes =
    record { content = table.content; buckets = table.buckets; fixes = fixes }

-- there are no tombstones: each slot has objects
abbrev pub HasNoTombstones : List Slot → Type 0
HasNoTombstones slots = AllByRecursion (λ slot. has_objects slot.1 ≡ true) slots

-- there are tombstones only while the table is fixed
abbrev pub TombstonesOnlyWhileFixed : TableState → Type 0
TombstonesOnlyWhileFixed table = is_fixed table.fixes ≡ false → HasNoTombstones table.content.slots

-- each entry is above zero
abbrev pub AreCounted : FixCounts → Type 0
AreCounted fixes = (pid : ℕ) → map.get fixes pid ≢ Some 0

-- the table is fixed exactly if some process has a number of fixes above zero
abbrev pub IsFixedBySome : FixCounts → Type 0
IsFixedBySome fixes = (is_fixed fixes ≡ true) ↔ ((pid : ℕ) × (0 < fix_count fixes pid))
