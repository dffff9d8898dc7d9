-- The fixes of a table, from the box that the first fix makes.
use Rattle.std.specs.Prelude.{Option, None, Some, Box}
use Rattle.std.specs.Global.{Global}
use Rattle.std.specs.FinMap as map
use Rattle.fixed_walk.specs.Fixes.{FixCounts}

-- without a box there are no fixes
abbrev pub boxed_fixes : Option (Box FixCounts Global) → FixCounts
boxed_fixes None = map.empty
boxed_fixes (Some box) = box.value
