-- The new value of a counter (stdlib manual, module ets, update_counter/3). Sums are exact.
use Rattle.std.specs.Prelude.{◌+ℤ◌, Bool, if◌then◌else◌, ℤ, pos, int_le, int_lt, Option, Some, None}
use Rattle.counters.specs.declared.ops.Op.{Op}
use Rattle.counters.specs.declared.ops.Threshold.{Threshold}

-- whether a sum is past the threshold: greater if the counter counts up, or less if it counts down
abbrev pub is_past : ℤ → ℤ → ℤ → Bool
is_past increment threshold sum = if int_le (pos 0) increment then int_lt threshold sum else int_lt sum threshold

-- the sum, or SetValue if the sum is past the threshold
abbrev pub or_set_value : ℤ → Option Threshold → ℤ → ℤ
or_set_value increment None sum = sum
or_set_value increment (Some threshold) sum = if is_past increment threshold.value sum then threshold.set_value else sum

-- the value of a counter after one operation
abbrev pub new_value : Op → ℤ → ℤ
new_value op value = or_set_value op.increment op.threshold (value +ℤ op.increment)
