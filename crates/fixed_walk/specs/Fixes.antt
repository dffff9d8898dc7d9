-- The number of fixes of each process (stdlib manual, module ets, safe_fixtable/2).
use Rattle.std.specs.Prelude.{ℕ, zero, suc, nat_lt, Bool, unwrap_or}
use Rattle.std.specs.Ordering.{nat_cmp}
use Rattle.std.specs.FinMap as map

-- for each process the number of its fixes; a process without an entry has no fixes
abbrev pub FixCounts : Type 0
FixCounts = map.FinMap nat_cmp ℕ

-- the greatest number of fixes of a table by one process
abbrev pub max_fixes : ℕ
max_fixes = 4294967295

-- the number of fixes of a process
abbrev pub fix_count : FixCounts → ℕ → ℕ
fix_count fixes pid = unwrap_or (map.get fixes pid) 0

-- whether some process has a fix
abbrev pub is_fixed : FixCounts → Bool
is_fixed fixes = nat_lt 0 (map.len fixes)

-- the fixes after the number of a process is set to this one
abbrev pub with_count : FixCounts → ℕ → ℕ → FixCounts
with_count fixes pid zero = map.remove fixes pid
with_count fixes pid (suc n) = map.insert fixes pid (suc n)
