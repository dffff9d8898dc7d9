-- Access to tables (stdlib manual, module ets, section Table Access Rights).
use Rattle.std.specs.Prelude.{ℕ, ◌==◌, ◌||◌, Bool, true, false}
use Rattle.ownership.specs.declared.metadata.Protection.{Protection}
use Rattle.ownership.specs.declared.metadata.Protection.TheVariants.{Public, Protected, Private}
use Rattle.ownership.specs.declared.metadata.Metadata.{Metadata}

-- whether processes other than the owner may read
abbrev pub others_read : Protection → Bool
others_read Public = true
others_read Protected = true
others_read Private = false

-- whether processes other than the owner may write
abbrev pub others_write : Protection → Bool
others_write Public = true
others_write Protected = false
others_write Private = false

-- whether a process owns the table
abbrev pub is_owner : Metadata → ℕ → Bool
is_owner metadata p = metadata.owner == p

-- whether a process may read the table
abbrev pub may_read : Metadata → ℕ → Bool
may_read metadata p = is_owner metadata p || others_read metadata.protection

-- whether a process may write to the table
abbrev pub may_write : Metadata → ℕ → Bool
may_write metadata p = is_owner metadata p || others_write metadata.protection
