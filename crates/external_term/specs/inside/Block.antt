-- The block in which a form is made before a writer takes it.
use Rattle.std.specs.Prelude.{ℕ}

-- the number of its bytes
abbrev pub block_bytes : ℕ
block_bytes = 320
