-- The result of readying a bucket of rows.
use Rattle.std.specs.Prelude.{◌≡◌, ℕ, ◌≤◌, ◌<◌, Bool, true, false, List, length, get_or, set}
use Rattle.bucket_table.specs.declared.growth.Readying.{Readying}
use Rattle.bucket_table.specs.declared.growth.Readying.TheVariants.{Ready, AlreadyReady, NotABucket}

-- The result of a readying: the bucket was not ready and is now; or it was ready before; or no bucket has this number.
abbrev pub IsReadied : ℕ → List Bool → Readying → List Bool → Type 0
IsReadied bucket old Ready new = (bucket < length old) × (get_or old bucket true ≡ false) × (new ≡ set old bucket true)
IsReadied bucket old AlreadyReady new = (get_or old bucket false ≡ true) × (new ≡ old)
IsReadied bucket old NotABucket new = (length old ≤ bucket) × (new ≡ old)
