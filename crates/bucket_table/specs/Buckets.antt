-- The result of doubling the buckets of rows, each of them ready or not.
use Rattle.std.specs.Prelude.{◌≡◌, ℕ, Bool, false, List, ◌++◌, length, replicate}
use Rattle.bucket_table.specs.declared.growth.Growth.{Growth}
use Rattle.bucket_table.specs.declared.growth.Growth.TheVariants.{Grown, AtMost}

-- The result of a doubling: the number of buckets is doubled, each old bucket is ready as before and no new bucket is; or
-- nothing changes, because the number is the greatest.
abbrev pub IsGrown : ℕ → List Bool → Growth → List Bool → Type 0
IsGrown most old Grown new = new ≡ old ++ replicate (length old) false
IsGrown most old AtMost new = (new ≡ old) × (length old ≡ most)
