-- Split keys, as numbers.
use Rattle.std.specs.Prelude.{◌≡◌, ℕ, zero, suc, ◌+◌, ◌*◌, ◌/◌, ◌%◌, ◌^◌, ◌<◌, ◌≤◌}

-- the low `k` bits of `n` in reverse order
unfoldable pub rev : ℕ → ℕ → ℕ
rev zero n = 0
rev (suc k) n = (n % 2) * 2 ^ k + rev k (n / 2)

-- the split key of an item with this hash: an odd number
abbrev pub key_of_item : ℕ → ℕ
key_of_item hash = 2 * rev 32 hash + 1

-- the split key of a bucket's dummy: an even number
abbrev pub key_of_dummy : ℕ → ℕ
key_of_dummy bucket = 2 * rev 32 bucket

-- the number is a power of two
abbrev pub IsPowerOfTwo : ℕ → Type 0
IsPowerOfTwo n = (j : ℕ) × (n ≡ 2 ^ j)

-- the split key is in the interval of the bucket, which begins at the split key of its dummy and is one of `size` equal
-- parts of all split keys
abbrev pub IsInBucket : ℕ → ℕ → ℕ → Type 0
IsInBucket key bucket size = (key_of_dummy bucket ≤ key) × (key < key_of_dummy bucket + 2 ^ 33 / size)

-- the second number is the first without its highest set bit, which has the value 2 ^ `top`
pub record IsWithoutTopBit (bucket parent : ℕ) : Type 0 where
  pub top : ℕ
  pub low : parent < 2 ^ top
  pub sum : bucket ≡ 2 ^ top + parent
