use Rattle.std.proofs.Common.{◌≡◌, ◌+◌, ◌*◌, ◌/◌, ℕ, ◌∙◌, ap, arith}
use Rattle.split_key.specs.Keys.{rev}
use Rattle.split_key.proofs.Revs.{rev-twice}
use Rattle.bucket_table.proofs.split.index.buckets.item_hash.Goals as goal

half : (x : ℕ) → (2 * x + 1) / 2 ≡ x
half x = omega arith

pub returns : goal.returns
returns c = λ hash e. c.rev32.ensures ∙ (ap (λ (z : ℕ). rev 32 (z / 2)) e ∙ (ap (rev 32) (half (rev 32 hash)) ∙ rev-twice 32 hash))
