-- The numbers that digits spell.
use Rattle.std.proofs.Common.{◌≡◌, ◌+◌, ◌-◌, ◌*◌, ◌<◌, ◌≤◌, ℕ, suc, List, [], ◌∷◌, length, drop, get_or, drop-cons, arith, Bool, true, false, if◌then◌else◌}
use Rattle.std.proofs.lemmas.Bool.Decides.{nat_tests}
use Rattle.term_text.specs.Text.{is_digit, value_of_digits}

le-if : (c : Bool) (k m n : ℕ) → k ≤ m → k ≤ n → k ≤ (if c then m else n)
le-if true k m n h e = h
le-if false k m n h e = e

pub spelled_grows : (n : ℕ) (bs : List ℕ) → n ≤ value_of_digits n bs
spelled_grows n [] = omega arith
spelled_grows n (b ∷ bs) = let r = spelled_grows (n * 10 + (b - 48)) bs in le-if (is_digit b) n _ n (omega (arith, r)) (omega arith)

-- a number that is past the limit before its last digits is past it with them
pub past-limit : (bs : List ℕ) (at n limit : ℕ) → at < length bs → is_digit (get_or bs at 0) ≡ true → limit < n * 10 + (get_or bs at 0 - 48) → limit < value_of_digits n (drop at bs)
past-limit bs at n limit h d k = rw (drop-cons bs at 0) (rw d (let r = spelled_grows (n * 10 + (get_or bs at 0 - 48)) (drop (suc at) bs) in omega (arith, r)))

pub digit-small : (b : ℕ) → is_digit b ≡ true → b - 48 ≤ 9
unfolding is_digit
digit-small b h = grind (arith, nat_tests)
