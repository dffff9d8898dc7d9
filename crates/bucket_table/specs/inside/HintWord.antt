-- A hint in one word: the greatest number is unknown, and the one below it is empty.
use Rattle.std.specs.Prelude.{◌≡◌, ℕ, ◌<◌, ◌^◌, ◌-◌, Bool, true, false, nat_eq, if◌then◌else◌, Option, Some, None, refl}
use Rattle.std.proofs.lemmas.Bool.{eqb-true}
use Rattle.std.proofs.Common.{sym, ap}
use Rattle.bucket_table.specs.declared.split.hint.Hint.TheInside.{Inside}

-- Unknown; known to be empty; or a known place.
abbrev pub hint_of : ℕ → Option (Option ℕ)
hint_of word =
    if nat_eq word (2 ^ 32 - 1) then None else (if nat_eq word (2 ^ 32 - 2) then Some None else Some (Some word))

abbrev pub word_of : Option (Option ℕ) → ℕ
word_of None = 2 ^ 32 - 1
word_of (Some None) = 2 ^ 32 - 2
word_of (Some (Some place)) = place

same-word : (w : ℕ) (a b : Bool) → nat_eq w (2 ^ 32 - 1) ≡ a → nat_eq w (2 ^ 32 - 2) ≡ b
    → word_of (if a then None else (if b then Some None else Some (Some w))) ≡ w
same-word w true b e f = sym (eqb-true w (2 ^ 32 - 1) e)
same-word w false true e f = sym (eqb-true w (2 ^ 32 - 2) f)
same-word w false false e f = refl

pub hint_back : (a : Inside) → a.word < 2 ^ 32 → let r : Inside = record { word = word_of (hint_of a.word) } in r ≡ a
hint_back a h =
    ap (λ (z : ℕ). let r : Inside = record { word = z } in r)
    (same-word a.word (nat_eq a.word (2 ^ 32 - 1)) (nat_eq a.word (2 ^ 32 - 2)) refl refl)
