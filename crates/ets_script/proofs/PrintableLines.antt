-- Lines whose bytes are all clean.
use Rattle.std.proofs.Common.{◌≡◌, ℕ, Bool, true, List, [], ◌∷◌, length, refl, arith}
use Rattle.std.proofs.lemmas.Bool.{and_parts}
use Rattle.std.specs.List.{prefix_len, list_all}

-- where all pass, the front that passes is the whole
pub whole : (p : ℕ → Bool) (bs : List ℕ) → list_all p bs ≡ true → length bs ≡ prefix_len p bs
whole p [] e = refl
whole p (b ∷ bs) e =
    let parts = and_parts (p b) (list_all p bs) e in
    let others = whole p bs parts.1 in
    rw parts.0 (omega (arith, others))
