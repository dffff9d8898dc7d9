-- The place of a name among names that differ.
use Rattle.std.proofs.Common.{◌≡◌, ℕ, ◌<◌, Bool, true, false, List, length, get_or, Some, None, refl, sym, ◌∙◌, arith, position, nat_lt, cond}
use Rattle.std.specs.List.{slice_get, position_or_len, IsDistinct}
use Rattle.std.proofs.lemmas.Option.{slice_get_within, get_or_from_slice_get}
use Rattle.std.proofs.lemmas.List.Sums.{position_or_len_is}
use Rattle.std.specs.Str.{bytes_eq}
use Rattle.std.proofs.lemmas.Slice.Eq.{bytes_eq-Decides}
use Rattle.std.proofs.lemmas.Map.Keys.{apart_from_distinct}
use Rattle.std.proofs.lemmas.Bool.Decides.{nat_tests}

fails : (t u z : Bool) → t ≡ z → u ≡ false → (t ≡ true → u ≡ true) → t ≡ false
fails t u true e off same = cc (e, off, same e)
fails t u false e off same = e

placed : (n i m : ℕ) → n ≡ i → i < m → cond (nat_lt n m) (Some n) None ≡ Some i
placed n i m e within = grind (arith, nat_tests, e, within)

-- where distinct elements pass, the first place that passes is the only one
pub first-place : {X : Type 0} {e : X → X → Bool} (p : X → Bool) → ((x y : X) → p x ≡ true → p y ≡ true → e x y ≡ true) → (xs : List X) (i : ℕ) (x : X) → IsDistinct e xs → slice_get xs i ≡ Some x → p x ≡ true
    → position p xs ≡ Some i
first-place {X} {e} p same xs i x distinct at passes =
    let within : i < length xs = slice_get_within xs i x at in
    let here : get_or xs i x ≡ x = get_or_from_slice_get xs i x x at in
    let passing : p (get_or xs i x) ≡ true = rw here passes in
    let place : position_or_len p xs ≡ i = position_or_len_is p xs i x (omega arith)
    (λ k below. fails (p (get_or xs k x)) (e (get_or xs k x) (get_or xs i x)) (p (get_or xs k x)) refl (apart_from_distinct e xs k i x distinct below within) (λ t. same (get_or xs k x) (get_or xs i x) t passing))
    (λ _. passing) in
    placed (position_or_len p xs) i (length xs) place within

-- two that are equal to a name are equal
pub same-name : (name x y : List ℕ) → bytes_eq name x ≡ true → bytes_eq name y ≡ true → bytes_eq x y ≡ true
same-name name x y a b = (bytes_eq-Decides x y).1 (sym ((bytes_eq-Decides name x).0 a) ∙ (bytes_eq-Decides name y).0 b)
