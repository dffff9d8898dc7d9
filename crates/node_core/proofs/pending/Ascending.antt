-- Numbers of tables in ascending order.
use Rattle.std.proofs.Common.{inl, inr, ◌≡◌, ℕ, ◌+◌, ◌-◌, ◌<◌, ◌≤◌, zero, suc, List, length, get_or, Err, sym, ap, subst, arith, refl, ◌∙◌}
use Rattle.std.specs.List.{insert}
use Rattle.std.specs.Ordering.{nat_cmp}
use Rattle.std.specs.List.Sorted.{IsBinarySearchResult}
use Rattle.std.proofs.lemmas.Bool.{cases_lt}
use Rattle.std.proofs.lemmas.List.Sorted.{searched}
use Rattle.std.proofs.lemmas.List.Edits.{length-insert, get_or-insert_below, get_or-insert_at, get_or-insert_above}
use Rattle.node_core.specs.inside.PendingTables.{Ascends, IsAmong, AreBelow}

-- each is at least its place
at-least : (xs : List ℕ) → Ascends xs → (i : ℕ) → i < length xs → i ≤ get_or xs i 0
at-least xs up zero h = omega arith
at-least xs up (suc i) h = omega (arith, at-least xs up i (omega (arith, h)), up i (suc i) (omega arith) h)

-- those below a bound are no more than it
pub few : (xs : List ℕ) (n : ℕ) → Ascends xs → AreBelow xs n → length xs ≤ n
few xs n up below = few_at (length xs) refl
  where
    few_at : (k : ℕ) → length xs ≡ k → length xs ≤ n
    few_at zero e = omega (arith, e)
    few_at (suc k) e = omega (arith, e, at-least xs up k (omega (arith, e)), below k (omega (arith, e)))

-- the place for one that is not there
pub record IsGap (xs : List ℕ) (x i : ℕ) : Type 0 where
  pub inside : i ≤ length xs
  pub before : (k : ℕ) → k < i → get_or xs k 0 < x
  pub behind : (k : ℕ) → i ≤ k → k < length xs → x < get_or xs k 0

-- a binary search that does not find it ends there
pub gap-of : (xs : List ℕ) (x i : ℕ) → Ascends xs → IsBinarySearchResult (λ y. nat_cmp y x) xs (Err i) → IsGap xs x i
gap-of xs x i up found =
    let said = searched xs x (Err i) found (λ a b h k. elim (cases_lt a b) [ inl less ↦ omega (arith, up a b less k) | inr past ↦ omega (arith, ap (λ q. get_or xs q 0) (same a b h past)) ]) in
    record { inside = said.0; before = said.1; behind = said.2 }
  where
    same : (a b : ℕ) → a ≤ b → b ≤ a → a ≡ b
    same a b h k = omega (arith, h, k)

module _ (xs : List ℕ) (x i : ℕ) (gap : IsGap xs x i) where
  new-below : (k : ℕ) → k < i → get_or (insert xs i x) k 0 ≡ get_or xs k 0
  new-below k h = get_or-insert_below xs i x 0 k h gap.inside

  new-at : (k : ℕ) → k ≡ i → get_or (insert xs i x) k 0 ≡ x
  new-at k e = subst (λ q. get_or (insert xs i x) q 0 ≡ x) (sym e) (get_or-insert_at xs i x 0 gap.inside)

  new-above : (k : ℕ) → i < k → get_or (insert xs i x) k 0 ≡ get_or xs (k - 1) 0
  new-above k h = subst (λ q. get_or (insert xs i x) q 0 ≡ get_or xs (k - 1) 0) {x = k - 1 + 1} (omega (arith, h)) (get_or-insert_above xs i x 0 (k - 1) (omega (arith, h)) gap.inside)

  longer : length (insert xs i x) ≡ length xs + 1
  longer = length-insert xs i x gap.inside

  pub ascends-with : Ascends xs → Ascends (insert xs i x)
  ascends-with up a b h k =
      grind (arith, longer, new-below a, new-at a, new-above a, new-below b, new-at b, new-above b, up a b, up a (b - 1), up (a - 1) (b - 1), gap.before a, gap.behind (b - 1))

  pub below-with : (n : ℕ) → AreBelow xs n → x < n → AreBelow (insert xs i x) n
  below-with n below less a h = grind (arith, longer, new-below a, new-at a, new-above a, below a, below (a - 1))

  -- below a bound there is room for it
  pub room-with : (n : ℕ) → Ascends xs → AreBelow xs n → x < n → length xs + 1 ≤ n
  room-with n up below less = omega (arith, few (insert xs i x) n (ascends-with up) (below-with n below less), longer)

  pub among-with : IsAmong (insert xs i x) x
  among-with = record { place = i; inside = omega (arith, longer, gap.inside); here = new-at i refl }

  pub among-still : (y : ℕ) → IsAmong xs y → IsAmong (insert xs i x) y
  among-still y among = elim (cases_lt among.place i) [
    | inl h ↦ record { place = among.place; inside = omega (arith, longer, among.inside); here = new-below among.place h ∙ among.here }
    | inr h ↦ record { place = among.place + 1; inside = omega (arith, longer, among.inside); here = get_or-insert_above xs i x 0 among.place (omega (arith, h)) gap.inside ∙ among.here }
  ]
