-- Empty states are the parts of an empty state.
use Rattle.std.proofs.Common.{◌≡◌, ℕ, zero, suc, List, [], ◌∷◌, Some, refl, subst, map, arith}
use Rattle.std.specs.Prelude.{slice_get}
use Rattle.std.specs.List.{flat_map, sum, sum_by}
use Rattle.std.proofs.lemmas.List.Sums.{sum_by-cons}
use Rattle.ets_term.specs.declared.term.Term.{Term}
use Rattle.node_core.specs.declared.limits.Limits.{Limits}
use Rattle.node_core.specs.State.{State, empty}
use Rattle.node_core.specs.laws.Kept.{slots_in}
use Rattle.node_parts.specs.Laws.{EmptyStatesAreParts}
use Rattle.node_parts.specs.Parts.{limit_in, limit_of_new, IsPart, ShareAllRoom, empty_part}

module _ (part_of : ℕ → Term → ℕ) (limits : Limits) where
  one : (n k : ℕ) → IsPart part_of (empty limits) k (empty_part limits n)
  one n k = record { same = refl; keys = λ t. tt; contents = λ t table at. cc }

  each : (rooms : List ℕ) (k j : ℕ) (part : State) → slice_get (map (empty_part limits) rooms) k ≡ Some part → IsPart part_of (empty limits) j part
  each [] k j part e = cc
  each (n ∷ rooms) zero j part e = let is : empty_part limits n ≡ part = cc in subst (IsPart part_of (empty limits) j) is (one n j)
  each (n ∷ rooms) (suc k) j part e = each rooms k j part e

  no-slots : (rooms : List ℕ) (t : ℕ) → [] ≡ flat_map (slots_in t) (map (empty_part limits) rooms)
  no-slots [] t = refl
  no-slots (n ∷ rooms) t = no-slots rooms t

  no-limits : (rooms : List ℕ) (t : ℕ) → sum_by (limit_in t) (map (empty_part limits) rooms) ≡ 0
  no-limits [] t = refl
  no-limits (n ∷ rooms) t = omega (arith, sum_by-cons (limit_in t) (empty_part limits n) (map (empty_part limits) rooms), no-limits rooms t)

  new-limits : (rooms : List ℕ) → sum_by limit_of_new (map (empty_part limits) rooms) ≡ sum_by (λ n. n) rooms
  new-limits [] = refl
  new-limits (n ∷ rooms) = omega (arith, sum_by-cons limit_of_new (empty_part limits n) (map (empty_part limits) rooms), sum_by-cons (λ (n : ℕ). n) n rooms, new-limits rooms)

pub empties-are-parts : EmptyStatesAreParts
empties-are-parts part_of limits rooms few = record {
  each = λ k part e. each part_of limits rooms k k part e;
  slots = λ t. no-slots part_of limits rooms t;
  limits = λ t. omega (arith, no-limits part_of limits rooms t);
  new_limits = omega (arith, new-limits part_of limits rooms, few);
}

pub empties-share : (limits : Limits) (rooms : List ℕ) → sum rooms ≡ limits.objects → ShareAllRoom (map (empty_part limits) rooms) (empty limits)
empties-share limits rooms all = record {
  tables = λ t. no-limits (λ u key. 0) limits rooms t;
  new_tables = omega (arith, new-limits (λ u key. 0) limits rooms, all);
}
