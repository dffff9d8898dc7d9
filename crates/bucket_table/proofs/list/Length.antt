-- The number of slots after each change.
use Rattle.std.proofs.Common.{◌≡◌, suc, ◌+◌, List, [], ◌∷◌, length, Some, Bool, true, false, cond, refl, ap, arith}
use Rattle.std.specs.Map.{lookup, remove_entry, set_value}
use Rattle.std.proofs.lemmas.List.{length-append}
use Rattle.ets_term.specs.declared.term.Term.{Term}
use Rattle.bucket_table.specs.Slots.{Slot, Enters}

pub length-added : (old new : List Slot) (key : Term) (objects : List Term) → Enters old key objects new → length new ≡ length old + 1
length-added old new key objects a =
    omega (arith, ap length a.before, ap length a.after, length-append a.front a.back, length-append a.front ((key, objects) ∷ a.back))

pub length-set_value : (test : Term → Bool) (ss : List Slot) (w : List Term) → length (set_value test ss w) ≡ length ss
length-set_value test [] w = refl
length-set_value test (s ∷ ss) w =
    elim (test s.0) as (λ b. length (cond b ((s.0, w) ∷ ss) (s ∷ set_value test ss w)) ≡ suc (length ss)) [ true ↦ refl | false ↦ ap suc (length-set_value test ss w) ]

removed-step : (test : Term → Bool) (s : Slot) (ss : List Slot) (b : Bool) (w : List Term) → cond b (Some s.1) (lookup test ss) ≡ Some w → (lookup test ss ≡ Some w → length (remove_entry test ss) + 1 ≡ length ss) → length (cond b ss (s ∷ remove_entry test ss)) + 1 ≡ length (s ∷ ss)
removed-step test s ss true w e ih = omega arith
removed-step test s ss false w e ih = omega (arith, ih e)

pub length-removed : (test : Term → Bool) (ss : List Slot) (w : List Term) → lookup test ss ≡ Some w → length (remove_entry test ss) + 1 ≡ length ss
length-removed test [] w e = absurd (cc)
length-removed test (s ∷ ss) w e = removed-step test s ss (test s.0) w e (length-removed test ss w)
