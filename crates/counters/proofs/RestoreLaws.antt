-- Writing the undo log back gives the elements from before the operations.
use Rattle.std.proofs.Common.{◌≡◌, ◌∙◌, ℕ, zero, suc, ◌≤◌, arith, ℤ, List, [], ◌∷◌, ◌++◌, Some, refl, sym, ap, set, slice_get, length}
use Rattle.std.proofs.lemmas.List.{set-set, set-get_or}
use Rattle.std.proofs.lemmas.Option.{get_or_from_slice_get}
use Rattle.ets_term.specs.declared.term.Term.{Term}
use Rattle.ets_term.specs.declared.term.Term.TheVariants.{Int}
use Rattle.counters.specs.declared.list.Overwritten.{Overwritten}
use Rattle.counters.specs.inside.Lists.{restore}

pub restore_push : (overwritten : List Overwritten) (last : Overwritten) (elements : List Term) → restore (overwritten ++ last ∷ []) elements ≡ restore overwritten (set elements last.at (Int last.value))
restore_push [] last elements = refl
restore_push (first ∷ rest) last elements = ap (λ es. set es first.at (Int first.value)) (restore_push rest last elements)

pub set-restored : (elements : List Term) (at : ℕ) (value : ℤ) (new : Term) → slice_get elements at ≡ Some (Int value) → set (set elements at new) at (Int value) ≡ elements
set-restored elements at value new e = set-set elements at new (Int value) ∙ ap (set elements at) (sym (get_or_from_slice_get elements at (Int value) (Int value) e)) ∙ set-get_or elements at (Int value)

pub restore-next : (overwritten more : List Overwritten) (elements after : List Term) (last : Overwritten) (new : Term) → slice_get elements last.at ≡ Some (Int last.value) → more ≡ overwritten ++ last ∷ [] → after ≡ set elements last.at new → restore more after ≡ restore overwritten elements
restore-next overwritten more elements after last new e m a = ap (λ ss. restore ss after) m ∙ restore_push overwritten last after ∙ ap (restore overwritten) (ap (λ es. set es last.at (Int last.value)) a ∙ set-restored elements last.at last.value new e)

pub set-past_end : (elements : List Term) (at : ℕ) (value : Term) → length elements ≤ at → set elements at value ≡ elements
set-past_end [] at value p = refl
set-past_end (e ∷ es) zero value p = absurd (grind arith)
set-past_end (e ∷ es) (suc at) value p = ap (λ ts. e ∷ ts) (set-past_end es at value (grind arith))

pub one_back : (overwritten rest : List Overwritten) (last : Overwritten) (elements : List Term) → overwritten ≡ rest ++ last ∷ [] → length elements ≤ last.at → restore overwritten elements ≡ restore rest elements
one_back overwritten rest last elements s p = ap (λ ss. restore ss elements) s ∙ restore_push rest last elements ∙ ap (restore rest) (set-past_end elements last.at (Int last.value) p)
