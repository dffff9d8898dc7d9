-- Elements at a position, and all objects, as the list grows by one.
use Rattle.std.proofs.Common.{◌≡◌, ℕ, zero, suc, ◌+◌, ◌<◌, List, [], ◌∷◌, ◌++◌, Option, None, Some, refl, sym, ap, ◌∙◌, length, take, slice_get, append_assoc, add-one, arith}
use Rattle.std.proofs.lemmas.List.{append-nil}
use Rattle.std.specs.Option.{option_map, option_and_then}
use Rattle.ets_term.specs.declared.term.Term.{Term}
use Rattle.ets_term.specs.declared.term.Term.TheVariants.{List as list_term}
use Rattle.ets_term.specs.Depth.{element_at}
use Rattle.bucket_table.specs.Slots.{Slot}
use Rattle.table_ops.specs.declared.kind.Kind.TheVariants.{Bag}
use Rattle.table_ops.specs.Read.{all_objects, elements_at, lookup_element}

more-at : (o : Option Term) (r : Option (List Term)) (x : Term) (xs : List Term) → o ≡ Some x → r ≡ Some xs → option_and_then (λ e. option_map (λ es. e ∷ es) r) o ≡ Some (x ∷ xs)
more-at None r x xs h g = cc
more-at (Some e) None x xs h g = cc
more-at (Some e) (Some es) x xs h g = let a : e ≡ x = cc in let b : es ≡ xs = cc in λ i. Some (a i ∷ b i)

some-at : (o : Option Term) (r : Option (List Term)) (xs : List Term) → option_and_then (λ e. option_map (λ es. e ∷ es) r) o ≡ Some xs → (e : Term) × (es : List Term) × (o ≡ Some e) × (r ≡ Some es) × (e ∷ es ≡ xs)
some-at None r xs h = cc
some-at (Some e) None xs h = cc
some-at (Some e) (Some es) xs h = let a : e ∷ es ≡ xs = cc in (e, es, refl, refl, a)

-- one more element
pub elements-push : (position : ℕ) (objects : List Term) (es : List Term) (object e : Term) → elements_at position objects ≡ Some es → element_at position object ≡ Some e → elements_at position (objects ++ object ∷ []) ≡ Some (es ++ e ∷ [])
elements-push position [] es object e h g = let none : es ≡ [] = cc in more-at (element_at position object) (Some []) e [] g refl ∙ (λ i. Some (sym none i ++ e ∷ []))
elements-push position (o ∷ os) es object e h g =
    let s = some-at (element_at position o) (elements_at position os) es h in
    more-at (element_at position o) (elements_at position (os ++ object ∷ [])) s.0 (s.1 ++ e ∷ []) s.2 (elements-push position os s.1 object e s.3 g) ∙ ap (λ l. Some (l ++ e ∷ [])) s.4

none-first : (o : Option Term) (r : Option (List Term)) → o ≡ None → option_and_then (λ e. option_map (λ es. e ∷ es) r) o ≡ None
none-first None r h = refl
none-first (Some e) r h = cc

none-rest : (o : Option Term) (r : Option (List Term)) → r ≡ None → option_and_then (λ e. option_map (λ es. e ∷ es) r) o ≡ None
none-rest None r h = refl
none-rest (Some e) None h = refl
none-rest (Some e) (Some es) h = cc

elements-none : (position : ℕ) (objects : List Term) (i : ℕ) (object : Term) → slice_get objects i ≡ Some object → element_at position object ≡ None → elements_at position objects ≡ None
elements-none position [] i object h g = cc
elements-none position (o ∷ os) zero object h g = let is : o ≡ object = cc in none-first (element_at position o) (elements_at position os) (ap (element_at position) is ∙ g)
elements-none position (o ∷ os) (suc i) object h g = none-rest (element_at position o) (elements_at position os) (elements-none position os i object h g)

-- one of the objects has no such element
pub lookup_element-none : (position : ℕ) (objects : List Term) (i : ℕ) (object : Term) → slice_get objects i ≡ Some object → element_at position object ≡ None → lookup_element Bag position objects ≡ None
lookup_element-none position [] i object h g = cc
lookup_element-none position (o ∷ os) i object h g = ap (option_map list_term) (elements-none position (o ∷ os) i object h g)

pub lookup_element-all : (position : ℕ) (objects : List Term) (es : List Term) → 0 < length objects → elements_at position objects ≡ Some es → lookup_element Bag position objects ≡ Some (list_term es)
lookup_element-all position [] es some h = absurd (omega (arith, some))
lookup_element-all position (o ∷ os) es some h = ap (option_map list_term) h

objects-more : (slots : List Slot) (i : ℕ) (s : Slot) → slice_get slots i ≡ Some s → all_objects (take (suc i) slots) ≡ all_objects (take i slots) ++ s.1
objects-more [] i s h = cc
objects-more (x ∷ xs) zero s h = let is : x ≡ s = cc in append-nil x.1 ∙ ap (λ (y : Slot). y.1) is
objects-more (x ∷ xs) (suc i) s h = ap (λ l. x.1 ++ l) (objects-more xs i s h) ∙ sym (append_assoc x.1 (all_objects (take i xs)) s.1)

pub objects-push : (slots : List Slot) (i : ℕ) (s : Slot) → slice_get slots i ≡ Some s → all_objects (take (i + 1) slots) ≡ all_objects (take i slots) ++ s.1
objects-push slots i s h = rw add-one (objects-more slots i s h)
