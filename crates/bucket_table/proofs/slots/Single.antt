-- A slot that has one object.
use Rattle.std.proofs.Common.{◌≡◌, ℕ, unwrap_or, ◌∙◌, sym, ap, false, List, [], ◌∷◌, Option, Some, None, IsSome, subst, arith, refl, slice_get, slice_set, length, ◌<◌}
use Rattle.std.proofs.lemmas.Option.{same_Some}
use Rattle.ets_term.specs.declared.term.Term.{Term}
use Rattle.packed_term.specs.Elements.{with_element}
use Rattle.node_list.specs.Chains.{with_element_in_first}
use Rattle.bucket_table.specs.Slots.{Slot, has_objects}
use Rattle.bucket_table.specs.Entries.{HasOneObject, objects_in, with_objects_in, with_element_in}

-- The slot has a place.
pub one-exists : (slots : List Slot) (at : Option Term) → HasOneObject slots at → IsSome at
one-exists slots None h = absurd (cc)
one-exists slots (Some key) h = refl

-- The returned object is replaced by another.
pub record IsSwapped (was : List Term) (result object : Term) (new : List Term) : Type 0 where
  pub read : was ≡ result ∷ []
  pub written : new ≡ object ∷ []

pub swapped : (slots : List Slot) (at : Option Term) (was new : List Term) (result object : Term) → HasOneObject slots at → objects_in slots at ≡ Some was → slice_get was 0 ≡ Some result → new ≡ slice_set was 0 object → IsSwapped was result object new
swapped slots at was new result object h e r w =
    let is : was ≡ h.0 ∷ [] = same_Some _ _ (sym e ∙ h.1) in
    let own : Some h.0 ≡ Some result = sym (ap (λ (l : List Term). slice_get l 0) is) ∙ r in
    record {
      read = is ∙ ap (λ (t : Term). t ∷ []) (same_Some _ _ own);
      written = w ∙ ap (λ (l : List Term). slice_set l 0 object) is;
    }

pub no-tombstone : (new : List Term) (object : Term) → new ≡ object ∷ [] → has_objects new ≡ false → ⊥
no-tombstone new object e h = absurd (cc)

-- There is one object to replace.
pub one-long : (slots : List Slot) (at : Option Term) (was : List Term) → HasOneObject slots at → objects_in slots at ≡ Some was → 0 < length was
one-long slots at was h e =
    let is : was ≡ h.0 ∷ [] = same_Some _ _ (sym e ∙ h.1) in
    subst (λ (l : List Term). 0 < length l) (sym is) (omega arith)

-- The only object with another element is the only object.
pub element-one : (slots : List Slot) (at : Option Term) (was new : List Term) (index : ℕ) (value : Term) → (h : HasOneObject slots at) → objects_in slots at ≡ Some was → new ≡ with_element_in_first index value was
    → new ≡ with_element index value h.0 ∷ []
element-one slots at was new index value h e w = w ∙ ap (with_element_in_first index value) (same_Some _ _ (sym e ∙ h.1))

-- The objects with another element in the first one are the objects of the slot with this element.
pub element-in : (slots : List Slot) (at : Option Term) (was new : List Term) (index : ℕ) (value : Term) → objects_in slots at ≡ Some was → new ≡ with_element_in_first index value was
    → with_objects_in slots at new ≡ with_element_in slots at index value
element-in slots at was new index value e w = ap (with_objects_in slots at) (w ∙ ap (λ (o : Option (List Term)). with_element_in_first index value (unwrap_or o [])) (sym e))
