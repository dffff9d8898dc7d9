-- The reader, one step after another.
use Rattle.std.proofs.Common.{◌≡◌, ℕ, zero, suc, ◌+◌, ◌-◌, ◌<◌, ◌≤◌, List, [], ◌∷◌, ◌++◌, length, get_or, refl, sym, ap, ◌∙◌, subst, arith, Result, Ok, Err, Bool, true, false, nat_le, nat_lt}
use Rattle.std.proofs.lemmas.Bool.Decides.{nat_tests}
use Rattle.ets_term.specs.declared.term.Term.{Term}
use Rattle.external_term.specs.declared.fault.ExternalFault.{ExternalFault}
use Rattle.external_term.specs.declared.fault.ExternalFault.TheVariants.{Truncated, BadVersion, UnsupportedTag, TooDeep, ImproperList, BadAtom, BadInteger, ForeignIdentifier, Memory}
use Rattle.external_term.specs.Faults.{FailsOrMemory, ReturnsOrMemory}
use Rattle.external_term.specs.Fields.{Read}
use Rattle.external_term.specs.Reader.{items, items_if, items_at, form, form_if, term_at}
use Rattle.external_term.specs.Tags.{tag_of}

pub no_level : (bytes : List ℕ) (levels at : ℕ) → levels ≡ 0 → term_at bytes levels at ≡ Err (TooDeep at)
unfolding term_at
no_level bytes zero at e = refl
no_level bytes (suc levels) at e = absurd (omega (arith, e))

pub no_byte : (bytes : List ℕ) (levels at : ℕ) → (levels ≡ 0 → ⊥) → length bytes ≤ at → term_at bytes levels at ≡ Err (Truncated at)
unfolding term_at
no_byte bytes zero at h past = absurd (h refl)
no_byte bytes (suc levels) at h past =
    let e : nat_lt at (length bytes) ≡ false = grind (arith, nat_tests) in
    ap (λ (b : Bool). form_if b bytes levels (term_at bytes levels) at) e

pub by_tag : (bytes : List ℕ) (levels at : ℕ) → (levels ≡ 0 → ⊥) → at < length bytes
    → term_at bytes levels at ≡ form bytes (levels - 1) (term_at bytes (levels - 1)) at (tag_of (get_or bytes at 0))
unfolding term_at
by_tag bytes zero at h within = absurd (h refl)
by_tag bytes (suc levels) at h within =
    let e : nat_lt at (length bytes) ≡ true = grind (arith, nat_tests) in
    let same : suc levels - 1 ≡ levels = omega arith in
    ap (λ (b : Bool). form_if b bytes levels (term_at bytes levels) at) e
    ∙ ap (λ (n : ℕ). form bytes n (term_at bytes n) at (tag_of (get_or bytes at 0))) (sym same)

pub fails_too : {A B : Type 0} (r : Result A ExternalFault) (s : Result B ExternalFault) (f : ExternalFault)
    → ((g : ExternalFault) → r ≡ Err g → s ≡ Err g) → FailsOrMemory r f → FailsOrMemory s f
fails_too r s (Truncated at) h e = h (Truncated at) e
fails_too r s (BadVersion at) h e = h (BadVersion at) e
fails_too r s (UnsupportedTag at) h e = h (UnsupportedTag at) e
fails_too r s (TooDeep at) h e = h (TooDeep at) e
fails_too r s (ImproperList at) h e = h (ImproperList at) e
fails_too r s (BadAtom at) h e = h (BadAtom at) e
fails_too r s (BadInteger at) h e = h (BadInteger at) e
fails_too r s (ForeignIdentifier at) h e = h (ForeignIdentifier at) e
fails_too r s Memory h e = tt

pub returns_as : {A : Type 0} (r s t : Result A ExternalFault) → s ≡ r → ReturnsOrMemory r t → ReturnsOrMemory s t
returns_as r s t e h = let P : Result _ ExternalFault → Type 0 = λ x. ReturnsOrMemory x t in subst P (sym e) h

-- one item more
pub item_read : (one : ℕ → Read Term) (done : List Term) (n m at : ℕ) (x : Term × ℕ) → n ≡ suc m → one at ≡ Ok x
    → items one done n at ≡ items one (done ++ x.0 ∷ []) m x.1
item_read one done n m at x e h =
    ap (λ (k : ℕ). items one done k at) e
    ∙ ap (λ (r : Read Term). elim r [ Ok y ↦ items one (done ++ y.0 ∷ []) m y.1 | Err f ↦ Err f ]) h

item_failed : (one : ℕ → Read Term) (done : List Term) (n m at : ℕ) (f : ExternalFault) → n ≡ suc m → one at ≡ Err f
    → items one done n at ≡ Err f
item_failed one done n m at f e h =
    ap (λ (k : ℕ). items one done k at) e
    ∙ ap (λ (r : Read Term). elim r [ Ok y ↦ items one (done ++ y.0 ∷ []) m y.1 | Err g ↦ Err g ]) h

pub items_fail : (one : ℕ → Read Term) (done : List Term) (n m at : ℕ) (s : Read (List Term)) (f : ExternalFault) → n ≡ suc m
    → items one done n at ≡ s → FailsOrMemory (one at) f → FailsOrMemory s f
items_fail one done n m at s f e same h =
    fails_too (one at) s f (λ g k. sym same ∙ item_failed one done n m at g e k) h

-- there is room for the items
pub enough : (bytes : List ℕ) (one : ℕ → Read Term) (n at : ℕ) → at ≤ length bytes → n ≤ length bytes - at
    → items_at bytes one n at ≡ items one [] n at
enough bytes one n at h room =
    let e : nat_le (at + n) (length bytes) ≡ true = grind (arith, nat_tests) in
    ap (λ (b : Bool). items_if b one n at) e
