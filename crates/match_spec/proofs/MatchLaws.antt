-- If a term matches by some bindings, each variable of the pattern is bound to the subterm at its first path.
use Rattle.std.proofs.Common.{◌≡◌, ℕ, suc, ◌+◌, ◌==◌, ◌&&◌, ◌||◌, ◌++◌, is_some, map, unwrap_or, Bool, true, false, if◌then◌else◌, List, [], ◌∷◌, Option, Some, None, codes, refl, sym, ap, subst, ◌∙◌, arith, zero-add, add-zero}
use Rattle.std.proofs.lemmas.Slice.Eq.{bytes_eq-Decides}
use Rattle.std.specs.Option.{option_map, option_map_or, option_or}
use Rattle.std.specs.Str.{bytes_eq}
use Rattle.ets_term.specs.Data.{Data, int, atom, pid, tid, tuple, list, binary, DataList, no_terms, term}
use Rattle.match_spec.specs.Patterns.{Bindings, binding, matches, data_list_matches, name_matches, is_bound_to, occurrences, bindings_of}
use Rattle.match_spec.specs.Matching.{Match, IsBindings}
use Rattle.match_spec.specs.laws.Bindings.{AreTheBindings}
use Rattle.match_spec.specs.Paths.{Path, subterm_at, items_of, element_or, path_of, path_from, value_at}
use Rattle.match_spec.specs.Variables.{variable_numbers, data_list_variable_numbers, variable, variables}
use Rattle.std.specs.Prelude.{option_to_list}
use Rattle.std.specs.Map.{values_of}
use Rattle.match_spec.proofs.BoolLaws.{both-true, or-left, or-right, or-cases, clash, same_Some, None-Some}
use Rattle.match_spec.proofs.NumberLaws.{has, has-append, has-fold, same_number, itself, Rising, fold-rising, above-apart, above-rising}
use Rattle.match_spec.proofs.PathLaws.{found}
use Rattle.match_spec.proofs.KeyLaws.{equal_terms-exact}

unnumbered : (n : ℕ) → variable (codes "_") ≡ Some n → ⊥
unnumbered n h = cc

no_underscore : (a : List ℕ) (n : ℕ) → variable a ≡ Some n → bytes_eq a (codes "_") ≡ false
no_underscore a n h = by (bytes_eq a (codes "_")) refl
  where
    by : (c : Bool) → bytes_eq a (codes "_") ≡ c → c ≡ false
    by true e = absurd (unnumbered n (subst (λ x. variable x ≡ Some n) ((bytes_eq-Decides a (codes "_")).0 e) h))
    by false e = refl

module _ (b : ℕ → Option Data) (n : ℕ) where
  just : (o : Option Data) (t : Data) → is_bound_to o t ≡ true → o ≡ Some t
  just None t h = cc
  just (Some u) t h = ap Some (equal_terms-exact u t h)

  here : (a : List ℕ) (t : Data) (o : Option ℕ) (path : Path) → variable a ≡ o → (if option_map_or (λ k. n == k) o false then Some [] else None) ≡ Some path → (bytes_eq a (codes "_") || name_matches b a o t) ≡ true → b n ≡ Some (subterm_at path t)
  here a t None path v p h = cc
  here a t (Some m) path v p h = by (n == m) refl p
    where
      by : (c : Bool) → (n == m) ≡ c → (if c then Some [] else None) ≡ Some path → b n ≡ Some (subterm_at path t)
      by true e q =
          ap b (same_number n m e) ∙ just (b m) t (rw (no_underscore a m v) at h) ∙ ap (λ (w : Path). Some (subterm_at w t)) (same_Some q)
      by false e q = cc

  mutual
    pub follow : (p t : Data) (path : Path) → path_of n p ≡ Some path → matches b p t ≡ true → b n ≡ Some (subterm_at path t)
    follow (atom a) t path e h = here a t (variable a) path refl e h
    follow (tuple ps) (tuple ts) path e h = follow_data_list ps ts (tuple ts) 0 path e h (λ j. rw zero-add refl)
    follow (list ps) (list ts) path e h = follow_data_list ps ts (list ts) 0 path e h (λ j. rw zero-add refl)
    follow (tuple ps) (int x) path e h = cc
    follow (tuple ps) (atom x) path e h = cc
    follow (tuple ps) (pid x) path e h = cc
    follow (tuple ps) (tid x) path e h = cc
    follow (tuple ps) (list x) path e h = cc
    follow (tuple ps) (binary x) path e h = cc
    follow (list ps) (int x) path e h = cc
    follow (list ps) (atom x) path e h = cc
    follow (list ps) (pid x) path e h = cc
    follow (list ps) (tid x) path e h = cc
    follow (list ps) (tuple x) path e h = cc
    follow (list ps) (binary x) path e h = cc
    follow (int x) t path e h = cc
    follow (pid x) t path e h = cc
    follow (tid x) t path e h = cc
    follow (binary x) t path e h = cc

    follow_data_list : (ps ts : DataList) (whole : Data) (i : ℕ) (path : Path) → path_from n i ps ≡ Some path → data_list_matches b ps ts ≡ true
        → ((j : ℕ) → element_or (items_of whole) (i + j) whole ≡ element_or ts j whole) → b n ≡ Some (subterm_at path whole)
    follow_data_list no_terms ts whole i path e h elements = cc
    follow_data_list (term p ps) no_terms whole i path e h elements = cc
    follow_data_list (term p ps) (term t ts) whole i path e h elements =
        let both = both-true _ _ h in
        either (path_of n p) refl e
        (λ inner is. follow p t inner is both.0 ∙ ap (λ d. Some (subterm_at inner d)) (sym (rw add-zero at (elements 0))))
        (λ rest. follow_data_list ps ts whole (suc i) path rest both.1 (λ j. subst (λ m. element_or (items_of whole) m whole ≡ element_or ts j whole) (omega arith) (elements (suc j))))
      where
        either : (o : Option Path) → path_of n p ≡ o → option_or (option_map (λ q. i ∷ q) o) (path_from n (suc i) ps) ≡ Some path
            → ((inner : Path) → path_of n p ≡ Some inner → b n ≡ Some (subterm_at inner (element_or (items_of whole) i whole)))
            → (path_from n (suc i) ps ≡ Some path → b n ≡ Some (subterm_at path whole)) → b n ≡ Some (subterm_at path whole)
        either None o-is q in_first in_rest = in_rest q
        either (Some inner) o-is q in_first in_rest = in_first inner o-is ∙ ap (λ (w : Path). Some (subterm_at w whole)) (same_Some q)

-- bindings that agree on the variables of a pattern match the same terms
module _ (f g : ℕ → Option Data) where
  abbrev Agree : List ℕ → Type 0
  Agree ns = (n : ℕ) → has ns n ≡ true → f n ≡ g n

  first_part : (xs ys : List ℕ) → Agree (xs ++ ys) → Agree xs
  first_part xs ys h n e = h n (has-append xs ys n ∙ or-left _ _ e)

  second_part : (xs ys : List ℕ) → Agree (xs ++ ys) → Agree ys
  second_part xs ys h n e = h n (has-append xs ys n ∙ or-right _ _ e)

  alike_names : (a : List ℕ) (t : Data) (o : Option ℕ) → Agree (option_to_list o) → name_matches f a o t ≡ name_matches g a o t
  alike_names a t None h = refl
  alike_names a t (Some n) h = ap (λ u. is_bound_to u t) (h n (or-left _ _ (itself n)))

  mutual
    pub matches_alike : (p t : Data) → Agree (variable_numbers p) → matches f p t ≡ matches g p t
    matches_alike (atom a) t h = ap (λ c. bytes_eq a (codes "_") || c) (alike_names a t (variable a) h)
    matches_alike (tuple ps) (tuple ts) h = data_lists_alike ps ts h
    matches_alike (list ps) (list ts) h = data_lists_alike ps ts h
    matches_alike p t h = refl

    data_lists_alike : (ps ts : DataList) → Agree (data_list_variable_numbers ps) → data_list_matches f ps ts ≡ data_list_matches g ps ts
    data_lists_alike no_terms ts h = refl
    data_lists_alike (term p ps) no_terms h = refl
    data_lists_alike (term p ps) (term t ts) h = λ i. matches_alike p t (first_part (variable_numbers p) (data_list_variable_numbers ps) h) i && data_lists_alike ps ts (second_part (variable_numbers p) (data_list_variable_numbers ps) h) i

-- the variables of a pattern are its numbers
has-variables : (p : Data) (n : ℕ) → has (variable_numbers p) n ≡ true → has (variables p) n ≡ true
has-variables p n h = has-fold (variable_numbers p) [] n ∙ or-left _ _ h

pub has-variable_numbers : (p : Data) (n : ℕ) → has (variables p) n ≡ true → has (variable_numbers p) n ≡ true
has-variable_numbers p n h = drop_false _ (sym (has-fold (variable_numbers p) [] n) ∙ h)
  where
    drop_false : (a : Bool) → (a || false) ≡ true → a ≡ true
    drop_false true e = refl
    drop_false false e = e

-- each variable has a first path
some-or : {X : Type 0} (a b : Option X) → (is_some a || is_some b) ≡ true → is_some (option_or a b) ≡ true
some-or None b h = h
some-or (Some x) b h = refl

some-map : {X : Type 0} (f : X → X) (a : Option X) → is_some (option_map f a) ≡ is_some a
some-map f None = refl
some-map f (Some x) = refl

module _ (n : ℕ) where
  name_placed : (o : Option ℕ) → has (option_to_list o) n ≡ true → is_some {T = Path} (if option_map_or (λ k. n == k) o false then Some [] else None) ≡ true
  name_placed None h = h
  name_placed (Some m) h = by (n == m) h
    where
      by : (c : Bool) → (c || false) ≡ true → is_some {T = Path} (if c then Some [] else None) ≡ true
      by true e = refl
      by false e = e

  mutual
    pub placed : (p : Data) → has (variable_numbers p) n ≡ true → is_some (path_of n p) ≡ true
    placed (atom a) h = name_placed (variable a) h
    placed (tuple ps) h = data_list_placed 0 ps h
    placed (list ps) h = data_list_placed 0 ps h
    placed (int x) h = h
    placed (pid x) h = h
    placed (tid x) h = h
    placed (binary x) h = h

    data_list_placed : (i : ℕ) (ps : DataList) → has (data_list_variable_numbers ps) n ≡ true → is_some (path_from n i ps) ≡ true
    data_list_placed i no_terms h = h
    data_list_placed i (term p ps) h =
        some-or (option_map (λ q. i ∷ q) (path_of n p)) (path_from n (suc i) ps)
        (or-cases _ _ _ _ (sym (has-append (variable_numbers p) (data_list_variable_numbers ps) n) ∙ h) (λ e. some-map (λ q. i ∷ q) (path_of n p) ∙ placed p e) (data_list_placed (suc i) ps))

found_value : (pattern t : Data) (n : ℕ) (ns : List ℕ) → has ns n ≡ true → binding (map (λ m. (m, value_at pattern t m)) ns) n ≡ Some (value_at pattern t n)
found_value pattern t n ns h = found pattern t n ns h

-- the bindings at the first paths are a match
pub bindings_of-sound : (pattern t : Data) (b : Bindings) → bindings_of pattern t ≡ Some b → Match pattern t b
bindings_of-sound pattern t b h = by (matches (λ n. Some (value_at pattern t n)) pattern t) refl h
  where
    keys : (ns : List ℕ) → map (λ (x : ℕ × Data). x.0) (map (λ n. (n, value_at pattern t n)) ns) ≡ ns
    keys [] = refl
    keys (n ∷ ns) = ap (λ ms. n ∷ ms) (keys ns)

    by : (c : Bool) → matches (λ n. Some (value_at pattern t n)) pattern t ≡ c → (if c then Some (occurrences pattern t) else None) ≡ Some b → Match pattern t b
    by false e q = cc
    by true e q = subst (Match pattern t) (same_Some q) (record {
      fits = matches_alike _ _ pattern t (λ n m. found_value pattern t n (variables pattern) (has-variables pattern n m)) ∙ e;
      bound = keys (variables pattern);
    })

-- if a term matches by some bindings, it matches by those at the first paths
pub bindings_of-complete : (pattern t : Data) (b : Bindings) → Match pattern t b → bindings_of pattern t ≡ Some (occurrences pattern t)
bindings_of-complete pattern t b m = rw (matches_alike (λ n. Some (value_at pattern t n)) (binding b) pattern t (λ n h. stands n (path_of n pattern) refl (placed n pattern h)) ∙ m.fits) refl
  where
    stands : (n : ℕ) (o : Option Path) → path_of n pattern ≡ o → is_some o ≡ true → Some (value_at pattern t n) ≡ binding b n
    stands n None e h = cc
    stands n (Some path) e h = ap (λ (w : Option Path). Some (subterm_at (unwrap_or w []) t)) e ∙ sym (follow (binding b) n pattern t path e m.fits)

module _ (v : ℕ → Data) where
  -- bindings in order of number are determined by the value of each variable
  rebuilt : (b : Bindings) → Rising (map (λ (x : ℕ × Data). x.0) b) → ((n : ℕ) → has (map (λ (x : ℕ × Data). x.0) b) n ≡ true → binding b n ≡ Some (v n)) → b ≡ map (λ n. (n, v n)) (map (λ (x : ℕ × Data). x.0) b)
  rebuilt [] a h = refl
  rebuilt (x ∷ b) a h = λ i. (x.0, here_is i) ∷ rebuilt b (above-rising x.0 _ a) others i
    where
      here_is : x.1 ≡ v x.0
      here_is = same_Some (rw (itself x.0) at (h x.0 (or-left _ _ (itself x.0))))

      others : (n : ℕ) → has (map (λ (x : ℕ × Data). x.0) b) n ≡ true → binding b n ≡ Some (v n)
      others n e = by (n == x.0) refl
        where
          by : (c : Bool) → (n == x.0) ≡ c → binding b n ≡ Some (v n)
          by true q = absurd (clash (subst (λ m. has (map (λ (x : ℕ × Data). x.0) b) m ≡ true) (same_number n x.0 q) e) (above-apart x.0 _ a))
          by false q = rw q at (h n (or-right _ _ e))

-- all bindings by which a term matches are those at the first paths
pub bindings_of-only : (pattern t : Data) (b : Bindings) → Match pattern t b → b ≡ occurrences pattern t
bindings_of-only pattern t b m =
    rebuilt (value_at pattern t) b (subst Rising (sym m.bound) (fold-rising (variable_numbers pattern) [] tt))
    (λ n e. sym (stands n (path_of n pattern) refl (placed n pattern (has-variable_numbers pattern n (subst (λ ns. has ns n ≡ true) m.bound e)))))
    ∙ ap (map (λ n. (n, value_at pattern t n))) m.bound
  where
    stands : (n : ℕ) (o : Option Path) → path_of n pattern ≡ o → is_some o ≡ true → Some (value_at pattern t n) ≡ binding b n
    stands n None e h = cc
    stands n (Some path) e h = ap (λ (w : Option Path). Some (subterm_at (unwrap_or w []) t)) e ∙ sym (follow (binding b) n pattern t path e m.fits)

pub are_the_bindings : (pattern t : Data) → AreTheBindings pattern t (bindings_of pattern t)
are_the_bindings pattern t = by (bindings_of pattern t) refl
  where
    by : (o : Option Bindings) → bindings_of pattern t ≡ o → AreTheBindings pattern t o
    by None q = λ b m. None-Some (sym q ∙ bindings_of-complete pattern t b m)
    by (Some b) q = (bindings_of-sound pattern t b q, λ c m. bindings_of-only pattern t c m ∙ same_Some (sym (bindings_of-complete pattern t c m) ∙ q))

pub is_bindings : (pattern t : Data) (vs : Option (List Data)) → vs ≡ option_map values_of (bindings_of pattern t) → IsBindings pattern t vs
is_bindings pattern t vs e = subst (IsBindings pattern t) (sym e) (by (bindings_of pattern t) refl)
  where
    by : (o : Option Bindings) → bindings_of pattern t ≡ o → IsBindings pattern t (option_map values_of o)
    by None q = subst (AreTheBindings pattern t) q (are_the_bindings pattern t)
    by (Some b) q = let those = subst (AreTheBindings pattern t) q (are_the_bindings pattern t) in (b, those.0, refl, those.1)
