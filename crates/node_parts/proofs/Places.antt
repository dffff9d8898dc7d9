-- Things at the places of a list that go by events, each of which is an event of some places.
use Rattle.std.proofs.Common.{◌≡◌, ℕ, zero, suc, ◌+◌, ◌<◌, ◌≤◌, Bool, true, false, cond, List, [], ◌∷◌, ◌++◌, length, Some, filter, MatchBool, refl, sym, ap, subst, ◌∙◌, arith, true≢false}
use Rattle.std.specs.Prelude.{slice_get, slice_set}
use Rattle.std.specs.List.{AllZip, FoldsTo, enumerate_from}
use Rattle.std.proofs.lemmas.List.Elements.{filter-append}

module _ {S E : Type 0} (is_of : ℕ → E → Bool) (Does : ℕ → S → E → S → Type 0) where
  -- what is at a place goes by the events of that place
  abbrev pub GoesBy : List E → ℕ × S → S → Type 0
  GoesBy events at new = FoldsTo (Does at.0) at.1 (filter (is_of at.0) events) new

  -- by one event
  abbrev pub GoesByOne : E → ℕ × S → S → Type 0
  GoesByOne e at new = MatchBool (is_of at.0 e) (Does at.0 at.1 e new) (new ≡ at.1)

  -- the things after the first event
  pub record Between (e : E) (events : List E) (k : ℕ) (olds news : List S) : Type 0 where
    pub mids : List S
    pub first : AllZip (GoesByOne e) (enumerate_from k olds) mids
    pub rest : AllZip (GoesBy events) (enumerate_from k mids) news

  first-of : (k : ℕ) (old new : S) (e : E) (events : List E) (b : Bool) → FoldsTo (Does k) old (cond b (e ∷ events) events) new
      → (mid : S) × MatchBool b (Does k old e mid) (mid ≡ old) × FoldsTo (Does k) mid events new
  first-of k old new e events true h = h
  first-of k old new e events false h = (old, refl, h)

  pub between : (e : E) (events : List E) (k : ℕ) (olds news : List S) → AllZip (GoesBy (e ∷ events)) (enumerate_from k olds) news → Between e events k olds news
  between e events k [] [] h = record { mids = []; first = tt; rest = tt }
  between e events k [] (new ∷ news) h = absurd h
  between e events k (old ∷ olds) [] h = absurd h
  between e events k (old ∷ olds) (new ∷ news) h =
      let own = first-of k old new e (filter (is_of k) events) (is_of k e) h.0 in
      let others = between e events (k + 1) olds news h.1 in
      record { mids = own.0 ∷ others.mids; first = (own.1, others.first); rest = (own.2, others.rest) }

  pub no-events : (k : ℕ) (olds news : List S) → AllZip (GoesBy []) (enumerate_from k olds) news → news ≡ olds
  no-events k [] [] h = refl
  no-events k [] (new ∷ news) h = absurd h
  no-events k (old ∷ olds) [] h = absurd h
  no-events k (old ∷ olds) (new ∷ news) h = λ i. sym h.0 i ∷ no-events (k + 1) olds news h.1 i

  pub same-length : (R : ℕ × S → S → Type 0) (k : ℕ) (olds news : List S) → AllZip R (enumerate_from k olds) news → length news ≡ length olds
  same-length R k [] [] h = refl
  same-length R k [] (new ∷ news) h = absurd h
  same-length R k (old ∷ olds) [] h = absurd h
  same-length R k (old ∷ olds) (new ∷ news) h = ap (λ n. suc n) (same-length R (k + 1) olds news h.1)

  -- what is at one place now
  pub at-place : (R : ℕ × S → S → Type 0) (i j k : ℕ) (olds news : List S) (old : S) → j ≡ k + i → slice_get olds i ≡ Some old → AllZip R (enumerate_from k olds) news
      → (new : S) × (slice_get news i ≡ Some new) × R (j, old) new
  at-place R i j k [] news old e at h = cc
  at-place R i j k (x ∷ olds) [] old e at h = absurd h
  at-place R zero j k (x ∷ olds) (new ∷ news) old e at h =
      let is : x ≡ old = cc in
      let place : k ≡ j = omega (arith, e) in
      (new, refl, subst (λ (n : ℕ). R (n, old) new) place (subst (λ (y : S). R (k, y) new) is h.0))
  at-place R (suc i) j k (x ∷ olds) (new ∷ news) old e at h = at-place R i j (k + 1) olds news old (omega (arith, e)) at h.1

  -- what holds at each place
  pub at-each-place : (R : ℕ × S → S → Type 0) (k : ℕ) (olds news : List S) → length news ≡ length olds
      → ((i : ℕ) (old new : S) → slice_get olds i ≡ Some old → slice_get news i ≡ Some new → R (k + i, old) new) → AllZip R (enumerate_from k olds) news
  at-each-place R k [] [] e h = tt
  at-each-place R k [] (new ∷ news) e h = absurd (omega (arith, e))
  at-each-place R k (old ∷ olds) [] e h = absurd (omega (arith, e))
  at-each-place R k (old ∷ olds) (new ∷ news) e h =
      let place : k + 0 ≡ k = omega arith in (
        subst (λ (n : ℕ). R (n, old) new) place (h 0 old new refl refl),
        at-each-place R (k + 1) olds news (omega (arith, e)) (λ i o n there now.
            let further : k + suc i ≡ k + 1 + i = omega arith in
            subst (λ (m : ℕ). R (m, o) n) further (h (suc i) o n there now)),
      )

  -- ---- an event of all places
  pub each-does : (e : E) → ((k : ℕ) → is_of k e ≡ true) → (R : S → S → Type 0) → ((k : ℕ) (old new : S) → Does k old e new → R old new)
      → (k : ℕ) (olds news : List S) → AllZip (GoesByOne e) (enumerate_from k olds) news → AllZip R olds news
  each-does e all R weaker k [] [] h = tt
  each-does e all R weaker k [] (new ∷ news) h = absurd h
  each-does e all R weaker k (old ∷ olds) [] h = absurd h
  each-does e all R weaker k (old ∷ olds) (new ∷ news) h =
      (weaker k old new (subst (λ (b : Bool). MatchBool b (Does k old e new) (new ≡ old)) (all k) h.0), each-does e all R weaker (k + 1) olds news h.1)

  -- ---- an event of one place alone
  pub others-stay : (e : E) (k : ℕ) (olds news : List S) → ((i : ℕ) → k ≤ i → is_of i e ≡ false) → AllZip (GoesByOne e) (enumerate_from k olds) news → news ≡ olds
  others-stay e k [] [] not_of h = refl
  others-stay e k [] (new ∷ news) not_of h = absurd h
  others-stay e k (old ∷ olds) [] not_of h = absurd h
  others-stay e k (old ∷ olds) (new ∷ news) not_of h =
      let own : new ≡ old = subst (λ (b : Bool). MatchBool b (Does k old e new) (new ≡ old)) (not_of k (omega arith)) h.0 in
      let rest = others-stay e (k + 1) olds news (λ i more. not_of i (omega (arith, more))) h.1 in
      λ i. own i ∷ rest i

  pub record OneDoes (e : E) (i j : ℕ) (olds news : List S) : Type 0 where
    pub old : S
    pub new : S
    pub there : slice_get olds i ≡ Some old
    pub does : Does j old e new
    pub written : news ≡ slice_set olds i new

  pub one-does : (e : E) (i j k : ℕ) (olds news : List S) → j ≡ k + i → i < length olds → is_of j e ≡ true → ((n : ℕ) → (n ≡ j → ⊥) → is_of n e ≡ false)
      → AllZip (GoesByOne e) (enumerate_from k olds) news → OneDoes e i j olds news
  one-does e i j k [] news at within own others h = absurd (omega (arith, within))
  one-does e i j k (x ∷ olds) [] at within own others h = absurd h
  one-does e zero j k (x ∷ olds) (new ∷ news) at within own others h =
      let place : j ≡ k = omega (arith, at) in
      record {
        old = x;
        new = new;
        there = refl;
        does =
            subst (λ (n : ℕ). Does n x e new) (sym place)
            (subst (λ (b : Bool). MatchBool b (Does k x e new) (new ≡ x)) (ap (λ n. is_of n e) (sym place) ∙ own) h.0);
        written = ap (λ l. new ∷ l) (others-stay e (k + 1) olds news (λ n more. others n (λ f. absurd (omega (arith, more, f, at)))) h.1);
      }
  one-does e (suc i) j k (x ∷ olds) (new ∷ news) at within own others h =
      let rest = one-does e i j (k + 1) olds news (omega (arith, at)) (omega (arith, within)) own others h.1 in
      let stays : new ≡ x = subst (λ (b : Bool). MatchBool b (Does k x e new) (new ≡ x)) (others k (λ f. absurd (omega (arith, f, at)))) h.0 in
      record {
        old = rest.old;
        new = rest.new;
        there = rest.there;
        does = rest.does;
        written = λ n. stays n ∷ rest.written n;
      }

  -- ---- events after others
  folds-by : (k : ℕ) (p : S) (es fs : List E) (q : S) → FoldsTo (Does k) p (es ++ fs) q → (m : S) × FoldsTo (Does k) p es m × FoldsTo (Does k) m fs q
  folds-by k p [] fs q h = (p, refl, h)
  folds-by k p (e ∷ es) fs q h =
      let rest = folds-by k h.0 es fs q h.2 in
      (rest.0, (h.0, h.1, rest.1), rest.2)

  folds-on : (k : ℕ) (p : S) (es fs : List E) (m q : S) → FoldsTo (Does k) p es m → FoldsTo (Does k) m fs q → FoldsTo (Does k) p (es ++ fs) q
  folds-on k p [] fs m q h d = subst (λ (x : S). FoldsTo (Does k) x fs q) (sym h) d
  folds-on k p (e ∷ es) fs m q h d = (h.0, h.1, folds-on k h.0 es fs m q h.2 d)

  pub by-first : (es fs : List E) (k : ℕ) (olds news : List S) → AllZip (GoesBy (es ++ fs)) (enumerate_from k olds) news
      → (mids : List S) × AllZip (GoesBy es) (enumerate_from k olds) mids × AllZip (GoesBy fs) (enumerate_from k mids) news
  by-first es fs k [] [] h = ([], tt, tt)
  by-first es fs k [] (new ∷ news) h = absurd h
  by-first es fs k (old ∷ olds) [] h = absurd h
  by-first es fs k (old ∷ olds) (new ∷ news) h =
      let own = folds-by k old (filter (is_of k) es) (filter (is_of k) fs) new (subst (λ (l : List E). FoldsTo (Does k) old l new) (filter-append (is_of k) es fs) h.0) in
      let others = by-first es fs (k + 1) olds news h.1 in
      (own.0 ∷ others.0, (own.1, others.1), (own.2, others.2))

  pub then-more : (es fs : List E) (k : ℕ) (olds mids news : List S) → AllZip (GoesBy es) (enumerate_from k olds) mids → AllZip (GoesBy fs) (enumerate_from k mids) news
      → AllZip (GoesBy (es ++ fs)) (enumerate_from k olds) news
  then-more es fs k [] [] [] h d = tt
  then-more es fs k [] [] (new ∷ news) h d = absurd d
  then-more es fs k [] (mid ∷ mids) news h d = absurd h
  then-more es fs k (old ∷ olds) [] news h d = absurd h
  then-more es fs k (old ∷ olds) (mid ∷ mids) [] h d = absurd d
  then-more es fs k (old ∷ olds) (mid ∷ mids) (new ∷ news) h d = (
    subst (λ (l : List E). FoldsTo (Does k) old l new) (sym (filter-append (is_of k) es fs)) (folds-on k old (filter (is_of k) es) (filter (is_of k) fs) mid new h.0 d.0),
    then-more es fs (k + 1) olds mids news h.1 d.1,
  )

  goes-at : (e : E) (k : ℕ) (old new : S) (b : Bool) → MatchBool b (Does k old e new) (new ≡ old) → FoldsTo (Does k) old (cond b (e ∷ []) []) new
  goes-at e k old new true d = (new, d, refl)
  goes-at e k old new false d = sym d

  pub by-this-event : (e : E) (k : ℕ) (olds news : List S) → AllZip (GoesByOne e) (enumerate_from k olds) news → AllZip (GoesBy (e ∷ [])) (enumerate_from k olds) news
  by-this-event e k [] [] h = tt
  by-this-event e k [] (new ∷ news) h = absurd h
  by-this-event e k (old ∷ olds) [] h = absurd h
  by-this-event e k (old ∷ olds) (new ∷ news) h = (goes-at e k old new (is_of k e) h.0, by-this-event e (k + 1) olds news h.1)

  -- ---- an event of one place alone changes what is there
  stays-at : (e : E) (k : ℕ) (old : S) (b : Bool) → is_of k e ≡ b → (is_of k e ≡ true → ⊥) → GoesByOne e (k, old) old
  stays-at e k old true is apart = absurd (apart is)
  stays-at e k old false is apart = subst (λ (b : Bool). MatchBool b (Does k old e old) (old ≡ old)) (sym is) refl

  all-stay : (e : E) (k : ℕ) (olds : List S) → ((n : ℕ) → k ≤ n → is_of n e ≡ true → ⊥) → AllZip (GoesByOne e) (enumerate_from k olds) olds
  all-stay e k [] apart = tt
  all-stay e k (old ∷ olds) apart = (stays-at e k old (is_of k e) refl (apart k (omega arith)), all-stay e (k + 1) olds (λ n more. apart n (omega (arith, more))))

  changes-at : (e : E) (k : ℕ) (old new : S) (b : Bool) → is_of k e ≡ b → Does k old e new → (is_of k e ≡ false → new ≡ old) → GoesByOne e (k, old) new
  changes-at e k old new true is d same = subst (λ (b : Bool). MatchBool b (Does k old e new) (new ≡ old)) (sym is) d
  changes-at e k old new false is d same = subst (λ (b : Bool). MatchBool b (Does k old e new) (new ≡ old)) (sym is) (same is)

  pub one-changes : (e : E) (i j k : ℕ) (olds : List S) (old new : S) → j ≡ k + i → slice_get olds i ≡ Some old → is_of j e ≡ true → ((n : ℕ) → is_of n e ≡ true → n ≡ j)
      → Does j old e new → AllZip (GoesByOne e) (enumerate_from k olds) (slice_set olds i new)
  one-changes e i j k [] old new at there own others d = tt
  one-changes e zero j k (x ∷ olds) old new at there own others d =
      let is : x ≡ old = cc in
      let place : k ≡ j = omega (arith, at) in
      let does : Does k x e new = subst (λ (n : ℕ). Does n x e new) (sym place) (subst (λ (y : S). Does j y e new) (sym is) d) in (
        changes-at e k x new (is_of k e) refl does (λ f. absurd (true≢false (sym own ∙ (ap (λ n. is_of n e) (sym place) ∙ f)))),
        all-stay e (k + 1) olds (λ n more of. let f = others n of in absurd (omega (arith, more, f, at))),
      )
  one-changes e (suc i) j k (x ∷ olds) old new at there own others d = (
    stays-at e k x (is_of k e) refl (λ of. let f = others k of in absurd (omega (arith, f, at))),
    one-changes e i j (k + 1) olds old new (omega (arith, at)) there own others d,
  )
