-- The steps of a walk, interleaved with the steps of others: one turn more, and the walker's own among them.
use Rattle.std.proofs.Common.{◌≡◌, ℕ, suc, ◌+◌, ◌<◌, ◌==◌, Bool, true, false, cond, List, [], ◌∷◌, ◌++◌, refl, sym, subst, ap, ap₂, ◌∙◌, length, map, filter, arith, append_assoc}
use Rattle.std.specs.List.{AllByRecursion}
use Rattle.std.proofs.lemmas.Bool.Decides.{nat_tests}
use Rattle.std.proofs.lemmas.List.Elements.{filter-append}
use Rattle.ets_term.specs.declared.term.Term.{Term}
use Rattle.node_core.specs.declared.step.Step.{Step}
use Rattle.node_core.specs.Woven.{is_step_of, Given, steps_at, first, next, turns, walk}

-- the steps of one turn, each with the turn's index
abbrev pub paired : ℕ → List Step → Given
paired n steps = map (λ s. (n, s)) steps

pub number-same : (n : ℕ) → (n == n) ≡ true
number-same n = grind (arith, nat_tests)

number-below : (a n : ℕ) → a < n → (a == n) ≡ false
number-below a n h = grind (arith, nat_tests)

number-above : (a n : ℕ) → a < n → (n == a) ≡ false
number-above a n h = grind (arith, nat_tests)

chosen : (b : Bool) (s : Step) (xs : Given) (turn : ℕ) (g : ℕ × Step) → (g.0 == turn) ≡ b → steps_at turn (g ∷ xs) ≡ cond b (g.1 ∷ steps_at turn xs) (steps_at turn xs)
chosen true s xs turn g e = ap (λ (b : Bool). map (λ (h : ℕ × Step). h.1) (cond b (g ∷ filter (λ h. h.0 == turn) xs) (filter (λ h. h.0 == turn) xs))) e
chosen false s xs turn g e = ap (λ (b : Bool). map (λ (h : ℕ × Step). h.1) (cond b (g ∷ filter (λ h. h.0 == turn) xs) (filter (λ h. h.0 == turn) xs))) e

take-in : (s : Step) (xs : Given) (turn : ℕ) (g : ℕ × Step) → (g.0 == turn) ≡ true → steps_at turn (g ∷ xs) ≡ g.1 ∷ steps_at turn xs
take-in s xs turn g e = chosen true s xs turn g e

pass-by : (xs : Given) (turn : ℕ) (g : ℕ × Step) → (g.0 == turn) ≡ false → steps_at turn (g ∷ xs) ≡ steps_at turn xs
pass-by xs turn g e = chosen false g.1 xs turn g e

own-turn : (n : ℕ) (steps : List Step) → steps_at n (paired n steps) ≡ steps
own-turn n [] = refl
own-turn n (s ∷ steps) = take-in s (paired n steps) n (n, s) (number-same n) ∙ ap (λ xs. s ∷ xs) (own-turn n steps)

other-turn : (a n : ℕ) (steps : List Step) → a < n → steps_at a (paired n steps) ≡ []
other-turn a n [] h = refl
other-turn a n (s ∷ steps) h = pass-by (paired n steps) a (n, s) (number-above a n h) ∙ other-turn a n steps h

-- the others have added no step of a later turn
none-yet : (n : ℕ) (given : Given) → AllByRecursion (λ g. g.0 < n) given → steps_at n given ≡ []
none-yet n [] h = refl
none-yet n (g ∷ given) h = pass-by given n g (number-below g.0 n h.0) ∙ none-yet n given h.1

with-more : (b : Bool) (turn : ℕ) (g : ℕ × Step) (given : Given) (n : ℕ) (steps : List Step) → (g.0 == turn) ≡ b → steps_at turn (given ++ paired n steps) ≡ steps_at turn given ++ steps_at turn (paired n steps)
    → steps_at turn (g ∷ (given ++ paired n steps)) ≡ steps_at turn (g ∷ given) ++ steps_at turn (paired n steps)
with-more true turn g given n steps e rest = take-in g.1 (given ++ paired n steps) turn g e ∙ (ap (λ xs. g.1 ∷ xs) rest ∙ ap (λ xs. xs ++ steps_at turn (paired n steps)) (sym (take-in g.1 given turn g e)))
with-more false turn g given n steps e rest = pass-by (given ++ paired n steps) turn g e ∙ (rest ∙ ap (λ xs. xs ++ steps_at turn (paired n steps)) (sym (pass-by given turn g e)))

at-more : (turn : ℕ) (given : Given) (n : ℕ) (steps : List Step) → steps_at turn (given ++ paired n steps) ≡ steps_at turn given ++ steps_at turn (paired n steps)
at-more turn [] n steps = refl
at-more turn (g ∷ given) n steps = with-more (g.0 == turn) turn g given n steps refl (at-more turn given n steps)

append-none : (xs : List Step) → xs ++ [] ≡ xs
append-none [] = refl
append-none (x ∷ xs) = ap (λ ys. x ∷ ys) (append-none xs)

earlier-turn : (a n : ℕ) (given : Given) (steps : List Step) → a < n → steps_at a (given ++ paired n steps) ≡ steps_at a given
earlier-turn a n given steps h = at-more a given n steps ∙ (ap (λ xs. steps_at a given ++ xs) (other-turn a n steps h) ∙ append-none (steps_at a given))

this-turn : (n : ℕ) (given : Given) (steps : List Step) → AllByRecursion (λ g. g.0 < n) given → steps_at n (given ++ paired n steps) ≡ steps
this-turn n given steps h = at-more n given n steps ∙ (ap (λ xs. xs ++ steps_at n (paired n steps)) (none-yet n given h) ∙ own-turn n steps)

module _ (p t : ℕ) where
  -- one turn more
  turns-more : (from n : ℕ) (keys : List Term) (key : Term) (given : Given) (steps : List Step) → n ≡ from + length keys → AllByRecursion (λ g. g.0 < n) given
      → turns p t (given ++ paired n steps) from (keys ++ key ∷ []) ≡ turns p t given from keys ++ (steps ++ next p t key ∷ [])
  turns-more from n [] key given steps e h =
      let here : n ≡ from = omega (arith, e) in
      ap (λ xs. xs ++ next p t key ∷ []) (ap (λ m. steps_at m (given ++ paired n steps)) (sym here) ∙ this-turn n given steps h)
  turns-more from n (k ∷ keys) key given steps e h =
      let before : from < n = omega (arith, e) in
      let later : n ≡ suc from + length keys = omega (arith, e) in
      ap₂ (λ xs ys. xs ++ next p t k ∷ ys) (earlier-turn from n given steps before) (turns-more (suc from) n keys key given steps later h)
      ∙ sym (append_assoc (steps_at from given) (next p t k ∷ turns p t given (suc from) keys) (steps ++ next p t key ∷ []))

  pub walk-more : (keys : List Term) (key : Term) (given : Given) (steps : List Step) → AllByRecursion (λ g. g.0 < length keys) given
      → walk p t (keys ++ key ∷ []) (given ++ paired (length keys) steps) ≡ walk p t keys given ++ (steps ++ next p t key ∷ [])
  walk-more keys key given steps h = ap (λ xs. first p t ∷ xs) (turns-more 0 (length keys) keys key given steps (omega arith) h)

  -- ---- the walker's own steps
  pub own-kept : (xs : List Step) (s : Step) → is_step_of p s ≡ true → filter (is_step_of p) (s ∷ xs) ≡ s ∷ filter (is_step_of p) xs
  own-kept xs s e = ap (λ (b : Bool). cond b (s ∷ filter (is_step_of p) xs) (filter (is_step_of p) xs)) e

  pub none-own : (xs : List Step) → AllByRecursion (λ s. is_step_of p s ≡ false) xs → filter (is_step_of p) xs ≡ []
  none-own [] h = refl
  none-own (s ∷ xs) h = ap (λ (b : Bool). cond b (s ∷ filter (is_step_of p) xs) (filter (is_step_of p) xs)) h.0 ∙ none-own xs h.1

  others-at : (b : Bool) (turn : ℕ) (g : ℕ × Step) (given : Given) → (g.0 == turn) ≡ b → is_step_of p g.1 ≡ false → AllByRecursion (λ s. is_step_of p s ≡ false) (steps_at turn given)
      → AllByRecursion (λ s. is_step_of p s ≡ false) (steps_at turn (g ∷ given))
  others-at true turn g given e other rest = subst (λ (xs : List Step). AllByRecursion (λ s. is_step_of p s ≡ false) xs) (sym (take-in g.1 given turn g e)) (other, rest)
  others-at false turn g given e other rest = subst (λ (xs : List Step). AllByRecursion (λ s. is_step_of p s ≡ false) xs) (sym (pass-by given turn g e)) rest

  pub others-of : (turn : ℕ) (given : Given) → AllByRecursion (λ g. is_step_of p g.1 ≡ false) given → AllByRecursion (λ s. is_step_of p s ≡ false) (steps_at turn given)
  others-of turn [] h = tt
  others-of turn (g ∷ given) h = others-at (g.0 == turn) turn g given refl h.0 (others-of turn given h.1)

  own-turns : (from : ℕ) (keys : List Term) (given : Given) → AllByRecursion (λ g. is_step_of p g.1 ≡ false) given → filter (is_step_of p) (turns p t given from keys) ≡ turns p t [] from keys
  own-turns from [] given h = refl
  own-turns from (k ∷ keys) given h =
      filter-append (is_step_of p) (steps_at from given) (next p t k ∷ turns p t given (suc from) keys)
      ∙ (ap (λ xs. xs ++ filter (is_step_of p) (next p t k ∷ turns p t given (suc from) keys)) (none-own (steps_at from given) (others-of from given h))
      ∙ (own-kept (turns p t given (suc from) keys) (next p t k) (number-same p) ∙ ap (λ xs. next p t k ∷ xs) (own-turns (suc from) keys given h)))

  pub own-walk : (keys : List Term) (given : Given) → AllByRecursion (λ g. is_step_of p g.1 ≡ false) given → filter (is_step_of p) (walk p t keys given) ≡ walk p t keys []
  own-walk keys given h = own-kept (turns p t given 0 keys) (first p t) (number-same p) ∙ ap (λ xs. first p t ∷ xs) (own-turns 0 keys given h)

  -- with steps of others after
  pub own-further : (keys : List Term) (given : Given) (xs : List Step) → AllByRecursion (λ g. is_step_of p g.1 ≡ false) given → AllByRecursion (λ s. is_step_of p s ≡ false) xs
      → filter (is_step_of p) (walk p t keys given ++ xs) ≡ walk p t keys []
  own-further keys given xs h k =
      filter-append (is_step_of p) (walk p t keys given) xs ∙ (ap₂ (λ ys zs. ys ++ zs) (own-walk keys given h) (none-own xs k) ∙ append-none (walk p t keys []))

  -- ---- what held of all added steps still holds
  pub more-others : (given : Given) (n : ℕ) (steps : List Step) → AllByRecursion (λ g. is_step_of p g.1 ≡ false) given → AllByRecursion (λ s. is_step_of p s ≡ false) steps → AllByRecursion (λ g. is_step_of p g.1 ≡ false) (given ++ paired n steps)
  more-others [] n [] h k = tt
  more-others [] n (s ∷ steps) h k = (k.0, more-others [] n steps h k.1)
  more-others (g ∷ given) n steps h k = (h.0, more-others given n steps h.1 k)

pub more-turns : (given : Given) (n : ℕ) (steps : List Step) → AllByRecursion (λ g. g.0 < n) given → AllByRecursion (λ g. g.0 < suc n) (given ++ paired n steps)
more-turns [] n [] h = tt
more-turns [] n (s ∷ steps) h = (omega arith, more-turns [] n steps h)
more-turns (g ∷ given) n steps h = (let below = h.0 in omega (arith, below), more-turns given n steps h.1)
