-- The two steps keep the word's rule.
use Rattle.std.proofs.Common.{◌≡◌, ◌≢◌, ◌⊎◌, ℕ, zero, suc, ◌+◌, ◌-◌, ◌%◌, ◌^◌, ◌<◌, ◌≤◌, List, [], ◌∷◌, ◌++◌, length, set, refl, sym, ap, ◌∙◌, subst, inl, inr, ⊎_elim, arith}
use Rattle.std.specs.Prelude.{slice_index}
use mathlib.Core.Option.{none, some, some-ne-none, some-injective}
use lib.ListN.{get_elem?}
use Rattle.atomic_table.specs.Table.{Allows, Splits, step, keeps}
use Rattle.atomic_table.proofs.Lists.{at_set, at_snoc, set_here, set_else, at_longer}
use Rattle.node_shared.specs.declared.pids.rule.View.{View}
use Rattle.node_shared.specs.declared.pids.rule.View.TheVariants.{Opening, Undrawn, Drawn}
use Rattle.node_shared.specs.Numbers.{HasDrawn, IsNumbered, HoldsNumbers, numbers_left, all_numbers_left}
use Rattle.node_shared.specs.inside.Seats.{DrawsNumber, one_fewer}

-- what is numbers_left after one view is another
owed_set : (views : List View) (i : ℕ) (v w : View) → get_elem? views i ≡ some v → all_numbers_left (set views i w) + numbers_left v ≡ all_numbers_left views + numbers_left w
owed_set [] i v w e = absurd (some-ne-none v (sym e))
owed_set (u ∷ us) zero v w e = let s : numbers_left u ≡ numbers_left v = ap numbers_left (some-injective u v e) in omega arith
owed_set (u ∷ us) (suc i) v w e = let r = owed_set us i v w e in omega arith

owed_snoc : (views : List View) (w : View) → all_numbers_left (views ++ w ∷ []) ≡ all_numbers_left views + numbers_left w
owed_snoc [] w = omega arith
owed_snoc (u ∷ us) w = let r = owed_snoc us w in omega arith

there : (views : List View) (i : ℕ) (v : View) → get_elem? views i ≡ some v → i < length views
there [] i v e = absurd (some-ne-none v (sym e))
there (u ∷ us) zero v e = omega arith
there (u ∷ us) (suc i) v e = let r = there us i v e in omega arith

-- a seat that did not draw changes into another that did not
stays : (views : List View) (id : ℕ) (v w : View) → get_elem? views id ≡ some v → ((x : ℕ) → v ≢ Drawn x) → ((x : ℕ) → w ≢ Drawn x) → (i x : ℕ) → HasDrawn (set views id w) i x → HasDrawn views i x
stays views id v w at nv nw i x h = ⊎_elim (λ (t : (i ≡ id) × (w ≡ Drawn x)). absurd (nw x t.1)) (λ (t : (i ≢ id) × HasDrawn views i x). t.1) (at_set views id i w (Drawn x) h)

kept : (views : List View) (id : ℕ) (v w : View) → get_elem? views id ≡ some v → ((x : ℕ) → v ≢ Drawn x) → (i x : ℕ) → HasDrawn views i x → HasDrawn (set views id w) i x
kept views id v w at nv i x h = set_else views id i w (λ (e : i ≡ id). nv x (some-injective v (Drawn x) (sym at ∙ subst (λ (k : ℕ). get_elem? views k ≡ some (Drawn x)) e h))) ∙ h

pub begins : (n : ℕ) → n ≤ 4096 → IsNumbered n 0 (Opening n ∷ [])
begins n few = record {
  distinct = λ i j x h k. absurd (none i x h);
  below = λ i x h. absurd (none i x h);
  all = λ x h. absurd (omega arith);
  within = omega arith;
  few = few;
}
  where
    none : (i x : ℕ) → HasDrawn (Opening n ∷ []) i x → ⊥
    none zero x e = let d : Opening n ≡ Drawn x = some-injective _ _ e in cc
    none (suc i) x e = some-ne-none _ (sym e)

pub splits : (n id k : ℕ) → 0 < k → Splits (HoldsNumbers n) id (Opening k) (one_fewer (Opening k)) Undrawn
splits n id k some_left s h at =
    let r = h.2 in
    let now = set s.views id (Opening (k - 1)) in
    let back : (i x : ℕ) → HasDrawn (now ++ Undrawn ∷ []) i x → HasDrawn s.views i x =
    λ i x e. stays s.views id (Opening k) (Opening (k - 1)) at (λ y. λ (d : Opening k ≡ Drawn y). cc) (λ y. λ (d : Opening (k - 1) ≡ Drawn y). cc) i x
    (⊎_elim (λ (a : HasDrawn now i x). a) (λ (d : Undrawn ≡ Drawn x). absurd (cc)) (at_snoc now Undrawn (Drawn x) i e)) in
    let o = owed_set s.views id (Opening k) (Opening (k - 1)) at in
    let p = owed_snoc now Undrawn in (
      h.0,
      h.1,
      record {
        distinct = λ i j x a b. r.distinct i j x (back i x a) (back j x b);
        below = λ i x a. r.below i x (back i x a);
        all = λ x lt. let a = r.all x lt in (a.0, at_longer now (Undrawn ∷ []) a.0 (Drawn x) (kept s.views id (Opening k) (Opening (k - 1)) at (λ y. λ (d : Opening k ≡ Drawn y). cc) a.0 x a.1));
        within = let w = r.within in omega arith;
        few = r.few;
      },
    )

draw_step : (n id word : ℕ) (views : List View) → get_elem? views id ≡ some Undrawn → IsNumbered n word views → IsNumbered n (word + 1) (set views id (Drawn word))
draw_step n id word views at r =
    let now = set views id (Drawn word) in
    let here : HasDrawn now id word = set_here views id (Drawn word) (there views id Undrawn at) in
    let back : (i x : ℕ) → HasDrawn now i x → ((i ≡ id) × (word ≡ x)) ⊎ ((i ≢ id) × HasDrawn views i x) =
    λ i x e. ⊎_elim (λ (t : (i ≡ id) × (Drawn word ≡ Drawn x)). let d = t.1 in inl (t.0, cc)) (λ (t : (i ≢ id) × HasDrawn views i x). inr t) (at_set views id i (Drawn word) (Drawn x) e) in
    let o = owed_set views id Undrawn (Drawn word) at in
    record {
      distinct = λ i j x a b.
          ⊎_elim
          (λ (p : (i ≡ id) × (word ≡ x)). ⊎_elim (λ (q : (j ≡ id) × (word ≡ x)). p.0 ∙ sym q.0) (λ (q : (j ≢ id) × HasDrawn views j x). let l = r.below j x q.1 in let e = p.1 in absurd (omega arith)) (back j x b))
          (λ (p : (i ≢ id) × HasDrawn views i x). ⊎_elim (λ (q : (j ≡ id) × (word ≡ x)). let l = r.below i x p.1 in let e = q.1 in absurd (omega arith)) (λ (q : (j ≢ id) × HasDrawn views j x). r.distinct i j x p.1 q.1) (back j x b))
          (back i x a);
      below = λ i x a. ⊎_elim (λ (p : (i ≡ id) × (word ≡ x)). let e = p.1 in omega arith) (λ (p : (i ≢ id) × HasDrawn views i x). let l = r.below i x p.1 in omega arith) (back i x a);
      all = λ x lt. ⊎_elim
          (λ (l : x < word). let a = r.all x l in (a.0, kept views id Undrawn (Drawn word) at (λ y. λ (d : Undrawn ≡ Drawn y). cc) a.0 x a.1))
          (λ (e : word ≡ x). (id, subst (λ (y : ℕ). HasDrawn now id y) e here))
          (split_at x word lt);
      within = let w = r.within in omega arith;
      few = r.few;
    }
  where
    split_at : (x w : ℕ) → x < w + 1 → (x < w) ⊎ (w ≡ x)
    split_at x w lt = grind arith

pub draws : (n slots id : ℕ) → Allows (HoldsNumbers n) slots id (Undrawn, []) 0 (λ m. (m + 1) % 2 ^ 64) (DrawsNumber (step slots 0 1 0 none) (Undrawn, []))
draws n slots id s h homes at fits =
    let r = h.2 in
    let word = h.0 in
    let found : slice_index s.words 0 ≡ word = ap (λ ws. slice_index ws 0) h.1 in
    let o = owed_set s.views id Undrawn (Drawn word) at in
    let w = r.within in
    let f = r.few in
    let small : word < 4096 = omega arith in
    let after : (word + 1) % 2 ^ 64 ≡ word + 1 = omega arith in (
      Drawn (slice_index s.words 0),
      keeps,
      tt,
      (
        word + 1,
        ap (λ ws. set ws 0 ((slice_index ws 0 + 1) % 2 ^ 64)) h.1 ∙ ap (λ (m : ℕ). m ∷ []) after,
        subst (λ (m : ℕ). IsNumbered n (word + 1) (set s.views id (Drawn m))) (sym found) (draw_step n id word s.views at r),
      ),
      (refl, subst (λ (m : ℕ). m < 4096) (sym found) small),
    )
