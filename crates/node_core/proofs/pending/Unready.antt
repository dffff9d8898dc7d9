-- How many buckets are not ready after they are doubled or one is readied.
use Rattle.std.proofs.Common.{◌≡◌, ℕ, zero, suc, ◌+◌, ◌*◌, ◌<◌, ◌≤◌, inl, inr, not, Bool, true, false, cond, List, [], ◌∷◌, ◌++◌, refl, sym, ap, subst, ◌∙◌, length, get_or, set, take, arith}
use Rattle.std.specs.Prelude.{count_by, replicate}
use Rattle.std.proofs.lemmas.Bool.{cases_lt}
use Rattle.std.proofs.lemmas.List.{take_all, length-append, length-replicate, length-set}
use Rattle.std.proofs.lemmas.List.Sums.{sum_by-append, sum_by-set, count_by_more_no}
use Rattle.std.proofs.lemmas.List.Folds.{sum_by-replicate}
use Rattle.bucket_table.specs.Buckets.{IsGrown}
use Rattle.bucket_table.specs.declared.growth.Growth.{Growth}
use Rattle.bucket_table.specs.declared.growth.Growth.TheVariants.{Grown, AtMost}

abbrev pub unready : List Bool → ℕ
unready buckets = count_by not buckets

pub unready-grown : (bs : List Bool) → unready (bs ++ replicate (length bs) false) ≡ unready bs + length bs
unready-grown bs = omega (arith, sum_by-append (λ b. cond (not b) 1 0) bs (replicate (length bs) false), sum_by-replicate (λ b. cond (not b) 1 0) (length bs) false)

pub length-grown : (bs : List Bool) → length (bs ++ replicate (length bs) false) ≡ length bs + length bs
length-grown bs = omega (arith, length-append bs (replicate (length bs) false), length-replicate (length bs) false)

pub unready-readied : (bs : List Bool) (i : ℕ) → i < length bs → get_or bs i false ≡ false → unready (set bs i true) + 1 ≡ unready bs
unready-readied bs i within e = omega (arith, sum_by-set (λ b. cond (not b) 1 0) bs i true false within, ap {B = ℕ} (λ b. cond (not b) 1 0) e)

unready-set : (bs : List Bool) (i : ℕ) → unready (set bs i true) ≤ unready bs
unready-set [] i = omega arith
unready-set (b ∷ bs) i = elim (cases_lt i (length (b ∷ bs))) [
  | inl within ↦ omega (arith, sum_by-set (λ b. cond (not b) 1 0) (b ∷ bs) i true false within)
  | inr beyond ↦ omega (arith, ap unready (set-beyond (b ∷ bs) i beyond))
]
  where
    set-beyond : (xs : List Bool) (i : ℕ) → length xs ≤ i → set xs i true ≡ xs
    set-beyond [] i h = refl
    set-beyond (x ∷ xs) zero h = absurd (omega (arith, h))
    set-beyond (x ∷ xs) (suc i) h = ap (λ (ys : List Bool). x ∷ ys) (set-beyond xs i (omega (arith, h)))

more : (k : ℕ) → suc k ≡ k + 1
more k = omega arith

first-ready : (bs : List Bool) (k : ℕ) → k ≤ length bs → ((i : ℕ) → i < length bs → not (get_or bs i false) ≡ false) → unready (take k bs) ≡ 0
first-ready bs zero h ready = refl
first-ready bs (suc k) h ready =
    ap (λ n. unready (take n bs)) (more k)
    ∙ omega (arith, count_by_more_no not bs k false (omega (arith, h)) (ready k (omega (arith, h))), first-ready bs k (omega (arith, h)) ready)

pub unready-none : (bs : List Bool) → ((i : ℕ) → i < length bs → not (get_or bs i false) ≡ false) → unready bs ≡ 0
unready-none bs ready = ap unready (sym (take_all (length bs) bs (omega arith))) ∙ first-ready bs (length bs) (omega arith) ready

-- the room for slots, four a bucket but for three in each that is not ready, does not fall
pub record Widens (bs cs : List Bool) : Type 0 where
  pub wide : length bs ≤ length cs
  pub room : 4 * length bs + 3 * unready cs ≤ 4 * length cs + 3 * unready bs

pub widens-same : (bs cs : List Bool) → cs ≡ bs → Widens bs cs
widens-same bs cs e = subst (Widens bs) (sym e) (record { wide = omega arith; room = omega arith })

pub widens-grown : (most : ℕ) (bs cs : List Bool) (growth : Growth) → IsGrown most bs growth cs → Widens bs cs
widens-grown most bs cs Grown e = subst (Widens bs) (sym e) (record { wide = omega (arith, length-grown bs); room = omega (arith, length-grown bs, unready-grown bs) })
widens-grown most bs cs AtMost h = widens-same bs cs h.0

pub widens-set : (bs cs : List Bool) (i : ℕ) → cs ≡ set bs i true → Widens bs cs
widens-set bs cs i e = subst (Widens bs) (sym e) (record { wide = omega (arith, length-set bs i true); room = omega (arith, length-set bs i true, unready-set bs i) })
