-- The lowest bucket that is not ready.
use Rattle.std.proofs.Common.{◌≡◌, ℕ, zero, suc, ◌+◌, ◌-◌, ◌<◌, ◌≤◌, inl, inr, List, [], ◌∷◌, ◌++◌, length, map, set, replicate, get_or, position, cond, nat_lt, not, Option, Some, None, is_some, IsSome, refl, sym, ◌∙◌, ap, subst, arith, lit≤}
use Rattle.std.specs.List.{position_or_len}
use Rattle.std.proofs.lemmas.Bool.{cases_lt, cases_eq}
use Rattle.std.proofs.lemmas.Bool.Decides.{nat_tests}
use Rattle.std.proofs.lemmas.List.{length-map, get_or-set_same, get_or-set_other, get_or_append_left, get_or-append_right, length-append}
use Rattle.bucket_table.specs.inside.Directory.{AllReadyBelow, IsFirstUnready}

pub ready-more : (directory : List (Option ℕ)) (n : ℕ) → AllReadyBelow directory n → IsSome (get_or directory n None) → AllReadyBelow directory (n + 1)
ready-more directory n h s b l =
    elim (cases_eq b n) [
      | inl it ↦ (let P : ℕ → Type 0 = λ z. IsSome (get_or directory z None) in subst P (sym it) s)
      | inr other ↦ h b (omega arith)
    ]

not-some : (o : Option ℕ) → o ≡ None → IsSome o → ⊥
not-some None e s = absurd (cc)
not-some (Some x) e s = absurd (cc)

first-unready : (ds : List (Option ℕ)) (n : ℕ) → ((b : ℕ) → b < n → IsSome (get_or ds b None)) → (n < length ds → get_or ds n None ≡ None) → n ≤ length ds → position_or_len not (map is_some ds) ≡ n
first-unready [] n h g l = (let z : 0 ≡ n = omega arith in z)
first-unready (None ∷ ds) zero h g l = refl
first-unready (None ∷ ds) (suc n) h g l = absurd (not-some None refl (h 0 (omega arith)))
first-unready (Some x ∷ ds) zero h g l = absurd (not-some (Some x) (g (omega arith)) refl)
first-unready (Some x ∷ ds) (suc n) h g l =
    let rest = first-unready ds n (λ b k. h (suc b) (omega arith)) (λ k. g (omega arith)) (omega arith) in
    ap (λ (z : ℕ). 1 + z) rest ∙ (let one : 1 + n ≡ suc n = omega arith in one)

cond-less : (a n : ℕ) → a < n → cond (nat_lt a n) (Some a) None ≡ Some a
cond-less a n h = grind (arith, nat_tests)

cond-most : (a n : ℕ) → n ≤ a → cond (nat_lt a n) (Some a) None ≡ None
cond-most a n h = grind (arith, nat_tests)

pub first_unready-some : (directory : List (Option ℕ)) (first_unready : ℕ) → IsFirstUnready directory first_unready → first_unready < length directory → position not (map is_some directory) ≡ Some first_unready
first_unready-some directory first_unready i h =
    let e = first-unready directory first_unready i.before i.here i.most in
    let l : length (map is_some directory) ≡ length directory = length-map directory is_some in
    ap (λ (z : ℕ). cond (nat_lt z (length (map is_some directory))) (Some z) None) e ∙ cond-less first_unready (length (map is_some directory)) (omega (arith, l))

pub first_unready-none : (directory : List (Option ℕ)) (first_unready : ℕ) → IsFirstUnready directory first_unready → length directory ≤ first_unready → position not (map is_some directory) ≡ None
first_unready-none directory first_unready i h =
    let e = first-unready directory first_unready i.before i.here i.most in
    let l : length (map is_some directory) ≡ length directory = length-map directory is_some in
    ap (λ (z : ℕ). cond (nat_lt z (length (map is_some directory))) (Some z) None) e ∙ cond-most first_unready (length (map is_some directory)) (omega (arith, l))

pub first_unready-new : (head : ℕ) → IsFirstUnready (Some head ∷ None ∷ []) 1
first_unready-new head = record { before = before; here = λ _. refl; most = lit≤ tt }
  where
    before : (b : ℕ) → b < 1 → IsSome (get_or (Some head ∷ None ∷ []) b None)
    before zero h = refl
    before (suc b) h = absurd (omega arith)

-- One more bucket is ready.
pub ready-still : (directory : List (Option ℕ)) (first_unready bucket at : ℕ) → bucket < length directory → AllReadyBelow directory first_unready → AllReadyBelow (set directory bucket (Some at)) first_unready
ready-still directory first_unready bucket at below h b l =
    let P : Option ℕ → Type 0 = λ z. IsSome z in
    elim (cases_eq b bucket) [
      | inl it ↦ (let Q : ℕ → Type 0 = λ z. IsSome (get_or (set directory bucket (Some at)) z None) in subst Q (sym it) (subst P (sym (get_or-set_same directory bucket (Some at) None below)) refl))
      | inr other ↦ subst P (sym (get_or-set_other directory bucket b (Some at) None other)) (h b l)
    ]

abbrev nones : ℕ → List (Option ℕ)
nones n = replicate n None

none-there : (n b : ℕ) → get_or (nones n) b None ≡ None
none-there zero b = refl
none-there (suc n) zero = refl
none-there (suc n) (suc b) = none-there n b

-- The number of buckets is doubled.
pub first_unready-grown : (directory after : List (Option ℕ)) (n first_unready : ℕ) → after ≡ directory ++ replicate n None → IsFirstUnready directory first_unready → IsFirstUnready after first_unready
first_unready-grown directory after n first_unready e i =
    let P : List (Option ℕ) → Type 0 = λ ds. IsFirstUnready ds first_unready in
    let S : Option ℕ → Type 0 = λ z. IsSome z in
    let long = length-append directory (replicate n None) in
    subst P (sym e) (record {
      before = λ b l. subst S (sym (get_or_append_left directory (replicate n None) None b (omega (arith, i.most)))) (i.before b l);
      here = λ l.
          elim (cases_lt first_unready (length directory)) [
            | inl old ↦ get_or_append_left directory (replicate n None) None first_unready old ∙ i.here old
            | inr new ↦ get_or-append_right directory (replicate n None) (length directory) first_unready None refl new ∙ none-there n (first_unready - length directory)
          ];
      most = omega (arith, i.most, long);
    })
