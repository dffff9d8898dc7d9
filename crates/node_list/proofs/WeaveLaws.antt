-- Laws of the nodes at even and odd places.
use Rattle.std.proofs.Common.{◌≡◌, ◌≢◌, ◌⊎◌, ℕ, zero, suc, ◌+◌, ◌*◌, ◌/◌, ◌%◌, ◌<◌, inl, inr, List, [], ◌∷◌, length, map, get_or, set, count_by, is_some, Option, None, cond, refl, sym, ◌∙◌, ap, subst, arith}
use Rattle.std.proofs.lemmas.Bool.{cases_eq}
use Rattle.std.proofs.lemmas.List.Sums.{sum_by-cons}
use Rattle.slab.specs.Slab.{Slab, Updates, SameValues}
use Rattle.node_list.specs.declared.node.ListNode.{ListNode}
use Rattle.node_list.specs.declared.packed.PackedHeader.{PackedHeader}
use Rattle.node_list.specs.inside.Woven.{weave, woven, stored_dummy}

-- ---- one place
abbrev twice : ℕ → ℕ
twice zero = zero
twice (suc k) = suc (suc (twice k))

twice-is : (k : ℕ) → twice k ≡ 2 * k
twice-is zero = refl
twice-is (suc k) = omega (arith, twice-is k)

even : (xs ys : List (Option ListNode)) (k : ℕ) → get_or (weave xs ys) (twice k) None ≡ get_or xs k None
unfolding weave
even [] [] k = refl
even [] (y ∷ ys) zero = refl
even [] (y ∷ ys) (suc k) = even [] ys k
even (x ∷ xs) [] zero = refl
even (x ∷ xs) [] (suc k) = even xs [] k
even (x ∷ xs) (y ∷ ys) zero = refl
even (x ∷ xs) (y ∷ ys) (suc k) = even xs ys k

odd : (xs ys : List (Option ListNode)) (k : ℕ) → get_or (weave xs ys) (suc (twice k)) None ≡ get_or ys k None
unfolding weave
odd [] [] k = refl
odd [] (y ∷ ys) zero = refl
odd [] (y ∷ ys) (suc k) = odd [] ys k
odd (x ∷ xs) [] zero = refl
odd (x ∷ xs) [] (suc k) = odd xs [] k
odd (x ∷ xs) (y ∷ ys) zero = refl
odd (x ∷ xs) (y ∷ ys) (suc k) = odd xs ys k

pub get-even : (xs ys : List (Option ListNode)) (k : ℕ) → get_or (weave xs ys) (2 * k) None ≡ get_or xs k None
get-even xs ys k = let P : ℕ → Type 0 = λ n. get_or (weave xs ys) n None ≡ get_or xs k None in subst P (twice-is k) (even xs ys k)

pub get-odd : (xs ys : List (Option ListNode)) (k : ℕ) → get_or (weave xs ys) (2 * k + 1) None ≡ get_or ys k None
get-odd xs ys k = let P : ℕ → Type 0 = λ n. get_or (weave xs ys) n None ≡ get_or ys k None in subst P (omega (arith, twice-is k)) (odd xs ys k)

pub parity : (n : ℕ) → (n ≡ 2 * (n / 2)) ⊎ (n ≡ 2 * (n / 2) + 1)
parity n = elim (cases_eq (n % 2) 0) [ inl even ↦ inl (omega (arith, even)) | inr odd ↦ inr (omega (arith, odd)) ]

-- what a place shows
pub get-by_even : (xs ys : List (Option ListNode)) (n : ℕ) → n % 2 ≡ 0 → get_or (weave xs ys) n None ≡ get_or xs (n / 2) None
get-by_even xs ys n h =
    let is : n ≡ 2 * (n / 2) = omega (arith, h) in
    ap (λ k. get_or (weave xs ys) k None) is ∙ get-even xs ys (n / 2)

pub get-by_odd : (xs ys : List (Option ListNode)) (n : ℕ) → n % 2 ≡ 1 → get_or (weave xs ys) n None ≡ get_or ys (n / 2) None
get-by_odd xs ys n h =
    let is : n ≡ 2 * (n / 2) + 1 = omega (arith, h) in
    ap (λ k. get_or (weave xs ys) k None) is ∙ get-odd xs ys (n / 2)

-- ---- how many
count-one : (x : Option ListNode) (xs : List (Option ListNode)) → count_by is_some (x ∷ xs) ≡ cond (is_some x) 1 0 + count_by is_some xs
count-one x xs = sum_by-cons (λ z. cond (is_some z) 1 0) x xs

pub count-weave : (xs ys : List (Option ListNode)) → count_by is_some (weave xs ys) ≡ count_by is_some xs + count_by is_some ys
unfolding weave
count-weave [] [] = refl
count-weave [] (y ∷ ys) = omega (arith, count-one None (y ∷ weave [] ys), count-one y (weave [] ys), count-one y ys, count-weave [] ys)
count-weave (x ∷ xs) [] = omega (arith, count-one x (None ∷ weave xs []), count-one None (weave xs []), count-one x xs, count-weave xs [])
count-weave (x ∷ xs) (y ∷ ys) = omega (arith, count-one x (y ∷ weave xs ys), count-one y (weave xs ys), count-one x xs, count-one y ys, count-weave xs ys)

-- ---- a change of one place
set-twice : (xs ys : List (Option ListNode)) (k : ℕ) (o : Option ListNode) → k < length xs → set (weave xs ys) (twice k) o ≡ weave (set xs k o) ys
unfolding weave
set-twice [] ys k o h = absurd (omega (arith, h))
set-twice (x ∷ xs) [] zero o h = refl
set-twice (x ∷ xs) [] (suc k) o h = ap (λ (zs : List (Option ListNode)). x ∷ None ∷ zs) (set-twice xs [] k o (omega (arith, h)))
set-twice (x ∷ xs) (y ∷ ys) zero o h = refl
set-twice (x ∷ xs) (y ∷ ys) (suc k) o h = ap (λ (zs : List (Option ListNode)). x ∷ y ∷ zs) (set-twice xs ys k o (omega (arith, h)))

set-after_twice : (xs ys : List (Option ListNode)) (k : ℕ) (o : Option ListNode) → k < length ys → set (weave xs ys) (suc (twice k)) o ≡ weave xs (set ys k o)
unfolding weave
set-after_twice xs [] k o h = absurd (omega (arith, h))
set-after_twice [] (y ∷ ys) zero o h = refl
set-after_twice [] (y ∷ ys) (suc k) o h = ap (λ (zs : List (Option ListNode)). None ∷ y ∷ zs) (set-after_twice [] ys k o (omega (arith, h)))
set-after_twice (x ∷ xs) (y ∷ ys) zero o h = refl
set-after_twice (x ∷ xs) (y ∷ ys) (suc k) o h = ap (λ (zs : List (Option ListNode)). x ∷ y ∷ zs) (set-after_twice xs ys k o (omega (arith, h)))

pub set-even : (xs ys : List (Option ListNode)) (k : ℕ) (o : Option ListNode) → k < length xs → set (weave xs ys) (2 * k) o ≡ weave (set xs k o) ys
set-even xs ys k o h = let P : ℕ → Type 0 = λ n. set (weave xs ys) n o ≡ weave (set xs k o) ys in subst P (twice-is k) (set-twice xs ys k o h)

pub set-odd : (xs ys : List (Option ListNode)) (k : ℕ) (o : Option ListNode) → k < length ys → set (weave xs ys) (2 * k + 1) o ≡ weave xs (set ys k o)
set-odd xs ys k o h = let P : ℕ → Type 0 = λ n. set (weave xs ys) n o ≡ weave xs (set ys k o) in subst P (omega (arith, twice-is k)) (set-after_twice xs ys k o h)

-- a change of one item, and of no item
pub woven-updates : (dummies : List PackedHeader) (old new : Slab ListNode) (k : ℕ) (o : Option ListNode) → Updates old new k o → Updates (woven dummies old) (woven dummies new) (2 * k + 1) o
woven-updates dummies old new k o u =
    let xs = map stored_dummy dummies in
    record {
      changed = get-odd xs new.slots k ∙ u.changed;
      others = λ j other. elim (cases_eq (j % 2) 0) [
        | inl is ↦ get-by_even xs new.slots j is ∙ sym (get-by_even xs old.slots j is)
        | inr is ↦
            let apart : j / 2 ≢ k = λ same. other (omega (arith, is, same)) in
            get-by_odd xs new.slots j (omega (arith, is)) ∙ (u.others (j / 2) apart ∙ sym (get-by_odd xs old.slots j (omega (arith, is))))
      ];
    }

pub woven-same : (dummies : List PackedHeader) (old new : Slab ListNode) → SameValues old new → SameValues (woven dummies old) (woven dummies new)
woven-same dummies old new same j =
    let xs = map stored_dummy dummies in
    elim (cases_eq (j % 2) 0) [
      | inl is ↦ get-by_even xs new.slots j is ∙ sym (get-by_even xs old.slots j is)
      | inr is ↦ get-by_odd xs new.slots j (omega (arith, is)) ∙ (same (j / 2) ∙ sym (get-by_odd xs old.slots j (omega (arith, is))))
    ]

pub weave-empty : (ps : List PackedHeader) (ys : List (Option ListNode)) → ps ≡ [] → ys ≡ [] → weave (map stored_dummy ps) ys ≡ []
unfolding weave
weave-empty ps ys p y = λ i. weave (map stored_dummy (p i)) (y i)
