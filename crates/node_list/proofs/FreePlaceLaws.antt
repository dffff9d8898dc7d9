-- Laws of the places of the slab of items: which have an item, and how many do.
use Rattle.std.proofs.Common.{◌≡◌, inl, inr, ℕ, zero, suc, ◌+◌, ◌<◌, ◌≤◌, List, [], ◌∷◌, length, get_or, set, Option, Some, None, IsSome, is_some, count_by, Bool, true, false, cond, refl, sym, ◌∙◌, ap, subst, arith}
use Rattle.std.proofs.lemmas.Bool.{cases_eq}
use Rattle.std.proofs.lemmas.List.{get_or_past}
use Rattle.std.proofs.lemmas.List.Sums.{sum_by-set, sum_by-cons}
use Rattle.slab.specs.Slab.{Slab, get, slab_len, with_value, Updates}
use Rattle.node_list.specs.declared.node.ListNode.{ListNode}
use Rattle.node_list.specs.declared.node.StoredItem.{StoredItem}
use Rattle.node_list.specs.inside.PackedHeader.{is_free}
use Rattle.node_list.specs.inside.FreeList.{stored_node, live_node, live_nodes, free_node, free_in}

-- ---- one place
pub live-is : (s : StoredItem) → is_free s.header ≡ false → live_node (Some s) ≡ Some (stored_node s)
live-is s e = ap {B = Option ListNode} (λ (b : Bool). cond b None (Some (stored_node s))) e

pub live-none : (s : StoredItem) → is_free s.header ≡ true → live_node (Some s) ≡ None
live-none s e = ap {B = Option ListNode} (λ (b : Bool). cond b None (Some (stored_node s))) e

pub free-is : (s : StoredItem) → is_free s.header ≡ true → free_in (Some s) ≡ Some (free_node s)
free-is s e = ap {B = Option ListNode} (λ (b : Bool). cond b (Some (free_node s)) None) e

free-none : (s : StoredItem) → is_free s.header ≡ false → free_in (Some s) ≡ None
free-none s e = ap {B = Option ListNode} (λ (b : Bool). cond b (Some (free_node s)) None) e

not-free : (s : StoredItem) (b : Bool) → IsSome (cond b None (Some (stored_node s))) → b ≡ false
not-free s true h = absurd (cc)
not-free s false h = refl

-- the place of an item
live-by : (o : Option StoredItem) → IsSome (live_node o) → (s : StoredItem) × ((o ≡ Some s) × (is_free s.header ≡ false))
live-by None h = absurd (cc)
live-by (Some s) h = (s, (refl, not-free s (is_free s.header) h))

free-shows : (s : StoredItem) (b : Bool) (m : ListNode) → is_free s.header ≡ b → cond b (Some (free_node s)) None ≡ Some m → (is_free s.header ≡ true) × (m ≡ free_node s)
free-shows s true m e h = (e, let k : m ≡ free_node s = cc in k)
free-shows s false m e h = absurd (cc)

-- a free place
pub free-by : (o : Option StoredItem) (m : ListNode) → free_in o ≡ Some m → (s : StoredItem) × ((o ≡ Some s) × ((is_free s.header ≡ true) × (m ≡ free_node s)))
free-by None m h = absurd (cc)
free-by (Some s) m h = (s, (refl, free-shows s (is_free s.header) m refl h))

live-not_free : (o : Option StoredItem) → IsSome (live_node o) → free_in o ≡ None
live-not_free o h = let f = live-by o h in ap free_in f.1.0 ∙ free-none f.0 f.1.1

-- ---- all places
pub get-live : (os : List (Option StoredItem)) (k : ℕ) → get_or (live_nodes os) k None ≡ live_node (get_or os k None)
get-live [] k = refl
get-live (o ∷ os) zero = refl
get-live (o ∷ os) (suc k) = get-live os k

pub live-at : (n : Slab StoredItem) (k : ℕ) → IsSome (get_or (live_nodes n.slots) k None) → (s : StoredItem) × ((get n k ≡ Some s) × (is_free s.header ≡ false))
live-at n k h = let P : Option ListNode → Type 0 = λ o. IsSome o in live-by (get n k) (subst P (get-live n.slots k) h)

pub has-place : (n : Slab StoredItem) (k : ℕ) → IsSome (get_or (live_nodes n.slots) k None) → IsSome (get n k)
has-place n k h = let P : Option StoredItem → Type 0 = λ o. IsSome o in subst P (sym (live-at n k h).1.0) refl

pub not-free_at : (n : Slab StoredItem) (k : ℕ) → IsSome (get_or (live_nodes n.slots) k None) → free_in (get n k) ≡ None
not-free_at n k h = let P : Option ListNode → Type 0 = λ o. IsSome o in live-not_free (get n k) (subst P (get-live n.slots k) h)

-- the node that a read of an item's place shows
pub live-node : (n : Slab StoredItem) (k : ℕ) (s : StoredItem) → IsSome (get_or (live_nodes n.slots) k None) → get n k ≡ Some s → get_or (live_nodes n.slots) k None ≡ Some (stored_node s)
live-node n k s h e =
    let l = live-at n k h in
    let same : l.0 ≡ s = cc (l.1.0, e) in
    let P : StoredItem → Type 0 = λ z. is_free z.header ≡ false in
    get-live n.slots k ∙ (ap live_node e ∙ live-is s (subst P same l.1.1))

pub map-set : (os : List (Option StoredItem)) (k : ℕ) (o : Option StoredItem) → live_nodes (set os k o) ≡ set (live_nodes os) k (live_node o)
map-set [] k o = refl
map-set (x ∷ os) zero o = refl
map-set (x ∷ os) (suc k) o = ap (λ (zs : List (Option ListNode)). live_node x ∷ zs) (map-set os k o)

-- ---- how many
within-slots : (n : Slab StoredItem) (k : ℕ) → IsSome (get n k) → k < length n.slots
within-slots n k h = grind (arith, get_or_past)

length-live : (os : List (Option StoredItem)) → length (live_nodes os) ≡ length os
length-live [] = refl
length-live (o ∷ os) = ap suc (length-live os)

pub len-written : (n : Slab StoredItem) (k : ℕ) (q : StoredItem) → IsSome (get n k) → slab_len (with_value n k q) ≡ slab_len n
len-written n k q h =
    let counts : Option StoredItem → ℕ = λ o. cond (is_some o) 1 0 in
    let one : cond (is_some (get n k)) 1 0 ≡ 1 = ap {B = ℕ} (λ (b : Bool). cond b 1 0) h in
    omega (arith, one, sum_by-set counts n.slots k (Some q) None (within-slots n k h))

len-live : (n : Slab StoredItem) (k : ℕ) (p q : StoredItem) → get n k ≡ Some p
    → count_by is_some (live_nodes (with_value n k q).slots) + cond (is_some (live_node (Some p))) 1 0 ≡ count_by is_some (live_nodes n.slots) + cond (is_some (live_node (Some q))) 1 0
len-live n k p q e =
    let O : Option StoredItem → Type 0 = λ o. IsSome o in
    let counts : Option ListNode → ℕ = λ o. cond (is_some o) 1 0 in
    let lt : k < length (live_nodes n.slots) = omega (arith, length-live n.slots, within-slots n k (subst O (sym e) refl)) in
    let N : Option ListNode → Type 0 = λ o. count_by is_some (live_nodes (with_value n k q).slots) + cond (is_some o) 1 0 ≡ count_by is_some (live_nodes n.slots) + cond (is_some (live_node (Some q))) 1 0 in
    let L : List (Option ListNode) → Type 0 = λ zs. count_by is_some zs + cond (is_some (get_or (live_nodes n.slots) k None)) 1 0 ≡ count_by is_some (live_nodes n.slots) + cond (is_some (live_node (Some q))) 1 0 in
    subst N (get-live n.slots k ∙ ap live_node e) (subst L (sym (map-set n.slots k (Some q))) (sum_by-set counts (live_nodes n.slots) k (live_node (Some q)) None lt))

counts-live : (s : StoredItem) → is_free s.header ≡ false → ◌≡◌ {A = ℕ} (cond (is_some (live_node (Some s))) 1 0) 1
counts-live s e = ap {B = ℕ} (λ (o : Option ListNode). cond (is_some o) 1 0) (live-is s e)

counts-free : (s : StoredItem) → is_free s.header ≡ true → ◌≡◌ {A = ℕ} (cond (is_some (live_node (Some s))) 1 0) 0
counts-free s e = ap {B = ℕ} (λ (o : Option ListNode). cond (is_some o) 1 0) (live-none s e)

-- a free place gets an item, a place becomes free, or an item is replaced
pub len-insert : (n : Slab StoredItem) (k : ℕ) (p q : StoredItem) → get n k ≡ Some p → is_free p.header ≡ true → is_free q.header ≡ false → count_by is_some (live_nodes (with_value n k q).slots) ≡ count_by is_some (live_nodes n.slots) + 1
len-insert n k p q e a b = omega (arith, len-live n k p q e, counts-free p a, counts-live q b)

pub len-remove : (n : Slab StoredItem) (k : ℕ) (p q : StoredItem) → get n k ≡ Some p → is_free p.header ≡ false → is_free q.header ≡ true → count_by is_some (live_nodes (with_value n k q).slots) + 1 ≡ count_by is_some (live_nodes n.slots)
len-remove n k p q e a b = omega (arith, len-live n k p q e, counts-live p a, counts-free q b)

pub len-replace : (n : Slab StoredItem) (k : ℕ) (p q : StoredItem) → get n k ≡ Some p → is_free p.header ≡ false → is_free q.header ≡ false → count_by is_some (live_nodes (with_value n k q).slots) ≡ count_by is_some (live_nodes n.slots)
len-replace n k p q e a b = omega (arith, len-live n k p q e, counts-live p a, counts-live q b)

-- slots with equal contents have equal counts
none-one : (o : Option ListNode) → o ≡ None → ◌≡◌ {A = ℕ} (cond (is_some o) 1 0) 0
none-one o e = ap {B = ℕ} (λ (z : Option ListNode). cond (is_some z) 1 0) e

pub same-count : (xs ys : List (Option ListNode)) → ((k : ℕ) → get_or xs k None ≡ get_or ys k None) → count_by is_some xs ≡ count_by is_some ys
same-count [] [] h = refl
same-count [] (y ∷ ys) h =
    let two : Option ListNode → ℕ = λ z. cond (is_some z) 1 0 in
    omega (arith, same-count [] ys (λ k. h (suc k)), sum_by-cons two y ys, none-one y (sym (h zero)))
same-count (x ∷ xs) [] h =
    let two : Option ListNode → ℕ = λ z. cond (is_some z) 1 0 in
    omega (arith, same-count xs [] (λ k. h (suc k)), sum_by-cons two x xs, none-one x (h zero))
same-count (x ∷ xs) (y ∷ ys) h =
    let two : Option ListNode → ℕ = λ z. cond (is_some z) 1 0 in
    omega (arith, same-count xs ys (λ k. h (suc k)), sum_by-cons two x xs, sum_by-cons two y ys, ap two (h zero))

-- slots that differ in one have one node more, if it was empty
one-one : (o : Option ListNode) (m : ListNode) → o ≡ Some m → ◌≡◌ {A = ℕ} (cond (is_some o) 1 0) 1
one-one o m e = ap {B = ℕ} (λ (z : Option ListNode). cond (is_some z) 1 0) e

pub one-more : (xs ys : List (Option ListNode)) (k : ℕ) (m : ListNode) → get_or xs k None ≡ None → get_or ys k None ≡ Some m → ((j : ℕ) → (j ≡ k → ⊥) → get_or ys j None ≡ get_or xs j None) → count_by is_some ys ≡ count_by is_some xs + 1
one-more xs [] k m was is h = absurd (cc)
one-more [] (y ∷ ys) zero m was is h =
    let counts : Option ListNode → ℕ = λ z. cond (is_some z) 1 0 in
    omega (arith, same-count ys [] (λ j. h (suc j) (λ e. absurd (omega (arith, e)))), sum_by-cons counts y ys, one-one y m is)
one-more (x ∷ xs) (y ∷ ys) zero m was is h =
    let counts : Option ListNode → ℕ = λ z. cond (is_some z) 1 0 in
    omega (arith, same-count ys xs (λ j. h (suc j) (λ e. absurd (omega (arith, e)))), sum_by-cons counts y ys, sum_by-cons counts x xs, one-one y m is, none-one x was)
one-more [] (y ∷ ys) (suc k) m was is h =
    let counts : Option ListNode → ℕ = λ z. cond (is_some z) 1 0 in
    omega (arith, one-more [] ys k m refl is (λ j other. h (suc j) (λ e. other (omega (arith, e)))), sum_by-cons counts y ys, none-one y (h zero (λ e. absurd (omega (arith, e)))))
one-more (x ∷ xs) (y ∷ ys) (suc k) m was is h =
    let counts : Option ListNode → ℕ = λ z. cond (is_some z) 1 0 in
    omega (arith, one-more xs ys k m was is (λ j other. h (suc j) (λ e. other (omega (arith, e)))), sum_by-cons counts y ys, sum_by-cons counts x xs, ap counts (h zero (λ e. absurd (omega (arith, e)))))

-- a new place changes no item
pub add_place-same : (n m : Slab StoredItem) (k : ℕ) (q : StoredItem) → get n k ≡ None → Updates n m k (Some q) → is_free q.header ≡ true → (j : ℕ) → get_or (live_nodes m.slots) j None ≡ get_or (live_nodes n.slots) j None
add_place-same n m k q none u free j =
    elim (cases_eq j k) [
      | inl same ↦ ap (λ i. get_or (live_nodes m.slots) i None) same ∙ (get-live m.slots k ∙ (ap live_node u.changed ∙ (live-none q free ∙ (sym (get-live n.slots k ∙ ap live_node none) ∙ ap (λ i. get_or (live_nodes n.slots) i None) (sym same)))))
      | inr other ↦ get-live m.slots j ∙ (ap live_node (u.others j other) ∙ sym (get-live n.slots j))
    ]

-- there are at most as many places as the bound of their indices
at-most_one : (o : Option StoredItem) → cond (is_some o) 1 0 ≤ 1
at-most_one None = omega arith
at-most_one (Some f) = omega arith

fewer : (os : List (Option StoredItem)) (room : ℕ) → ((k : ℕ) → IsSome (get_or os k None) → k < room) → count_by is_some os ≤ room
fewer [] room h = omega arith
fewer (None ∷ os) zero h =
    let two : Option StoredItem → ℕ = λ z. cond (is_some z) 1 0 in
    omega (arith, fewer os zero (λ k some. absurd (omega (arith, h (suc k) some))), sum_by-cons two None os)
fewer (Some f ∷ os) zero h = absurd (omega (arith, h zero refl))
fewer (o ∷ os) (suc room) h =
    let two : Option StoredItem → ℕ = λ z. cond (is_some z) 1 0 in
    omega (arith, fewer os room (λ k some. omega (arith, h (suc k) some)), sum_by-cons two o os, at-most_one o)

pub slab_len-at_most : (n : Slab StoredItem) (room : ℕ) → ((k : ℕ) → IsSome (get n k) → k < room) → slab_len n ≤ room
slab_len-at_most n room h = fewer n.slots room h

-- a write of one place keeps a bound of all places
pub write-keeps_bound : (s t : Slab StoredItem) (at room : ℕ) (o : Option StoredItem) → Updates s t at o → at < room → ((k : ℕ) → IsSome (get s k) → k < room) → (k : ℕ) → IsSome (get t k) → k < room
write-keeps_bound s t at room o u here h k some =
    let O : Option StoredItem → Type 0 = λ z. IsSome z in
    elim (cases_eq k at) [
      | inl same ↦ omega (arith, same, here)
      | inr other ↦ h k (subst O (u.others k other) some)
    ]

-- what a write of one place shows
pub updates-live : (n m : Slab StoredItem) (k : ℕ) (o : Option StoredItem) → Updates n m k o → (get_or (live_nodes m.slots) k None ≡ live_node o) × ((j : ℕ) → (j ≡ k → ⊥) → get_or (live_nodes m.slots) j None ≡ get_or (live_nodes n.slots) j None)
updates-live n m k o u =
    (get-live m.slots k ∙ ap live_node u.changed, λ j other. get-live m.slots j ∙ (ap live_node (u.others j other) ∙ sym (get-live n.slots j)))

-- a new place has one item more
pub len-new : (n m : Slab StoredItem) (k : ℕ) (q : StoredItem) → get n k ≡ None → Updates n m k (Some q) → is_free q.header ≡ false → count_by is_some (live_nodes m.slots) ≡ count_by is_some (live_nodes n.slots) + 1
len-new n m k q none u live =
    let l = updates-live n m k (Some q) u in
    one-more (live_nodes n.slots) (live_nodes m.slots) k (stored_node q) (get-live n.slots k ∙ ap live_node none) (l.0 ∙ live-is q live) l.1
