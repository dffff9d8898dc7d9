-- What preserves the invariant of the items, and the first item from a place on.
use Rattle.std.proofs.Common.{◌≡◌, ℕ, ◌+◌, ◌<◌, ◌≤◌, ◌-◌, ◌^◌, inl, inr, List, get_or, set, count_by, is_some, Option, Some, None, IsSome, Bool, true, false, if◌then◌else◌, refl, sym, ◌∙◌, ap, subst, arith}
use Rattle.std.proofs.lemmas.Bool.{cases_eq, cases_lt}
use Rattle.slab.specs.Slab.{Slab, get, slab_len, with_value, HasRoomFor, Updates}
use Rattle.slab.proofs.SlabLemmas.{Updates-with_value}
use Rattle.node_list.specs.declared.node.ListNode.{ListNode}
use Rattle.node_list.specs.declared.node.StoredItem.{StoredItem}
use Rattle.node_list.specs.inside.PackedHeader.{is_free, next_in}
use Rattle.node_list.specs.inside.FreeList.{live_node, live_nodes, stored_node, free_in, HasNoItemBetween, items_view, HasSparePlace, ItemsInvariant}
use Rattle.node_list.specs.inside.Slots.{HasItemIn, IsLeastItemIn}
use Rattle.node_list.specs.inside.Walks.{Links}
use Rattle.node_list.proofs.FreePlaceLaws.{live-none, get-live, live-at, has-place, not-free_at, map-set, len-written, len-insert, len-remove, len-replace, same-count, len-new, add_place-same, write-keeps_bound, updates-live}
use Rattle.node_list.proofs.FreeListLaws.{First, no-free, insert-free_list, remove-free_list, keep-free_list}

-- ---- the spare place
-- a place is spare, and the slab can take it
pub record Spare (n : Slab StoredItem) (spare : Bool) : Type 0 where
  pub is : spare ≡ true
  pub place : HasSparePlace n

is-spare : (spare : Bool) → 0 < (if spare then 1 else 0) → spare ≡ true
is-spare true h = refl
is-spare false h = absurd (omega (arith, h))

-- with room for an item and no free place, a place is spare
pub spare-place : (n : Slab StoredItem) (spare : Bool) (first_item_bound end : ℕ) (free_head : Option ℕ) (len : ℕ) → ItemsInvariant n spare first_item_bound end free_head len → free_head ≡ None → HasRoomFor (items_view n spare) 1 → Spare n spare
spare-place n spare first_item_bound end free_head len a none room =
    let is = is-spare spare (omega (arith, room, a.counted, no-free n free_head len a.free_list none)) in
    record { is = is; place = a.ready is }

-- a write to a place of the slab keeps the spare place
still-ready : (n : Slab StoredItem) (at : ℕ) (q : StoredItem) (spare : Bool) → IsSome (get n at) → (spare ≡ true → HasSparePlace n) → spare ≡ true → HasSparePlace (with_value n at q)
still-ready n at q spare some ready is =
    let r = ready is in
    record { room = omega (arith, r.room, len-written n at q some); fits = r.fits }

-- ---- the invariant
-- more capacity changes no item
pub reserve-invariant : (n m : Slab StoredItem) (spare after : Bool) (first_item_bound end : ℕ) (free_head : Option ℕ) (len : ℕ) → m.slots ≡ n.slots → (after ≡ true → HasSparePlace m)
    → ItemsInvariant n spare first_item_bound end free_head len → ItemsInvariant m after first_item_bound end free_head len
reserve-invariant n m spare after first_item_bound end free_head len slots ready a =
    let P : List (Option StoredItem) → Type 0 = λ zs. (k : ℕ) → IsSome (get_or zs k None) → k < end in
    let B : List (Option StoredItem) → Type 0 = λ zs. (k : ℕ) → k < first_item_bound → live_node (get_or zs k None) ≡ None in
    let C : List (Option StoredItem) → Type 0 = λ zs. Links (λ k. free_in (get_or zs k None)) free_head a.free_list.cells in
    record {
      within = subst P (sym slots) a.within;
      few = a.few;
      below = subst B (sym slots) a.below;
      counted = ap (λ (zs : List (Option StoredItem)). count_by is_some (live_nodes zs)) slots ∙ a.counted;
      free_list = record {
        cells = a.free_list.cells;
        links = subst C (sym slots) a.free_list.links;
        count = a.free_list.count ∙ ap (λ (zs : List (Option StoredItem)). count_by is_some zs) (sym slots);
      };
      ready = ready;
    }

-- the spare place becomes free
pub add_place-invariant : (n m : Slab StoredItem) (at : ℕ) (q : StoredItem) (spare : Bool) (first_item_bound end wider : ℕ) (free_head : Option ℕ) (len : ℕ) → get n at ≡ None → at < wider → end ≤ wider → wider < 2 ^ 30 → Updates n m at (Some q)
    → slab_len m ≡ slab_len n + 1 → is_free q.header ≡ true → next_in q.header ≡ free_head → ItemsInvariant n spare first_item_bound end free_head len → ItemsInvariant m false first_item_bound wider (Some at) len
add_place-invariant n m at q spare first_item_bound end wider free_head len none here more fits u longer free next a =
    record {
      within = write-keeps_bound n m at wider (Some q) u here (λ k some. omega (arith, a.within k some, more));
      few = fits;
      below = λ k h. elim (cases_eq k at) [
        | inl same ↦ ap (λ j. live_node (get m j)) same ∙ (ap live_node u.changed ∙ live-none q free)
        | inr other ↦ ap live_node (u.others k other) ∙ a.below k h
      ];
      counted = same-count (live_nodes m.slots) (live_nodes n.slots) (add_place-same n m at q none u free) ∙ a.counted;
      free_list = remove-free_list n m free_head at len len q a.free_list (ap free_in none) u free next (omega (arith, longer));
      ready = λ e. absurd (cc (e));
    }

-- the slab after an item is written at the first free place
pub record Taken (n : Slab StoredItem) (at : ℕ) (q : StoredItem) : Type 0 where
  pub some : IsSome (get n at)
  pub updates : Updates n (with_value n at q) at (Some q)
  pub was : get_or (live_nodes n.slots) at None ≡ None
  pub allocated : slab_len (with_value n at q) ≡ slab_len n
  pub len : count_by is_some (live_nodes (with_value n at q).slots) ≡ count_by is_some (live_nodes n.slots) + 1

pub taken : (n : Slab StoredItem) (free_head : Option ℕ) (at : ℕ) (q : StoredItem) → First n free_head at → is_free q.header ≡ false → Taken n at q
taken n free_head at q f live =
    let O : Option StoredItem → Type 0 = λ o. IsSome o in
    let some = subst O (sym f.is) refl in
    record {
      some = some;
      updates = Updates-with_value n at q some;
      was = get-live n.slots at ∙ (ap live_node f.is ∙ live-none f.stored f.free);
      allocated = len-written n at q some;
      len = len-insert n at f.stored q f.is f.free live;
    }

-- what an insertion shows
pub record Inserted (n m : Slab StoredItem) (spare after : Bool) (first_item_bound end : ℕ) (free_head : Option ℕ) (len at : ℕ) (q : StoredItem) : Type 0 where
  pub was : get_or (live_nodes n.slots) at None ≡ None
  pub updates : Updates n m at (Some q)
  pub more : count_by is_some (live_nodes m.slots) ≡ count_by is_some (live_nodes n.slots) + 1
  pub capacity : (items_view m after).capacity ≡ (items_view n spare).capacity
  pub fits : at < 2 ^ 30 - 1
  pub invariant : (lower : ℕ) → lower ≤ first_item_bound → lower ≤ at → ItemsInvariant m after lower end free_head (len + 1)

-- below a bound that is not above the written place, there is still no node
still-below : (n m : Slab StoredItem) (at first_item_bound lower : ℕ) (o : Option StoredItem) → Updates n m at o → ((k : ℕ) → k < first_item_bound → live_node (get n k) ≡ None) → lower ≤ first_item_bound → lower ≤ at → (k : ℕ) → k < lower → live_node (get m k) ≡ None
still-below n m at first_item_bound lower o u below less most k h =
    elim (cases_eq k at) [
      | inl same ↦ absurd (omega (arith, same, h, most))
      | inr other ↦ ap live_node (u.others k other) ∙ below k (omega (arith, h, less))
    ]

-- an item is written to the first free place
pub insert-free : (n : Slab StoredItem) (at : ℕ) (q : StoredItem) (spare : Bool) (first_item_bound end : ℕ) (free_head : Option ℕ) (len : ℕ) (f : First n free_head at) → free_head ≡ Some at → is_free q.header ≡ false
    → ItemsInvariant n spare first_item_bound end free_head len → Inserted n (with_value n at q) spare spare first_item_bound end (next_in f.stored.header) len at q
insert-free n at q spare first_item_bound end free_head len f head live a =
    let t = taken n free_head at q f live in
    record {
      was = t.was;
      updates = t.updates;
      more = t.len;
      capacity = ap (λ k. k + (if spare then 1 else 0)) t.allocated;
      fits = omega (arith, a.within at t.some, a.few);
      invariant = λ lower less most. record {
        within = write-keeps_bound n (with_value n at q) at end (Some q) t.updates (a.within at t.some) a.within;
        few = a.few;
        below = still-below n (with_value n at q) at first_item_bound lower (Some q) t.updates a.below less most;
        counted = t.len ∙ ap (λ k. k + 1) a.counted;
        free_list = insert-free_list n (with_value n at q) free_head at len f.stored q a.free_list head f.is t.updates live t.allocated;
        ready = still-ready n at q spare t.some a.ready;
      };
    }

-- an item is written to the spare place
pub insert-spare : (n m : Slab StoredItem) (at : ℕ) (q : StoredItem) (spare : Bool) (first_item_bound end wider : ℕ) (free_head : Option ℕ) (len : ℕ) → spare ≡ true → get n at ≡ None → at < 2 ^ 30 - 1 → at < wider → end ≤ wider → wider < 2 ^ 30
    → Updates n m at (Some q) → slab_len m ≡ slab_len n + 1 → is_free q.header ≡ false → ItemsInvariant n spare first_item_bound end free_head len → Inserted n m spare false first_item_bound wider free_head len at q
insert-spare n m at q spare first_item_bound end wider free_head len is none fits here more few u longer live a =
    let one = len-new n m at q none u live in
    let S : Bool → Type 0 = λ b. slab_len m + 0 ≡ slab_len n + (if b then 1 else 0) in
    record {
      was = get-live n.slots at ∙ ap live_node none;
      updates = u;
      more = one;
      capacity = subst S (sym is) (omega (arith, longer));
      fits = fits;
      invariant = λ lower less most. record {
        within = write-keeps_bound n m at wider (Some q) u here (λ k some. omega (arith, a.within k some, more));
        few = few;
        below = still-below n m at first_item_bound lower (Some q) u a.below less most;
        counted = one ∙ ap (λ k. k + 1) a.counted;
        free_list = keep-free_list n m free_head at len (len + 1) q a.free_list (ap free_in none) u (omega (arith, longer));
        ready = λ e. absurd (cc (e));
      };
    }

-- the slab after the place of an item becomes free
pub record Freed (n : Slab StoredItem) (at : ℕ) (q : StoredItem) : Type 0 where
  pub some : IsSome (get n at)
  pub updates : Updates n (with_value n at q) at (Some q)
  pub now : get_or (live_nodes (with_value n at q).slots) at None ≡ None
  pub allocated : slab_len (with_value n at q) ≡ slab_len n
  pub len : count_by is_some (live_nodes (with_value n at q).slots) + 1 ≡ count_by is_some (live_nodes n.slots)

pub freed : (n : Slab StoredItem) (at : ℕ) (q : StoredItem) → IsSome (get_or (live_nodes n.slots) at None) → is_free q.header ≡ true → Freed n at q
freed n at q h free =
    let l = live-at n at h in
    let some = has-place n at h in
    let u = Updates-with_value n at q some in
    record {
      some = some;
      updates = u;
      now = (updates-live n (with_value n at q) at (Some q) u).0 ∙ live-none q free;
      allocated = len-written n at q some;
      len = len-remove n at l.0 q l.1.0 l.1.1 free;
    }

pub remove-invariant : (n : Slab StoredItem) (at : ℕ) (q : StoredItem) (spare : Bool) (first_item_bound higher end : ℕ) (free_head : Option ℕ) (len left : ℕ) → IsSome (get_or (live_nodes n.slots) at None) → is_free q.header ≡ true → next_in q.header ≡ free_head → left + 1 ≡ len
    → HasNoItemBetween first_item_bound higher (with_value n at q) → ItemsInvariant n spare first_item_bound end free_head len → ItemsInvariant (with_value n at q) spare higher end (Some at) left
remove-invariant n at q spare first_item_bound higher end free_head len left h free next less passed a =
    let g = freed n at q h free in
    record {
      within = write-keeps_bound n (with_value n at q) at end (Some q) g.updates (a.within at g.some) a.within;
      few = a.few;
      below = λ k lower. elim (cases_lt k first_item_bound) [
        | inl under ↦ elim (cases_eq k at) [
          | inl same ↦ ap (λ j. live_node (get (with_value n at q) j)) same ∙ (ap live_node g.updates.changed ∙ live-none q free)
          | inr other ↦ ap live_node (g.updates.others k other) ∙ a.below k under
        ]
        | inr above ↦ passed k above lower
      ];
      counted = omega (arith, g.len, a.counted, less);
      free_list = remove-free_list n (with_value n at q) free_head at len left q a.free_list (not-free_at n at h) g.updates free next (omega (arith, g.allocated, less));
      ready = still-ready n at q spare g.some a.ready;
    }

-- an item changes, and its place stays
pub replace-invariant : (n : Slab StoredItem) (at : ℕ) (q : StoredItem) (spare : Bool) (first_item_bound end : ℕ) (free_head : Option ℕ) (len : ℕ) → IsSome (get_or (live_nodes n.slots) at None) → is_free q.header ≡ false
    → ItemsInvariant n spare first_item_bound end free_head len → ItemsInvariant (with_value n at q) spare first_item_bound end free_head len
replace-invariant n at q spare first_item_bound end free_head len h live a =
    let l = live-at n at h in
    let some = has-place n at h in
    let u = Updates-with_value n at q some in
    let O : Option ListNode → Type 0 = λ o. IsSome o in
    record {
      within = write-keeps_bound n (with_value n at q) at end (Some q) u (a.within at some) a.within;
      few = a.few;
      below = λ k lower. elim (cases_eq k at) [
        | inl same ↦
            let none : get_or (live_nodes n.slots) at None ≡ None = get-live n.slots at ∙ (ap (λ j. live_node (get n j)) (sym same) ∙ a.below k lower) in
            absurd (cc (none, h))
        | inr other ↦ ap live_node (u.others k other) ∙ a.below k lower
      ];
      counted = len-replace n at l.0 q l.1.0 l.1.1 live ∙ a.counted;
      free_list = keep-free_list n (with_value n at q) free_head at len len q a.free_list (not-free_at n at h) u (omega (arith, len-written n at q some));
      ready = still-ready n at q spare some a.ready;
    }

-- the nodes after an item is replaced
pub with_value-live : (n : Slab StoredItem) (k : ℕ) (q : StoredItem) → is_free q.header ≡ false → live_nodes (with_value n k q).slots ≡ set (live_nodes n.slots) k (Some (stored_node q))
with_value-live n k q live = map-set n.slots k (Some q) ∙ ap (λ (o : Option ListNode). set (live_nodes n.slots) k o) (live-some q live)
  where
    live-some : (s : StoredItem) → is_free s.header ≡ false → live_node (Some s) ≡ Some (stored_node s)
    live-some s e = ap {B = Option ListNode} (λ (b : Bool). if b then None else Some (stored_node s)) e

-- ---- the first item from a place on
item-by : (o : Option StoredItem) (m : ListNode) → live_node o ≡ Some m → IsSome m.item
item-by None m e = absurd (cc)
item-by (Some s) m e = shown (is_free s.header) e
  where
    shown : (b : Bool) → (if b then None else Some (stored_node s)) ≡ Some m → IsSome m.item
    shown true e = absurd (cc)
    shown false e = let same : stored_node s ≡ m = cc in let P : ListNode → Type 0 = λ z. IsSome z.item in subst P same refl

-- every node of the items is an item
pub node-has_item : (n : Slab StoredItem) (k : ℕ) (m : ListNode) → get_or (live_nodes n.slots) k None ≡ Some m → IsSome m.item
node-has_item n k m e = item-by (get n k) m (sym (get-live n.slots k) ∙ e)

some-node : (o : Option ListNode) → is_some o ≡ true → (m : ListNode) × (o ≡ Some m)
some-node None e = absurd (cc)
some-node (Some m) e = (m, refl)

-- no items from a place up to the first with an item, or to the end
pub least-item : (n : Slab StoredItem) (s : Slab ListNode) (start at : ℕ) → live_nodes n.slots ≡ s.slots → ((k : ℕ) → start ≤ k → k < at → live_node (get n k) ≡ None) → start ≤ at → is_some (live_node (get n at)) ≡ true → IsLeastItemIn start at s
least-item n s start at is seen h marked =
    let m = some-node (live_node (get n at)) marked in
    let there : get_or (live_nodes n.slots) at None ≡ Some m.0 = get-live n.slots at ∙ m.1 in
    let G : List (Option ListNode) → Type 0 = λ zs. get_or zs at None ≡ Some m.0 in
    record {
      has = record { node = m.0; is = subst G is there; has = node-has_item n at m.0 there };
      from = h;
      least = λ other has after.
          let here : live_node (get n other) ≡ Some has.node = sym (get-live n.slots other) ∙ (ap (λ (zs : List (Option ListNode)). get_or zs other None) is ∙ has.is) in
          elim (cases_lt other at) [ inl before ↦ absurd (cc (here, seen other after before)) | inr there ↦ there ];
    }

pub no-item_left : (n : Slab StoredItem) (s : Slab ListNode) (start at end : ℕ) → live_nodes n.slots ≡ s.slots → ((k : ℕ) → start ≤ k → k < at → live_node (get n k) ≡ None) → end ≤ at → ((k : ℕ) → IsSome (get n k) → k < end) → (other : ℕ) → HasItemIn s other → other < start
no-item_left n s start at end is seen h within other has =
    let O : Option ListNode → Type 0 = λ o. IsSome o in
    let shown : get_or (live_nodes n.slots) other None ≡ Some has.node = ap (λ (zs : List (Option ListNode)). get_or zs other None) is ∙ has.is in
    let here : live_node (get n other) ≡ Some has.node = sym (get-live n.slots other) ∙ shown in
    elim (cases_lt other start) [
      | inl before ↦ before
      | inr after ↦ elim (cases_lt other at) [
        | inl inside ↦ absurd (cc (here, seen other after inside))
        | inr past ↦ absurd (omega (arith, past, h, within other (has-place n other (subst O (sym shown) refl))))
      ]
    ]
