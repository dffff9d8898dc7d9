-- Laws of the nodes of a list: dummies at even places, items at odd ones.
use Rattle.std.proofs.Common.{◌≡◌, ◌≢◌, ℕ, zero, suc, ◌+◌, ◌*◌, ◌/◌, ◌%◌, ◌<◌, inl, inr, List, [], ◌∷◌, ◌++◌, length, map, get_or, set, count_by, is_some, Option, Some, None, IsSome, option_map, OnOk, Result, Ok, Err, cond, refl, sym, ◌∙◌, ap, subst, arith}
use Rattle.std.proofs.lemmas.Bool.{cases_eq}
use Rattle.std.proofs.lemmas.List.Sums.{sum_by-cons}
use Rattle.slab.specs.Slab.{Slab, get, slab_len, HasRoomFor, Updates}
use Rattle.ets_term.specs.declared.term.Term.{Term}
use Rattle.node_list.specs.declared.node.ListNode.{ListNode}
use Rattle.node_list.specs.declared.packed.PackedHeader.{PackedHeader}
use Rattle.node_list.specs.inside.PackedHeader.{next_in}
use Rattle.node_list.specs.inside.Lent.{node_with, nodes_with}
use Rattle.node_list.specs.inside.Slots.{IsNextItemIn}
use Rattle.node_list.specs.inside.Woven.{dummy_node, stored_dummy, weave, woven}
use Rattle.node_list.proofs.WeaveLaws.{get-even, get-odd, get-by_even, get-by_odd, count-weave, set-even, set-odd, woven-updates}

-- ---- the dummies
pub count-dummies : (ps : List PackedHeader) → count_by is_some (map stored_dummy ps) ≡ length ps
count-dummies [] = refl
count-dummies (p ∷ ps) = omega (arith, sum_by-cons (λ z. cond (is_some z) 1 0) (stored_dummy p) (map stored_dummy ps), count-dummies ps)

dummy-past : (ps : List PackedHeader) → get_or (map stored_dummy ps) (length ps) None ≡ None
dummy-past [] = refl
dummy-past (p ∷ ps) = dummy-past ps

dummy-pushed : (ps : List PackedHeader) (q : PackedHeader) → get_or (map stored_dummy (ps ++ q ∷ [])) (length ps) None ≡ stored_dummy q
dummy-pushed [] q = refl
dummy-pushed (p ∷ ps) q = dummy-pushed ps q

dummy-other : (ps : List PackedHeader) (q : PackedHeader) (k : ℕ) → k ≢ length ps → get_or (map stored_dummy (ps ++ q ∷ [])) k None ≡ get_or (map stored_dummy ps) k None
dummy-other [] q zero other = absurd (other refl)
dummy-other [] q (suc k) other = refl
dummy-other (p ∷ ps) q zero other = refl
dummy-other (p ∷ ps) q (suc k) other = dummy-other ps q k (λ same. other (ap suc same))

length-pushed : (ps : List PackedHeader) (q : PackedHeader) → length (ps ++ q ∷ []) ≡ length ps + 1
length-pushed [] q = refl
length-pushed (p ∷ ps) q = omega (arith, length-pushed ps q)

-- the header of a dummy
pub record DummyAt (ps : List PackedHeader) (k : ℕ) (node : ListNode) : Type 0 where
  pub header : PackedHeader
  pub is : (default : PackedHeader) → get_or ps k default ≡ header
  pub within : k < length ps
  pub shows : node ≡ dummy_node header.reversed (next_in header)

pub dummy-at : (ps : List PackedHeader) (k : ℕ) (node : ListNode) → get_or (map stored_dummy ps) k None ≡ Some node → DummyAt ps k node
dummy-at [] k node e = absurd (cc)
dummy-at (p ∷ ps) zero node e = record { header = p; is = λ d. refl; within = omega arith; shows = let is : node ≡ dummy_node p.reversed (next_in p) = cc in is }
dummy-at (p ∷ ps) (suc k) node e =
    let d = dummy-at ps k node e in
    record { header = d.header; is = d.is; within = omega (arith, d.within); shows = d.shows }

-- ---- the nodes of both
pub len-woven : (ps : List PackedHeader) (items : Slab ListNode) → slab_len (woven ps items) ≡ length ps + slab_len items
len-woven ps items = count-weave (map stored_dummy ps) items.slots ∙ ap (λ n. n + slab_len items) (count-dummies ps)

pub room-woven : (ps : List PackedHeader) (items : Slab ListNode) (more : ℕ) → HasRoomFor (woven ps items) more → HasRoomFor items more
room-woven ps items more h = omega (arith, h, len-woven ps items)

pub room-in_woven : (ps : List PackedHeader) (items : Slab ListNode) (more : ℕ) → HasRoomFor items more → HasRoomFor (woven ps items) more
room-in_woven ps items more h = omega (arith, h, len-woven ps items)

-- a new dummy
pub record Pushed (ps : List PackedHeader) (items : Slab ListNode) (q : PackedHeader) : Type 0 where
  pub was : get (woven ps items) (2 * length ps) ≡ None
  pub updates : Updates (woven ps items) (woven (ps ++ q ∷ []) items) (2 * length ps) (Some (dummy_node q.reversed (next_in q)))
  pub len : slab_len (woven (ps ++ q ∷ []) items) ≡ slab_len (woven ps items) + 1
  pub capacity : (woven (ps ++ q ∷ []) items).capacity ≡ (woven ps items).capacity + 1

pub pushed : (ps : List PackedHeader) (items : Slab ListNode) (q : PackedHeader) → Pushed ps items q
pushed ps items q =
    let xs = map stored_dummy ps in
    let zs = map stored_dummy (ps ++ q ∷ []) in
    record {
      was = get-even xs items.slots (length ps) ∙ dummy-past ps;
      updates = record {
        changed = get-even zs items.slots (length ps) ∙ dummy-pushed ps q;
        others = λ j other. elim (cases_eq (j % 2) 0) [
          | inl is ↦
              let apart : j / 2 ≢ length ps = λ same. other (omega (arith, is, same)) in
              get-by_even zs items.slots j is ∙ (dummy-other ps q (j / 2) apart ∙ sym (get-by_even xs items.slots j is))
          | inr is ↦ get-by_odd zs items.slots j (omega (arith, is)) ∙ sym (get-by_odd xs items.slots j (omega (arith, is)))
        ];
      };
      len = omega (arith, len-woven (ps ++ q ∷ []) items, len-woven ps items, length-pushed ps q);
      capacity = omega (arith, length-pushed ps q);
    }

no-slots : (ps : List PackedHeader) (ys : List (Option ListNode)) → weave (map stored_dummy ps) ys ≡ [] → length ps ≡ 0
unfolding weave
no-slots [] ys e = refl
no-slots (p ∷ ps) [] e = absurd (omega (arith, ap (λ (zs : List (Option ListNode)). length zs) e))
no-slots (p ∷ ps) (y ∷ ys) e = absurd (omega (arith, ap (λ (zs : List (Option ListNode)). length zs) e))

pub first-dummy : (ps : List PackedHeader) (items : Slab ListNode) → (woven ps items).slots ≡ [] → 2 * length ps ≡ 0
first-dummy ps items e = omega (arith, no-slots ps items.slots e)

-- an item is at an odd place
pub record ItemAt (items : Slab ListNode) (at : ℕ) (node : ListNode) : Type 0 where
  pub odd : at ≡ 2 * (at / 2) + 1
  pub is : get items (at / 2) ≡ Some node

some-item : (node : ListNode) (n : ℕ) (o : Option ℕ) → node ≡ dummy_node n o → IsSome node.item → ⊥
some-item node n o e h = let P : ListNode → Type 0 = λ z. IsSome z.item in let k : IsSome (dummy_node n o).item = subst P e h in absurd (cc (k))

pub item-at : (ps : List PackedHeader) (items : Slab ListNode) (at : ℕ) (node : ListNode) → get (woven ps items) at ≡ Some node → IsSome node.item → ItemAt items at node
item-at ps items at node e h =
    let xs = map stored_dummy ps in
    elim (cases_eq (at % 2) 0) [
      | inl even ↦
          let d = dummy-at ps (at / 2) node (sym (get-by_even xs items.slots at even) ∙ e) in
          absurd (some-item node d.header.reversed (next_in d.header) d.shows h)
      | inr odd ↦
          let one : at % 2 ≡ 1 = omega (arith, odd) in
          record { odd = omega (arith, odd); is = sym (get-by_odd xs items.slots at one) ∙ e }
    ]

-- what a place of each kind shows
pub at-odd : (ps : List PackedHeader) (items : Slab ListNode) (at : ℕ) → at % 2 ≡ 1 → get (woven ps items) at ≡ get items (at / 2)
at-odd ps items at h = get-by_odd (map stored_dummy ps) items.slots at h

pub at-even : (ps : List PackedHeader) (items : Slab ListNode) (at : ℕ) → at % 2 ≡ 0 → get (woven ps items) at ≡ get_or (map stored_dummy ps) (at / 2) None
at-even ps items at h = get-by_even (map stored_dummy ps) items.slots at h

some-node : (o : Option ListNode) → IsSome o → (node : ListNode) × (o ≡ Some node)
some-node None h = absurd (cc)
some-node (Some node) h = (node, refl)

-- the dummy at an even place
pub dummy-of : (ps : List PackedHeader) (items : Slab ListNode) (at : ℕ) → at % 2 ≡ 0 → IsSome (get (woven ps items) at) → (node : ListNode) × ((get (woven ps items) at ≡ Some node) × DummyAt ps (at / 2) node)
dummy-of ps items at even h =
    let n = some-node (get (woven ps items) at) h in
    (n.0, (n.1, dummy-at ps (at / 2) n.0 (sym (at-even ps items at even) ∙ n.1)))

-- the slab after a removal of an item
pub removed : (ps : List PackedHeader) (old new : Slab ListNode) (at : ℕ) (o : Option ListNode) → at ≡ 2 * (at / 2) + 1 → Updates old new (at / 2) o → Updates (woven ps old) (woven ps new) at o
removed ps old new at o odd u =
    let P : ℕ → Type 0 = λ k. Updates (woven ps old) (woven ps new) k o in
    subst P (sym odd) (woven-updates ps old new (at / 2) o u)

-- ---- a change of a node
within-items : (xs : List (Option ListNode)) (k : ℕ) (node : ListNode) → get_or xs k None ≡ Some node → k < length xs
within-items [] k node e = absurd (cc)
within-items (x ∷ xs) zero node e = omega arith
within-items (x ∷ xs) (suc k) node e = omega (arith, within-items xs k node e)

pub set-item : (ps : List PackedHeader) (items : Slab ListNode) (at : ℕ) (node : ListNode) (o : Option ListNode) → at ≡ 2 * (at / 2) + 1 → get items (at / 2) ≡ Some node → set (woven ps items).slots at o ≡ weave (map stored_dummy ps) (set items.slots (at / 2) o)
set-item ps items at node o odd e =
    ap (λ k. set (woven ps items).slots k o) odd ∙ set-odd (map stored_dummy ps) items.slots (at / 2) o (within-items items.slots (at / 2) node e)

map-set : (ps : List PackedHeader) (k : ℕ) (q : PackedHeader) → map stored_dummy (set ps k q) ≡ set (map stored_dummy ps) k (stored_dummy q)
map-set [] k q = refl
map-set (p ∷ ps) zero q = refl
map-set (p ∷ ps) (suc k) q = ap (λ (zs : List (Option ListNode)). stored_dummy p ∷ zs) (map-set ps k q)

pub length-set_dummy : (ps : List PackedHeader) (k : ℕ) (q : PackedHeader) → length (set ps k q) ≡ length ps
length-set_dummy [] k q = refl
length-set_dummy (p ∷ ps) zero q = refl
length-set_dummy (p ∷ ps) (suc k) q = ap suc (length-set_dummy ps k q)

length-dummies : (ps : List PackedHeader) → length (map stored_dummy ps) ≡ length ps
length-dummies [] = refl
length-dummies (p ∷ ps) = ap suc (length-dummies ps)

pub set-dummy : (ps : List PackedHeader) (items : Slab ListNode) (at : ℕ) (q : PackedHeader) → at % 2 ≡ 0 → at / 2 < length ps → (woven (set ps (at / 2) q) items).slots ≡ set (woven ps items).slots at (stored_dummy q)
set-dummy ps items at q even h =
    let is : at ≡ 2 * (at / 2) = omega (arith, even) in
    ap (λ (zs : List (Option ListNode)). weave zs items.slots) (map-set ps (at / 2) q)
    ∙ (sym (set-even (map stored_dummy ps) items.slots (at / 2) (stored_dummy q) (omega (arith, h, length-dummies ps))) ∙ ap (λ k. set (woven ps items).slots k (stored_dummy q)) (sym is))

-- ---- the first item from a place on
pub next-item : (ps : List PackedHeader) (items : Slab ListNode) (start : ℕ) (found : Option ℕ) → IsNextItemIn (start / 2) found items → IsNextItemIn start (option_map (λ k. 2 * k + 1) found) (woven ps items)
next-item ps items start None h = λ other has.
    let i = item-at ps items other has.node has.is has.has in
    omega (arith, h (other / 2) (record { node = has.node; is = i.is; has = has.has }), i.odd)
next-item ps items start (Some k) h =
    record {
      has = record { node = h.has.node; is = get-odd (map stored_dummy ps) items.slots k ∙ h.has.is; has = h.has.has };
      from = omega (arith, h.from);
      least = λ other has after.
          let i = item-at ps items other has.node has.is has.has in
          omega (arith, h.least (other / 2) (record { node = has.node; is = i.is; has = has.has }) (omega (arith, after)), i.odd);
    }

-- ---- the chain of an item, when its borrow ends
pub lent : (ps : List PackedHeader) (items : Slab ListNode) (at : ℕ) (w : List Term) (node : ListNode) → ItemAt items at node → woven ps (nodes_with (at / 2) w items) ≡ nodes_with at w (woven ps items)
lent ps items at w node i =
    let new : Option ListNode = option_map (λ (m : ListNode). node_with m w) (get items (at / 2)) in
    let same : get (woven ps items) at ≡ get items (at / 2) = at-odd ps items at (omega (arith, i.odd)) in
    ap (λ (zs : List (Option ListNode)). let z : Slab ListNode = record { slots = zs; vacant_key = items.vacant_key; capacity = length ps + items.capacity } in z)
    (sym (set-item ps items at node new i.odd i.is) ∙ ap (λ (o : Option ListNode). set (woven ps items).slots at (option_map (λ (m : ListNode). node_with m w) o)) (sym same))

-- a result that is fine
pub on-ok : {T E A B : Type 0} (r : Result T E) → (A → B) → OnOk r A → OnOk r B
on-ok (Ok x) f h = f h
on-ok (Err x) f h = tt
