-- A purge of the tombstones of one hash.
use Rattle.std.proofs.Common.{◌≡◌, ◌≢◌, ℕ, ◌<◌, ◌≤◌, ◌-◌, ◌%◌, ◌^◌, length, inl, inr, List, [], ◌∷◌, ◌++◌, Option, Some, None, refl, sym, ◌∙◌, ap, subst, arith}
use Rattle.std.proofs.lemmas.Bool.{cases_eq}
use Rattle.ets_term.specs.declared.term.Term.{Term}
use Rattle.split_key.specs.Keys.{key_of_item, key_of_dummy}
use Rattle.node_list.specs.declared.node.Item.{Item}
use Rattle.node_list.specs.Cells.{Cell, Sorted, StartsFrom}
use Rattle.node_list.specs.Places.{from, cells_after, all_but_first, first_place, first_split_key, split_key_at, place_after, HasDistinctPlaces, IsPlaceOf}
use Rattle.node_list.proofs.CellLaws.{from-here, from-on, at-most-from, sorted-from}
use Rattle.bucket_table.specs.declared.split.sweep.SweepMode.TheVariants.{RemoveTombstones}
use Rattle.bucket_table.specs.Slots.{Slot, without_tombstones}
use Rattle.bucket_table.specs.inside.Nodes.{slots_of, with_slot}
use Rattle.bucket_table.specs.inside.Directory.{HaveSplitKeys, IsStartOf}
use Rattle.bucket_table.specs.inside.TombstoneLog.{TombstonesAreAmong}
use Rattle.bucket_table.specs.inside.Sweeps.{up_to, slots_after_sweep}
use Rattle.bucket_table.proofs.list.Passed.{placed-from}
use Rattle.bucket_table.proofs.directory.SplitKeys.{item-of}
use Rattle.bucket_table.proofs.list.Content.{placed-key}
use Rattle.bucket_table.proofs.sweep.Sweep.{to-here, to-on, slots-append, neighbour}
use Rattle.bucket_table.proofs.sweep.Log.{AreNone, none-append, none-first, none-purged, among-append, among-first, among-second, among-purged, among-others, without_tombstones-parts}

cells-parts : (at : ℕ) (cs : List Cell) (d : Cell) (ds : List Cell) → from at cs ≡ d ∷ ds → cs ≡ up_to at cs ++ ds
cells-parts at [] d ds e = absurd (cc)
cells-parts at (c ∷ cs) d ds e =
    elim (cases_eq c.at at) [
      | inl here ↦ (let later : cs ≡ ds = cc (sym (from-here at c cs here) ∙ e) in ap (λ (zs : List Cell). c ∷ zs) later ∙ ap (λ (zs : List Cell). zs ++ ds) (sym (to-here at c cs here)))
      | inr other ↦ ap (λ (zs : List Cell). c ∷ zs) (cells-parts at cs d ds (sym (from-on at c cs other) ∙ e)) ∙ ap (λ (zs : List Cell). zs ++ ds) (sym (to-on at c cs other))
    ]

-- The slots up to a place and those after it are all slots.
pub slots-parts : (at : ℕ) (cs : List Cell) → IsPlaceOf at cs → slots_of cs ≡ slots_of (up_to at cs) ++ slots_of (cells_after at cs)
slots-parts at cs s =
    ap slots_of (cells-parts at cs s.cell s.later s.is)
    ∙ (slots-append (up_to at cs) s.later ∙ ap (λ (zs : List Cell). slots_of (up_to at cs) ++ slots_of (all_but_first zs)) (sym s.is))

pub among-rest : (hash_of : Term → ℕ) (hs : List ℕ) (cs : List Cell) → TombstonesAreAmong hash_of hs (slots_of cs) → TombstonesAreAmong hash_of hs (slots_of (all_but_first cs))
among-rest hash_of hs [] a = tt
among-rest hash_of hs (c ∷ cs) a = go c.item a
  where
    go : (o : Option Item) → TombstonesAreAmong hash_of hs (with_slot o (slots_of cs)) → TombstonesAreAmong hash_of hs (slots_of cs)
    go None a = a
    go (Some item) a = a.1

module _ (hash_of : Term → ℕ) (directory : List (Option ℕ)) (key hash : ℕ) (is : key ≡ key_of_item hash) where
  none-slot : (c : Cell) (ss : List Slot) (o : Option Item) → c.item ≡ o → ((item : Item) → c.item ≡ Some item → hash_of item.term ≢ hash) → AreNone hash_of hash ss → AreNone hash_of hash (with_slot o ss)
  none-slot c ss None e n a = a
  none-slot c ss (Some item) e n a = ((λ _. n item e), a)

  none-at : (c : Cell) (cs ds : List Cell) → HaveSplitKeys hash_of directory (c ∷ cs) → c.split_key ≢ key → AreNone hash_of hash (slots_of ds) → AreNone hash_of hash (slots_of (c ∷ ds))
  none-at c cs ds p n a =
      none-slot c (slots_of ds) c.item refl (λ item has e. n (placed-key hash_of directory c.at c.split_key c.item item has p.0 ∙ (ap key_of_item e ∙ sym is))) a

  pub none-beyond : (bound : ℕ) (cs : List Cell) → key < bound → StartsFrom bound cs → Sorted cs → HaveSplitKeys hash_of directory cs → AreNone hash_of hash (slots_of cs)
  none-beyond bound [] h s o p = tt
  none-beyond bound (c ∷ cs) h s o p =
      let past : key < c.split_key = omega (arith, h, s) in
      let differs : c.split_key ≢ key = λ e. (let f : c.split_key ≡ key = e in absurd (omega arith)) in
      none-at c cs cs p differs (none-beyond c.split_key cs past o.0 o.1 p.1)

  pub none-up-to : (start : ℕ) (cs : List Cell) (d : Cell) (ds : List Cell) → Sorted cs → HaveSplitKeys hash_of directory cs → from start cs ≡ d ∷ ds → d.split_key < key → AreNone hash_of hash (slots_of (up_to start cs))
  none-up-to start [] d ds o p e h = tt
  none-up-to start (c ∷ cs) d ds o p e h =
      let P : List Cell → Type 0 = λ zs. AreNone hash_of hash (slots_of zs) in
      elim (cases_eq c.at start) [
        | inl here ↦
            let first : c ≡ d = cc (sym (from-here start c cs here) ∙ e) in
            let low : c.split_key ≡ d.split_key = ap (λ (z : Cell). z.split_key) first in
            let differs : c.split_key ≢ key = λ e. (let f : c.split_key ≡ key = e in absurd (omega arith)) in
            subst P (sym (to-here start c cs here)) (none-at c cs [] p differs tt)
        | inr other ↦
            let later : from start cs ≡ d ∷ ds = sym (from-on start c cs other) ∙ e in
            let low : c.split_key ≤ d.split_key = at-most-from start c.split_key cs d ds o.0 o.1 later in
            let differs : c.split_key ≢ key = λ e. (let f : c.split_key ≡ key = e in absurd (omega arith)) in
            subst P (sym (to-on start c cs other)) (none-at c cs (up_to start cs) p differs (none-up-to start cs d ds o.1 p.1 later h))
      ]

  module _ (start last : ℕ) (old new : List Cell) (first : Cell) (later : List Cell) (is_start : from start old ≡ first ∷ later) (below : first.split_key < key) (o : Sorted old) (p : HaveSplitKeys hash_of directory old)
      (s : IsPlaceOf last new) (same_end : slots_after_sweep RemoveTombstones last new ≡ slots_after_sweep RemoveTombstones start old) where
    old-parts : slots_of old ≡ slots_of (up_to start old) ++ slots_of (cells_after start old)
    old-parts = slots-parts start old (record { cell = first; later = later; is = is_start })

    new-parts : slots_of new ≡ slots_of (up_to last new) ++ slots_of (cells_after last new)
    new-parts = slots-parts last new s

    pub run-purged : without_tombstones (slots_of new) ≡ without_tombstones (slots_of old)
    run-purged =
        ap without_tombstones new-parts
        ∙ (sym (without_tombstones-parts (slots_of (up_to last new)) (slots_of (cells_after last new)))
        ∙ (ap without_tombstones same_end
        ∙ (without_tombstones-parts (slots_of (up_to start old)) (slots_of (cells_after start old)) ∙ ap without_tombstones (sym old-parts))))

    pub run-gone : AreNone hash_of hash (slots_of (cells_after last new)) → ((hs : List ℕ) → TombstonesAreAmong hash_of hs (slots_of (cells_after start old)) → TombstonesAreAmong hash_of hs (slots_of (cells_after last new)))
        → (hs : List ℕ) → TombstonesAreAmong hash_of (hash ∷ hs) (slots_of old) → TombstonesAreAmong hash_of hs (slots_of new)
    run-gone none rest hs a =
        let front = slots_of (up_to start old) in
        let back = slots_of (cells_after start old) in
        let front' = slots_of (up_to last new) in
        let back' = slots_of (cells_after last new) in
        let A : List Slot → Type 0 = λ ss. TombstonesAreAmong hash_of (hash ∷ hs) ss in
        let N : List Slot → Type 0 = λ ss. AreNone hash_of hash ss in
        let both : TombstonesAreAmong hash_of (hash ∷ hs) (front ++ back) = subst A old-parts a in
        let walked : TombstonesAreAmong hash_of (hash ∷ hs) (front' ++ without_tombstones back') =
        subst A (sym same_end) (among-append hash_of (hash ∷ hs) front (without_tombstones back) (among-first hash_of (hash ∷ hs) front back both) (among-purged hash_of (hash ∷ hs) back)) in
        let empty : AreNone hash_of hash (front' ++ without_tombstones back') =
        subst N (sym same_end) (none-append hash_of hash front (without_tombstones back) (none-up-to start old first later o p is_start below) (none-purged hash_of hash back)) in
        let all : TombstonesAreAmong hash_of (hash ∷ hs) (front' ++ back') =
        among-append hash_of (hash ∷ hs) front' back' (among-first hash_of (hash ∷ hs) front' (without_tombstones back') walked) (rest (hash ∷ hs) (among-second hash_of (hash ∷ hs) front back both)) in
        let gone : AreNone hash_of hash (front' ++ back') = none-append hash_of hash front' back' (none-first hash_of hash front' (without_tombstones back') empty) none in
        let H : List Slot → Type 0 = λ ss. TombstonesAreAmong hash_of hs ss in
        subst H (sym new-parts) (among-others hash_of hash hs (front' ++ back') gone all)

-- ---- the start and the end

pub start-below : (directory : List (Option ℕ)) (j hash start : ℕ) → length directory ≡ 2 ^ j → j ≤ 20 → (s : IsStartOf directory (hash % length directory) start) → key_of_dummy s.nearest < key_of_item hash
start-below directory j hash start size few s =
    let i = item-of j (32 - j) hash (hash % length directory) (omega arith) (ap (λ (n : ℕ). hash % n) size) in
    let low : key_of_dummy (hash % length directory) < key_of_item hash = i.low in
    let before : key_of_dummy s.nearest ≤ key_of_dummy (hash % length directory) = s.before in
    omega arith

pub next-there : (at next : ℕ) (cs : List Cell) → HasDistinctPlaces cs → IsPlaceOf at cs → place_after at cs ≡ Some next → IsPlaceOf next cs
next-there at next cs a s e = let n = neighbour at next cs a s e in let P : ℕ → Type 0 = λ z. IsPlaceOf z cs in subst P n.place (record { cell = n.other; later = n.later; is = n.pair.next })

some-number : (a b : ℕ) (o : Option ℕ) → o ≡ Some a → o ≡ Some b → a ≡ b
some-number a b o e f = cc

pub beyond-next : (hash_of : Term → ℕ) (directory : List (Option ℕ)) (key hash : ℕ) → key ≡ key_of_item hash → (at next k : ℕ) (cs : List Cell) → HasDistinctPlaces cs → Sorted cs → HaveSplitKeys hash_of directory cs → IsPlaceOf at cs → place_after at cs ≡ Some next → split_key_at next cs ≡ Some k → key < k
    → AreNone hash_of hash (slots_of (cells_after at cs))
beyond-next hash_of directory key hash is at next k cs a o p s e h less =
    let n = neighbour at next cs a s e in
    let own : k ≡ n.other.split_key = some-number k n.other.split_key (split_key_at next cs) h (ap (λ (z : ℕ). split_key_at z cs) (sym n.place) ∙ ap first_split_key n.pair.next) in
    let S : List Cell → Type 0 = λ zs. Sorted zs in
    let R : List Cell → Type 0 = λ zs. HaveSplitKeys hash_of directory zs in
    let so : Sorted (n.other ∷ n.later) = subst S n.pair.next (sorted-from n.other.at cs o) in
    let pl : HaveSplitKeys hash_of directory (n.other ∷ n.later) = subst R n.pair.next (placed-from hash_of directory n.other.at cs p) in
    let N : List Cell → Type 0 = λ zs. AreNone hash_of hash (slots_of zs) in
    let back : cells_after at cs ≡ n.other ∷ n.later = ap all_but_first n.pair.is in
    subst N (sym back) (none-beyond hash_of directory key hash is n.other.split_key (n.other ∷ n.later) (omega (arith, own, less)) (omega arith) so pl)

pub nothing-behind : (hash_of : Term → ℕ) (hash at : ℕ) (cs : List Cell) → place_after at cs ≡ None → AreNone hash_of hash (slots_of (cells_after at cs))
nothing-behind hash_of hash at cs e = go (cells_after at cs) e
  where
    go : (ds : List Cell) → first_place ds ≡ None → AreNone hash_of hash (slots_of ds)
    go [] e = tt
    go (d ∷ ds) e = absurd (cc)
