-- The changes that keep the invariant of the directory.
use Rattle.std.proofs.Common.{◌≡◌, ◌≢◌, ℕ, suc, zero, ◌-◌, ◌*◌, ◌^◌, ◌<◌, ◌≤◌, inl, inr, List, ◌∷◌, ◌++◌, length, map, replicate, set, get_or, Option, Some, None, is_some, IsSome, Bool, true, false, refl, sym, ◌∙◌, ap, subst, arith}
use Rattle.std.specs.Map.{lookup}
use Rattle.std.proofs.lemmas.Bool.{cases_lt, cases_eq}
use Rattle.std.proofs.lemmas.List.{length-set, get_or-set_same, get_or-set_other, get_or_append_left, get_or-append_right, length-append, length-map, get_or_default, map-set, map-append}
use Rattle.std.proofs.Math.ListN.{get_or-map}
use Rattle.std.proofs.Math.Pow.{pow_pos, pow-lt}
use Rattle.ets_term.specs.declared.term.Term.{Term}
use Rattle.ets_term.specs.Order.{same}
use Rattle.split_key.specs.Keys.{key_of_item, key_of_dummy, IsPowerOfTwo}
use Rattle.split_key.proofs.Revs.{pow-suc}
use Rattle.split_key.proofs.Halves.{exponent-lt}
use Rattle.node_list.specs.Cells.{Cell, new_cell, new_item}
use Rattle.node_list.specs.Places.{IsFresh}
use Rattle.node_list.specs.Changes.{put_cell, without}
use Rattle.node_list.specs.Changes.{cells_with}
use Rattle.node_list.proofs.CallerLaws.{put-from_new}
use Rattle.bucket_table.specs.Slots.{Slot, Enters}
use Rattle.bucket_table.specs.Rows.{HasDistinctKeys}
use Rattle.bucket_table.specs.inside.Nodes.{slots_of}
use Rattle.bucket_table.specs.inside.Directory.{IsInDirectory, IsDummyOf, DummiesAreListed, DirectoryInvariant}
use Rattle.bucket_table.specs.inside.Search.{IsFound}
use Rattle.bucket_table.proofs.slots.Distinct.{slots-put-dummy, slots-put-item, distinct-added, distinct-removed, distinct-set}
use Rattle.bucket_table.proofs.directory.Placed.{placed-put, placed-without, placed-with, IsPartOf, placed-more, listed-put, listed-without, listed-with}

abbrev nones : ℕ → List (Option ℕ)
nones n = replicate n None

length-nones : (n : ℕ) → length (nones n) ≡ n
length-nones zero = refl
length-nones (suc n) = ap suc (length-nones n)

module _ (hash_of : Term → ℕ) (directory : List (Option ℕ)) (cs : List Cell) (i : DirectoryInvariant hash_of directory cs) where
  abbrev Distinct : List Slot → Type 0
  Distinct ss = HasDistinctKeys ss

  -- An item is inserted.
  pub put-split : (at key : ℕ) (term : Term) (chain : List Term) (new : List Cell) → IsFresh at cs → key ≡ key_of_item (hash_of term) → lookup (same term) (slots_of cs) ≡ None
      → new ≡ put_cell (new_cell at key (Some (new_item term chain))) cs → DirectoryInvariant hash_of directory new
  put-split at key term chain new f k none e =
      let P : List Cell → Type 0 = λ zs. DirectoryInvariant hash_of directory zs in
      let x = new_cell at key (Some (new_item term chain)) in
      subst P (sym e) (record {
        doublings = i.doublings;
        size = i.size;
        few = i.few;
        first = i.first;
        listed = listed-put directory x cs f i.listed;
        placed = placed-put hash_of directory x cs k i.placed;
        distinct = distinct-added (slots_of cs) (slots_of (put_cell x cs)) term chain (slots-put-item at key term chain cs) none i.distinct;
      })

  pub put-added : (at key : ℕ) (term : Term) (chain : List Term) (new : List Cell) → new ≡ put_cell (new_cell at key (Some (new_item term chain))) cs → Enters (slots_of cs) term chain (slots_of new)
  put-added at key term chain new e = let P : List Cell → Type 0 = λ zs. Enters (slots_of cs) term chain (slots_of zs) in subst P (sym e) (slots-put-item at key term chain cs)

  -- An item is removed.
  pub without-split : (term : Term) (at : ℕ) (new : List Cell) → IsFound term at cs → new ≡ without at cs → DirectoryInvariant hash_of directory new
  without-split term at new h e =
      let P : List Cell → Type 0 = λ zs. DirectoryInvariant hash_of directory zs in
      subst P (sym e) (record {
        doublings = i.doublings;
        size = i.size;
        few = i.few;
        first = i.first;
        listed = listed-without directory at cs h.cell h.later h.item h.is h.has i.listed;
        placed = placed-without hash_of directory at cs i.placed;
        distinct = subst Distinct (sym h.removed) (distinct-removed (same term) (slots_of cs) i.distinct);
      })

  -- An item gets another chain.
  pub with-split : (term : Term) (at : ℕ) (w : List Term) → IsFound term at cs → DirectoryInvariant hash_of directory (cells_with at w cs)
  with-split term at w h = record {
    doublings = i.doublings;
    size = i.size;
    few = i.few;
    first = i.first;
    listed = listed-with directory at w cs h.cell h.later h.item h.is h.has i.listed;
    placed = placed-with hash_of directory at w cs i.placed;
    distinct = subst Distinct (sym (h.replaced w)) (distinct-set (same term) (slots_of cs) w i.distinct);
  }

  -- A bucket becomes ready.
  module _ (bucket at : ℕ) (below : bucket < length directory) (none : get_or directory bucket None ≡ None) (f : IsFresh at cs) where
    abbrev dirs : List (Option ℕ)
    dirs = set directory bucket (Some at)

    abbrev dummy : Cell
    dummy = new_cell at (key_of_dummy bucket) None

    set-entry : get_or dirs bucket None ≡ Some at
    set-entry = get_or-set_same directory bucket (Some at) None below

    other-bucket : (b p : ℕ) → get_or directory b None ≡ Some p → b ≢ bucket
    other-bucket b p e same' = let e' : get_or directory b None ≡ None = ap (λ (z : ℕ). get_or directory z None) same' ∙ none in absurd (cc)

    set-part : IsPartOf directory dirs
    set-part b p within e = (
      (let l : length dirs ≡ length directory = length-set directory bucket (Some at) in omega (arith, l)),
      get_or-set_other directory bucket b (Some at) None (other-bucket b p e) ∙ e,
    )

    some-in : (a b : ℕ) (o : Option ℕ) → o ≡ Some a → o ≡ Some b → a ≡ b
    some-in a b o x y = cc

    ready-listed : DummiesAreListed dirs (put_cell dummy cs)
    ready-listed b p e =
        elim (cases_eq b bucket) [
          | inl it ↦
              let at-is : at ≡ p = some-in at p (get_or dirs bucket None) set-entry (ap (λ (z : ℕ). get_or dirs z None) (sym it) ∙ e) in
              let s = put-from_new dummy cs f in
              let here : IsDummyOf bucket at (put_cell dummy cs) = record { later = s.0; is = s.1 } in
              let P : ℕ → Type 0 = λ z. IsDummyOf z p (put_cell dummy cs) in
              let Q : ℕ → Type 0 = λ z. IsDummyOf bucket z (put_cell dummy cs) in
              subst P (sym it) (subst Q at-is here)
          | inr other ↦ listed-put directory dummy cs f i.listed b p (sym (get_or-set_other directory bucket b (Some at) None other) ∙ e)
        ]

    none-some : (o : Option ℕ) → o ≡ None → IsSome o → ⊥
    none-some None e s = absurd (cc)
    none-some (Some x) e s = absurd (cc)

    ready-first : IsSome (get_or dirs 0 None)
    ready-first =
        let P : Option ℕ → Type 0 = λ z. IsSome z in
        let n : 0 ≢ bucket = λ e. none-some (get_or directory 0 None) (ap (λ (z : ℕ). get_or directory z None) e ∙ none) i.first in
        subst P (sym (get_or-set_other directory bucket 0 (Some at) None n)) i.first

    pub ready-split : (new : List Cell) (after : List (Option ℕ)) → new ≡ put_cell dummy cs → after ≡ dirs → DirectoryInvariant hash_of after new
    ready-split new after e g =
        let P : List Cell → Type 0 = λ zs. DirectoryInvariant hash_of after zs in
        let Q : List (Option ℕ) → Type 0 = λ ds. DirectoryInvariant hash_of ds (put_cell dummy cs) in
        let l : length dirs ≡ length directory = length-set directory bucket (Some at) in
        let within : bucket < length dirs = omega (arith, l) in
        let known : IsInDirectory dirs at (key_of_dummy bucket) = record { bucket = bucket; below = within; is = refl; entry = set-entry } in
        subst P (sym e) (subst Q (sym g) (record {
          doublings = i.doublings;
          size = l ∙ i.size;
          few = i.few;
          first = ready-first;
          listed = ready-listed;
          placed = placed-put hash_of dirs dummy cs known (placed-more hash_of directory dirs set-part cs i.placed);
          distinct = subst Distinct (sym (slots-put-dummy at (key_of_dummy bucket) cs)) i.distinct;
        }))

  -- The buckets are doubled.
  abbrev grown : List (Option ℕ)
  grown = directory ++ replicate (length directory) None

  none-there : (n b : ℕ) (p : ℕ) → get_or (replicate n None) b None ≡ Some p → ⊥
  none-there zero b p e = absurd (cc)
  none-there (suc n) zero p e = absurd (cc)
  none-there (suc n) (suc b) p e = none-there n b p e

  old-entry : (b p : ℕ) → get_or grown b None ≡ Some p → get_or directory b None ≡ Some p
  old-entry b p e =
      elim (cases_lt b (length directory)) [
        | inl old ↦ sym (get_or_append_left directory (replicate (length directory) None) None b old) ∙ e
        | inr new ↦ absurd (none-there (length directory) (b - length directory) p (sym (get_or-append_right directory (replicate (length directory) None) (length directory) b None refl new) ∙ e))
      ]

  pub grown-length : length grown ≡ 2 * length directory
  grown-length = length-append directory (replicate (length directory) None) ∙ omega (arith, length-nones (length directory))

  pub some-buckets : 0 < length directory
  some-buckets = let q : 0 < 2 ^ i.doublings = pow_pos i.doublings in omega (arith, i.size)

  pub grown-split : length directory < 2 ^ 20 → (after : List (Option ℕ)) → after ≡ grown → DirectoryInvariant hash_of after cs
  grown-split h after g =
      let Q : List (Option ℕ) → Type 0 = λ ds. DirectoryInvariant hash_of ds cs in
      let R : ℕ → Type 0 = λ z. z < 2 ^ 20 in
      let fewer : i.doublings < 20 = exponent-lt i.doublings 20 (subst R i.size h) in
      let P : Option ℕ → Type 0 = λ z. IsSome z in
      let part : IsPartOf directory grown = λ b p within e. (omega (arith, grown-length), get_or_append_left directory (replicate (length directory) None) None b within ∙ e) in
      subst Q (sym g) (record {
        doublings = suc i.doublings;
        size = grown-length ∙ (ap (λ (z : ℕ). 2 * z) i.size ∙ sym (pow-suc i.doublings));
        few = omega arith;
        first = subst P (sym (get_or_append_left directory (replicate (length directory) None) None 0 some-buckets)) i.first;
        listed = λ b p e. i.listed b p (old-entry b p e);
        placed = placed-more hash_of directory grown part cs i.placed;
        distinct = i.distinct;
      })

  pub at-most : 2 ^ 20 ≤ length directory → length directory ≡ 2 ^ 20
  at-most h =
      elim (cases_lt i.doublings 20) [
        | inl less ↦ let p : 2 ^ i.doublings < 2 ^ 20 = pow-lt less in absurd (omega (arith, i.size))
        | inr most ↦ let e : i.doublings ≡ 20 = (let few : i.doublings ≤ 20 = i.few in omega arith) in i.size ∙ ap (λ (z : ℕ). 2 ^ z) e
      ]

  pub power : IsPowerOfTwo (length directory)
  power = (i.doublings, i.size)

  pub few-buckets : length directory ≤ 2 ^ 20
  few-buckets =
      elim (cases_lt (length directory) (2 ^ 20)) [
        | inl less ↦ omega arith
        | inr most ↦ let e = at-most most in omega (arith, e)
      ]

pub none-is : (o : Option ℕ) → is_some o ≡ false → o ≡ None
none-is None e = refl
none-is (Some x) e = absurd (cc)

pub ready-none : (directory : List (Option ℕ)) (bucket : ℕ) → bucket < length directory → get_or directory bucket None ≡ None → get_or (map is_some directory) bucket true ≡ false
ready-none directory bucket below e =
    let l : length (map is_some directory) ≡ length directory = length-map directory is_some in
    get_or_default (map is_some directory) bucket true false (omega (arith, l)) ∙ (get_or-map is_some directory bucket None ∙ ap is_some e)

pub ready-set : (directory after : List (Option ℕ)) (bucket at : ℕ) → after ≡ set directory bucket (Some at) → map is_some after ≡ set (map is_some directory) bucket true
ready-set directory after bucket at e = ap (map is_some) e ∙ map-set is_some directory bucket (Some at)

map-nones : (n : ℕ) → map is_some (nones n) ≡ replicate n false
map-nones zero = refl
map-nones (suc n) = ap (λ (bs : List Bool). false ∷ bs) (map-nones n)

pub ready-grown : (directory after : List (Option ℕ)) → after ≡ directory ++ replicate (length directory) None → map is_some after ≡ map is_some directory ++ replicate (length (map is_some directory)) false
ready-grown directory after e =
    ap (map is_some) e
    ∙ (map-append is_some directory (nones (length directory))
    ∙ (ap (λ (bs : List Bool). map is_some directory ++ bs) (map-nones (length directory))
    ∙ ap (λ (n : ℕ). map is_some directory ++ replicate n false) (sym (length-map directory is_some))))
