-- Items keep the split keys of their hashes, and dummies stay in the directory.
use Rattle.std.proofs.Common.{◌≡◌, ◌≢◌, ℕ, ◌+◌, ◌*◌, ◌%◌, IsSome, arith, ◌<◌, inl, inr, List, [], ◌∷◌, length, get_or, Option, Some, None, refl, sym, ◌∙◌, ap, subst}
use Rattle.std.proofs.lemmas.Bool.{cases_lt, cases_eq}
use Rattle.ets_term.specs.declared.term.Term.{Term}
use Rattle.split_key.specs.Keys.{rev, key_of_dummy}
use Rattle.std.proofs.Math.Nat.{mul-mod_right, mul-add-mod_self_left}
use Rattle.node_list.specs.declared.node.Item.{Item}
use Rattle.node_list.specs.Cells.{Cell, new_cell}
use Rattle.node_list.specs.Places.{from, IsFresh}
use Rattle.node_list.specs.Changes.{put_cell, without}
use Rattle.node_list.specs.Changes.{item_with}
use Rattle.node_list.specs.Changes.{cells_with}
use Rattle.node_list.proofs.CellLaws.{put-past, put-on, from-here, from-on, without-here, without-on}
use Rattle.node_list.proofs.CallerLaws.{put-from_other, without-from_other}
use Rattle.bucket_table.specs.inside.Directory.{HasSplitKey, HaveSplitKeys, DummiesAreListed, HaveParity}
use Rattle.bucket_table.proofs.list.Content.{fresh-apart, with-here, with-on}

-- ---- each node

module _ (hash_of : Term → ℕ) (directory : List (Option ℕ)) where
  pub placed-put : (x : Cell) (cs : List Cell) → HasSplitKey hash_of directory x.at x.split_key x.item → HaveSplitKeys hash_of directory cs → HaveSplitKeys hash_of directory (put_cell x cs)
  placed-put x [] h p = (h, tt)
  placed-put x (c ∷ cs) h p =
      let P : List Cell → Type 0 = λ zs. HaveSplitKeys hash_of directory zs in
      elim (cases_lt x.split_key c.split_key) [
        | inl past ↦ subst P (sym (put-past x c cs past)) (h, p)
        | inr on ↦ subst P (sym (put-on x c cs on)) (p.0, placed-put x cs h p.1)
      ]

  pub placed-without : (at : ℕ) (cs : List Cell) → HaveSplitKeys hash_of directory cs → HaveSplitKeys hash_of directory (without at cs)
  placed-without at [] p = p
  placed-without at (c ∷ cs) p =
      let P : List Cell → Type 0 = λ zs. HaveSplitKeys hash_of directory zs in
      elim (cases_eq c.at at) [
        | inl here ↦ subst P (sym (without-here at c cs here)) p.1
        | inr other ↦ subst P (sym (without-on at c cs other)) (p.0, placed-without at cs p.1)
      ]

  placed-item : (at key : ℕ) (o : Option Item) (w : List Term) → HasSplitKey hash_of directory at key o → HasSplitKey hash_of directory at key (item_with o w)
  placed-item at key None w p = p
  placed-item at key (Some item) w p = p

  pub placed-with : (at : ℕ) (w : List Term) (cs : List Cell) → HaveSplitKeys hash_of directory cs → HaveSplitKeys hash_of directory (cells_with at w cs)
  placed-with at w [] p = p
  placed-with at w (c ∷ cs) p =
      let P : List Cell → Type 0 = λ zs. HaveSplitKeys hash_of directory zs in
      elim (cases_eq c.at at) [
        | inl here ↦ subst P (sym (with-here at w c cs here)) (placed-item c.at c.split_key c.item w p.0, placed-with at w cs p.1)
        | inr other ↦ subst P (sym (with-on at w c cs other)) (p.0, placed-with at w cs p.1)
      ]

-- Each entry of one directory is one of another.
abbrev pub IsPartOf : List (Option ℕ) → List (Option ℕ) → Type 0
IsPartOf ds es = (bucket at : ℕ) → bucket < length ds → get_or ds bucket None ≡ Some at → (bucket < length es) × (get_or es bucket None ≡ Some at)

module _ (hash_of : Term → ℕ) (ds es : List (Option ℕ)) (part : IsPartOf ds es) where
  known-more : (at key : ℕ) (o : Option Item) → HasSplitKey hash_of ds at key o → HasSplitKey hash_of es at key o
  known-more at key None k = let m = part k.bucket at k.below k.entry in record { bucket = k.bucket; below = m.0; is = k.is; entry = m.1 }
  known-more at key (Some item) k = k

  pub placed-more : (cs : List Cell) → HaveSplitKeys hash_of ds cs → HaveSplitKeys hash_of es cs
  placed-more [] p = p
  placed-more (c ∷ cs) p = (known-more c.at c.split_key c.item p.0, placed-more cs p.1)

-- ---- each dummy

pub listed-put : (directory : List (Option ℕ)) (x : Cell) (cs : List Cell) → IsFresh x.at cs → DummiesAreListed directory cs → DummiesAreListed directory (put_cell x cs)
listed-put directory x cs f h bucket at e =
    let d = h bucket at e in
    let kept = put-from_other x cs at (new_cell at (key_of_dummy bucket) None) d.later (fresh-apart x.at at cs (new_cell at (key_of_dummy bucket) None) d.later f d.is) d.is in
    record { later = kept.0; is = kept.1 }

-- No item is at the place of a dummy.
pub item-apart : (directory : List (Option ℕ)) (gone : ℕ) (cs : List Cell) (cell : Cell) (later : List Cell) (item : Item) → from gone cs ≡ cell ∷ later → cell.item ≡ Some item → DummiesAreListed directory cs → (bucket at : ℕ) → get_or directory bucket None ≡ Some at → gone ≢ at
item-apart directory gone cs cell later item is has h bucket at e same =
    let d = h bucket at e in
    let both : cell ∷ later ≡ new_cell at (key_of_dummy bucket) None ∷ d.later = sym is ∙ (ap (λ (z : ℕ). from z cs) same ∙ d.is) in
    let c : cell ≡ new_cell at (key_of_dummy bucket) None = cc in
    let none : cell.item ≡ None = ap (λ (z : Cell). z.item) c in
    absurd (cc (none, has))

pub listed-without : (directory : List (Option ℕ)) (gone : ℕ) (cs : List Cell) (cell : Cell) (later : List Cell) (item : Item) → from gone cs ≡ cell ∷ later → cell.item ≡ Some item → DummiesAreListed directory cs → DummiesAreListed directory (without gone cs)
listed-without directory gone cs cell later item is has h bucket at e =
    let d = h bucket at e in
    let kept = without-from_other gone cs at (new_cell at (key_of_dummy bucket) None) d.later (item-apart directory gone cs cell later item is has h bucket at e) d.is in
    record { later = kept.0; is = kept.1 }

pub from-with : (at gone : ℕ) (w : List Term) (cs : List Cell) → from at (cells_with gone w cs) ≡ cells_with gone w (from at cs)
from-with at gone w [] = refl
from-with at gone w (c ∷ cs) =
    elim (cases_eq c.at gone) [
      | inl here ↦
          elim (cases_eq c.at at) [
            | inl start ↦
                ap (from at) (with-here gone w c cs here)
                ∙ (from-here at (record c { item = item_with c.item w }) (cells_with gone w cs) start ∙ (sym (with-here gone w c cs here) ∙ ap (cells_with gone w) (sym (from-here at c cs start))))
            | inr other ↦
                ap (from at) (with-here gone w c cs here)
                ∙ (from-on at (record c { item = item_with c.item w }) (cells_with gone w cs) other ∙ (from-with at gone w cs ∙ ap (cells_with gone w) (sym (from-on at c cs other))))
          ]
      | inr stays ↦
          elim (cases_eq c.at at) [
            | inl start ↦
                ap (from at) (with-on gone w c cs stays)
                ∙ (from-here at c (cells_with gone w cs) start ∙ (sym (with-on gone w c cs stays) ∙ ap (cells_with gone w) (sym (from-here at c cs start))))
            | inr other ↦
                ap (from at) (with-on gone w c cs stays)
                ∙ (from-on at c (cells_with gone w cs) other ∙ (from-with at gone w cs ∙ ap (cells_with gone w) (sym (from-on at c cs other))))
          ]
    ]

pub listed-with : (directory : List (Option ℕ)) (gone : ℕ) (w : List Term) (cs : List Cell) (cell : Cell) (later : List Cell) (item : Item) → from gone cs ≡ cell ∷ later → cell.item ≡ Some item → DummiesAreListed directory cs → DummiesAreListed directory (cells_with gone w cs)
listed-with directory gone w cs cell later item is has h bucket at e =
    let d = h bucket at e in
    let apart = item-apart directory gone cs cell later item is has h bucket at e in
    let other : at ≢ gone = λ f. apart (sym f) in
    record {
      later = cells_with gone w d.later;
      is = from-with at gone w cs ∙ (ap (cells_with gone w) d.is ∙ with-on gone w (new_cell at (key_of_dummy bucket) None) d.later other);
    }

-- ---- parity

even : (x : ℕ) → (2 * x) % 2 ≡ 0
even x = mul-mod_right 2 x

odd : (x : ℕ) → (2 * x + 1) % 2 ≡ 1
odd x = mul-add-mod_self_left 2 x 1

-- The parity of a split key separates items from dummies.
abbrev pub IsParity : ℕ → Option Item → Type 0
IsParity key o = (key % 2 ≡ 1 → IsSome o) × (key % 2 ≢ 1 → o ≡ None)

pub parity-of : (hash_of : Term → ℕ) (directory : List (Option ℕ)) (at key : ℕ) (o : Option Item) → HasSplitKey hash_of directory at key o → IsParity key o
parity-of hash_of directory at key None k = (λ h. (let z : key % 2 ≡ 0 = ap (λ (n : ℕ). n % 2) k.is ∙ even (rev 32 k.bucket) in absurd (omega (arith, z, h))), λ _. refl)
parity-of hash_of directory at key (Some item) k = (λ _. refl, λ n. absurd (n (ap (λ (z : ℕ). z % 2) k ∙ odd (rev 32 (hash_of item.term)))))

pub placed-parity : (hash_of : Term → ℕ) (directory : List (Option ℕ)) (cs : List Cell) → HaveSplitKeys hash_of directory cs → HaveParity cs
placed-parity hash_of directory [] p = tt
placed-parity hash_of directory (c ∷ cs) p = let q = parity-of hash_of directory c.at c.split_key c.item p.0 in (q.0, q.1, placed-parity hash_of directory cs p.1)

pub parity-from : (at : ℕ) (cs : List Cell) → HaveParity cs → HaveParity (from at cs)
parity-from at [] h = h
parity-from at (c ∷ cs) h =
    let P : List Cell → Type 0 = λ zs. HaveParity zs in
    elim (cases_eq c.at at) [
      | inl here ↦ subst P (sym (from-here at c cs here)) h
      | inr other ↦ subst P (sym (from-on at c cs other)) (parity-from at cs h.2)
    ]
