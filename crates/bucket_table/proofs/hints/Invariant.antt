-- The invariants are kept by each change.
use Rattle.std.proofs.Common.{inl, inr, ◌≤◌, ◌≡◌, ℕ, zero, suc, ◌+◌, ◌-◌, ◌*◌, ◌/◌, ◌^◌, ◌<◌, List, [], ◌∷◌, ◌++◌, length, replicate, take, set, get_or, Option, Some, None, Bool, true, false, nat_eq, ◌&&◌, refl, sym, ◌∙◌, ap, subst, arith}
use Rattle.std.specs.Prelude.{Result, Ok, Err}
use Rattle.std.specs.Result.{OnOk, OnErr}
use Rattle.std.specs.Map.{lookup}
use Rattle.std.proofs.lemmas.List.{length-set}
use Rattle.ets_term.specs.declared.term.Term.{Term}
use Rattle.ets_term.specs.Order.{same}
use Rattle.split_key.specs.Keys.{key_of_item, key_of_dummy}
use Rattle.std.proofs.lemmas.Bool.{cases_eq}
use Rattle.node_list.proofs.CellLaws.{from-here, from-on, at-most-from}
use Rattle.node_list.specs.Cells.{Cell, Sorted, new_cell, new_item}
use Rattle.node_list.specs.Places.{IsFresh, from, first_place}
use Rattle.node_list.specs.Changes.{put_cell}
use Rattle.node_list.specs.Changes.{cells_with}
use Rattle.bucket_table.specs.inside.Nodes.{slots_of}
use Rattle.bucket_table.specs.inside.Search.{IsFound}
use Rattle.bucket_table.specs.inside.Intervals.{first_in, AreSound, HasIntervalsFor, ListInvariant, IsNewFirst, KeepsFirst, SetsFirst}
use Rattle.bucket_table.proofs.hints.First.{first-on}
use Rattle.bucket_table.proofs.directory.New.{new-split}
use Rattle.bucket_table.proofs.directory.Change.{put-split, with-split, ready-split, grown-split, grown-length}
use Rattle.bucket_table.proofs.hints.Change.{hints-put, hints-dummy, hints-with}

-- Other hints that are right, of intervals that are not wider, keep the invariants.
pub rows-hinted : (hash_of : Term → ℕ) (directory : List (Option ℕ)) (interval_bits narrower : ℕ) (current after : List (Option (Option ℕ))) (cells : List Cell) → ListInvariant hash_of directory interval_bits current cells → narrower ≤ interval_bits → AreSound (2 ^ narrower) after cells → ListInvariant hash_of directory narrower after cells
rows-hinted hash_of directory interval_bits narrower current after cells r e h =
    let narrow : interval_bits + r.hinted.doublings ≤ 31 = r.hinted.narrow in
    record {
      split = r.split;
      hinted = record { doublings = r.hinted.doublings; size = r.hinted.size; narrow = omega arith; hints = h };
    }

and-false : (b : Bool) → (b && false) ≡ false
and-false true = refl
and-false false = refl

none-first : (width f k : ℕ) → first_in width f (new_cell 0 k None ∷ []) ≡ None
none-first width f k = first-on width f (new_cell 0 k None) [] (and-false (nat_eq (k / width) f))

hints-empty : (width n : ℕ) (current : List (Option (Option ℕ))) (cs : List Cell) → ((f : ℕ) → first_in width f cs ≡ None) → current ≡ replicate n (Some None) → AreSound width current cs
hints-empty width n current cs none is f first e = none f ∙ go n f first (ap (λ (zs : List (Option (Option ℕ))). get_or zs f None) (sym is) ∙ e)
  where
    go : (n f : ℕ) (first : Option ℕ) → get_or (replicate n (Some None)) f None ≡ Some first → None ≡ first
    go zero f first e = absurd (cc)
    go (suc n) zero first e = cc
    go (suc n) (suc f) first e = go n f first e

pub new-rows : (hash_of : Term → ℕ) (head : ℕ) (directory : List (Option ℕ)) (current : List (Option (Option ℕ))) (n : ℕ) (cells : List Cell) → directory ≡ Some head ∷ None ∷ [] → cells ≡ new_cell 0 0 None ∷ [] → first_place cells ≡ Some head → current ≡ replicate n (Some None) → ListInvariant hash_of directory 30 current cells
new-rows hash_of head directory current n cells d e f h = record {
  split = new-split hash_of head directory cells d e f;
  hinted = record { doublings = 1; size = ap length d; narrow = omega arith; hints = hints-empty (2 ^ 30) n current cells (λ g. ap (first_in (2 ^ 30) g) e ∙ none-first (2 ^ 30) g 0) h };
}

-- A node with a greater split key comes later.
pub is-after : (start at : ℕ) (cs : List Cell) (d : Cell) (ds : List Cell) (e : Cell) (es : List Cell) → Sorted cs → from start cs ≡ d ∷ ds → from at cs ≡ e ∷ es → d.split_key < e.split_key → from at ds ≡ e ∷ es
is-after start at [] d ds e es o s t h = absurd (cc)
is-after start at (c ∷ cs) d ds e es o s t h =
    elim (cases_eq c.at at) [
      | inl here ↦
          let same' : c ≡ e = cc (sym (from-here at c cs here) ∙ t) in
          let k : c.split_key ≡ e.split_key = ap (λ (z : Cell). z.split_key) same' in
          elim (cases_eq c.at start) [
            | inl first ↦
                let also : c ≡ d = cc (sym (from-here start c cs first) ∙ s) in
                let l : c.split_key ≡ d.split_key = ap (λ (z : Cell). z.split_key) also in
                absurd (omega arith)
            | inr other ↦
                let l : c.split_key ≤ d.split_key = at-most-from start c.split_key cs d ds o.0 o.1 (sym (from-on start c cs other) ∙ s) in
                absurd (omega arith)
          ]
      | inr miss ↦
          let t' : from at cs ≡ e ∷ es = sym (from-on at c cs miss) ∙ t in
          elim (cases_eq c.at start) [
            | inl first ↦
                let later : cs ≡ ds = cc (sym (from-here start c cs first) ∙ s) in
                ap (from at) (sym later) ∙ t'
            | inr other ↦ is-after start at cs d ds e es o.1 (sym (from-on start c cs other) ∙ s) t' h
          ]
    ]

abbrev no_hints : List (Option (Option ℕ))
no_hints = []

take-none : (n : ℕ) → take n no_hints ≡ no_hints
take-none zero = refl
take-none (suc n) = refl

-- An empty list of hints, filled with one hint.
pub cleared-grown : (old after : List (Option (Option ℕ))) (unknown what : Option (Option ℕ)) (n m : ℕ) → old ≡ [] → unknown ≡ what → m ≡ 0 → after ≡ take n old ++ replicate (n - m) unknown → after ≡ replicate n what
cleared-grown old after unknown what n m e u z h =
    let none : n - m ≡ n = omega (arith, z) in
    h ∙ (ap (λ (zs : List (Option (Option ℕ))). take n zs ++ replicate (n - m) unknown) e
    ∙ (ap (λ (zs : List (Option (Option ℕ))). zs ++ replicate (n - m) unknown) (take-none n)
    ∙ (ap (λ (k : ℕ). replicate k unknown) none ∙ ap (replicate n) u)))

module _ (hash_of : Term → ℕ) (directory : List (Option ℕ)) (interval_bits : ℕ) (current : List (Option (Option ℕ))) (cells : List Cell) (r : ListInvariant hash_of directory interval_bits current cells) where
  pub rows-put : (after : List (Option (Option ℕ))) (moves : Bool) (at key : ℕ) (term : Term) (chain : List Term) (new : List Cell) → IsFresh at cells → key ≡ key_of_item (hash_of term) → lookup (same term) (slots_of cells) ≡ None
      → new ≡ put_cell (new_cell at key (Some (new_item term chain))) cells → SetsFirst moves (key / 2 ^ interval_bits) at current after
      → (moves ≡ true → IsNewFirst (2 ^ interval_bits) (key / 2 ^ interval_bits) cells key) → (moves ≡ false → KeepsFirst (2 ^ interval_bits) (key / 2 ^ interval_bits) cells key (get_or current (key / 2 ^ interval_bits) None))
      → ListInvariant hash_of directory interval_bits after new
  rows-put after moves at key term chain new f k none e logged new_first old_first = record {
    split = put-split hash_of directory cells r.split at key term chain new f k none e;
    hinted = record {
      doublings = r.hinted.doublings;
      size = r.hinted.size;
      narrow = r.hinted.narrow;
      hints = hints-put (2 ^ interval_bits) current after moves at key (new_item term chain) cells new r.hinted.hints e logged new_first old_first;
    };
  }

  pub rows-with : (term : Term) (at : ℕ) (w : List Term) → IsFound term at cells → ListInvariant hash_of directory interval_bits current (cells_with at w cells)
  rows-with term at w h = record {
    split = with-split hash_of directory cells r.split term at w h;
    hinted = record {
      doublings = r.hinted.doublings;
      size = r.hinted.size;
      narrow = r.hinted.narrow;
      hints = hints-with (2 ^ interval_bits) current at w cells r.hinted.hints;
    };
  }

  pub rows-ready : (bucket at : ℕ) → bucket < length directory → get_or directory bucket None ≡ None → IsFresh at cells → (new : List Cell) → new ≡ put_cell (new_cell at (key_of_dummy bucket) None) cells → ListInvariant hash_of (set directory bucket (Some at)) interval_bits current new
  rows-ready bucket at below none f new e = record {
    split = ready-split hash_of directory cells r.split bucket at below none f new (set directory bucket (Some at)) e refl;
    hinted = record {
      doublings = r.hinted.doublings;
      size = length-set directory bucket (Some at) ∙ r.hinted.size;
      narrow = r.hinted.narrow;
      hints = hints-dummy (2 ^ interval_bits) current at (key_of_dummy bucket) cells new r.hinted.hints e;
    };
  }

  rows-grown : length directory < 2 ^ 20 → HasIntervalsFor (2 * length directory) interval_bits → (after : List (Option ℕ)) → after ≡ directory ++ replicate (length directory) None → ListInvariant hash_of after interval_bits current cells
  rows-grown h narrow after e = record {
    split = grown-split hash_of directory cells r.split h after e;
    hinted = record {
      doublings = narrow.doublings;
      size = ap length e ∙ (grown-length hash_of directory cells r.split ∙ narrow.size);
      narrow = narrow.narrow;
      hints = r.hinted.hints;
    };
  }

  -- The directory is doubled, or stays as it is if memory is refused.
  pub rows-tried : {E : Type 0} (result : Result (Unit {0}) E) (after : List (Option ℕ)) → length directory < 2 ^ 20 → HasIntervalsFor (2 * length directory) interval_bits → OnOk result (after ≡ directory ++ replicate (length directory) None) → OnErr result (after ≡ directory) → ListInvariant hash_of after interval_bits current cells
  rows-tried (Ok _) after h narrow ok err = rows-grown h narrow after ok
  rows-tried (Err _) after h narrow ok err = let P : List (Option ℕ) → Type 0 = λ ds. ListInvariant hash_of ds interval_bits current cells in subst P (sym err) r
