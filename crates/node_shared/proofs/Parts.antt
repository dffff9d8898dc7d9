-- Journals by their entries, one after another.
use Rattle.std.proofs.Common.{◌≡◌, ℕ, zero, suc, ◌+◌, ◌<◌, ◌≤◌, ◌⊎◌, inl, inr, ⊎_elim, Bool, true, false, cond, List, [], ◌∷◌, ◌++◌, Option, None, Some, length, take, drop, get_or, refl, sym, ap, ◌∙◌, subst, arith}
use Rattle.std.specs.Prelude.{◌||◌, ◌⊎◌}
use Rattle.std.proofs.lemmas.List.{take-append-drop, append_cancel_left, append-nil}
use Rattle.std.proofs.lemmas.List.Elements.{filter-append, filter_more}
use Rattle.std.proofs.lemmas.List.Folds.{list_any-append}
use Rattle.std.proofs.lemmas.Bool.Decides.{Decides-eqb}
use Rattle.node_core.specs.declared.step.Step.{Step}
use Rattle.node_core.specs.declared.step.Step.TheVariants.{Enrol, End, Ask, Grow, Ready}
use Rattle.node_shared.specs.declared.entry.Entry.{Entry}
use Rattle.node_core.specs.Woven.{is_step_of}
use Rattle.node_shared.specs.Journal.{process_of, is_entry_of, entries_of, has_entries}
use Rattle.node_shared.specs.Records.{RecordState}
use Rattle.node_shared.specs.Closing.{has_client}
use Rattle.node_shared.specs.inside.Closing.{FindsMissing}

-- ---- a part, compared entry by entry
-- the list from a place on
from : {A : Type 0} (xs : List A) (i : ℕ) (d : A) → i < length xs → drop i xs ≡ get_or xs i d ∷ drop (suc i) xs
from [] i d lt = absurd (omega arith)
from (x ∷ xs) zero d lt = refl
from (x ∷ xs) (suc i) d lt = from xs i d (omega arith)

beyond : {A : Type 0} (xs : List A) (i : ℕ) → length xs ≤ i → drop i xs ≡ []
beyond [] zero le = refl
beyond [] (suc i) le = refl
beyond (x ∷ xs) zero le = absurd (omega arith)
beyond (x ∷ xs) (suc i) le = beyond xs i (omega arith)

module _ (p : ℕ) (journal entries : List Entry) (i at : ℕ) (d : Entry) (within : i < length journal) (so_far : entries_of p (take i journal) ≡ take at entries) (own : is_entry_of p (get_or journal i d) ≡ true) where
  -- what is left of the part begins with this entry
  rest : entries_of p journal ≡ entries → drop at entries ≡ get_or journal i d ∷ entries_of p (drop (suc i) journal)
  rest whole =
      let front : entries_of p journal ≡ entries_of p (take i journal) ++ entries_of p (drop i journal) = ap (entries_of p) (sym (take-append-drop i journal)) ∙ filter-append (is_entry_of p) (take i journal) (drop i journal) in
      let here : entries_of p (drop i journal) ≡ get_or journal i d ∷ entries_of p (drop (suc i) journal) =
      ap (entries_of p) (from journal i d within) ∙ ap (λ (b : Bool). cond b (get_or journal i d ∷ entries_of p (drop (suc i) journal)) (entries_of p (drop (suc i) journal))) own in
      append_cancel_left (take at entries) (drop at entries) (get_or journal i d ∷ entries_of p (drop (suc i) journal))
      (take-append-drop at entries ∙ sym whole ∙ front ∙ (λ k. so_far k ++ here k))

  pub ends-short : length entries ≤ at → entries_of p journal ≡ entries → ⊥
  ends-short le whole = let e : [] ≡ get_or journal i d ∷ entries_of p (drop (suc i) journal) = sym (beyond entries at le) ∙ rest whole in cc

  pub differs-here : (x : Entry) → at < length entries → x ≡ get_or entries at x → (get_or journal i d ≡ x → ⊥) → entries_of p journal ≡ entries → ⊥
  differs-here x lt is other whole =
      let e : get_or entries at x ∷ drop (suc at) entries ≡ get_or journal i d ∷ entries_of p (drop (suc i) journal) = sym (from entries at x lt) ∙ rest whole in
      let head : get_or entries at x ≡ get_or journal i d = cc in
      other (sym head ∙ sym is)

-- an entry more
pub part-own : (p : ℕ) (journal entries : List Entry) (i at : ℕ) (d : Entry) → i < length journal → at < length entries → entries_of p (take i journal) ≡ take at entries
    → is_entry_of p (get_or journal i d) ≡ true → get_or journal i d ≡ get_or entries at d → entries_of p (take (i + 1) journal) ≡ take (at + 1) entries
part-own p journal entries i at d lt room so_far own same =
    filter_more (is_entry_of p) journal i d lt
    ∙ ap (λ (b : Bool). entries_of p (take i journal) ++ cond b (get_or journal i d ∷ []) []) own
    ∙ (λ k. so_far k ++ same k ∷ [])
    ∙ sym (Rattle.std.proofs.lemmas.List.take_more entries at d room)

pub part-other : (p : ℕ) (journal entries : List Entry) (i at : ℕ) (d : Entry) → i < length journal → entries_of p (take i journal) ≡ take at entries
    → is_entry_of p (get_or journal i d) ≡ false → entries_of p (take (i + 1) journal) ≡ take at entries
part-other p journal entries i at d lt so_far other =
    filter_more (is_entry_of p) journal i d lt
    ∙ ap (λ (b : Bool). entries_of p (take i journal) ++ cond b (get_or journal i d ∷ []) []) other
    ∙ append-nil (entries_of p (take i journal))
    ∙ so_far

-- ---- the least that is missing
-- a process with an entry in the longer journal has one in the shorter, or the last entry is its own
more-entries : (q : ℕ) (journal : List Entry) (e : Entry) → has_entries q (journal ++ e ∷ []) ≡ true → (has_entries q journal ≡ true) ⊎ (is_step_of q e.step ≡ true)
more-entries q journal e h = by (has_entries q journal) (is_step_of q e.step) refl refl (sym (list_any-append (is_entry_of q) journal (e ∷ [])) ∙ h)
  where
    by : (a b : Bool) → has_entries q journal ≡ a → is_step_of q e.step ≡ b → (has_entries q journal || (is_step_of q e.step || false)) ≡ true → (has_entries q journal ≡ true) ⊎ (is_step_of q e.step ≡ true)
    by true b ea eb t = inl ea
    by false true ea eb t = inr eb
    by false false ea eb t = let bad : false ≡ true = rw (ea, eb) at t in absurd (cc)

still : (q : ℕ) (journal : List Entry) (e : Entry) → has_entries q journal ≡ true → has_entries q (journal ++ e ∷ []) ≡ true
still q journal e h = list_any-append (is_entry_of q) journal (e ∷ []) ∙ ap (λ (b : Bool). b || (is_step_of q e.step || false)) h

here : (q : ℕ) (journal : List Entry) (e : Entry) → is_step_of q e.step ≡ true → has_entries q (journal ++ e ∷ []) ≡ true
here q journal e h = by (has_entries q journal) refl
  where
    by : (a : Bool) → has_entries q journal ≡ a → has_entries q (journal ++ e ∷ []) ≡ true
    by true ea = still q journal e ea
    by false ea = list_any-append (is_entry_of q) journal (e ∷ []) ∙ (λ k. ea k || (h k || false))

-- whose entry it is
owner : (q p : ℕ) (s : Step) → process_of s ≡ Some p → is_step_of q s ≡ true → p ≡ q
owner q p (Enrol x) is own = let same : x ≡ p = cc in sym same ∙ (Decides-eqb x q).0 own
owner q p (End x) is own = let same : x ≡ p = cc in sym same ∙ (Decides-eqb x q).0 own
owner q p (Ask x call) is own = let same : x ≡ p = cc in sym same ∙ (Decides-eqb x q).0 own
owner q p (Grow t) is own = cc
owner q p (Ready t bucket) is own = cc

owned : (p : ℕ) (s : Step) → process_of s ≡ Some p → is_step_of p s ≡ true
owned p (Enrol x) is = let same : x ≡ p = cc in (Decides-eqb x p).1 same
owned p (End x) is = let same : x ≡ p = cc in (Decides-eqb x p).1 same
owned p (Ask x call) is = let same : x ≡ p = cc in (Decides-eqb x p).1 same
owned p (Grow t) is = cc
owned p (Ready t bucket) is = cc

entries_of-none : (q : ℕ) (s : Step) → process_of s ≡ None → is_step_of q s ≡ false
entries_of-none q (Enrol x) is = cc
entries_of-none q (End x) is = cc
entries_of-none q (Ask x call) is = cc
entries_of-none q (Grow t) is = refl
entries_of-none q (Ready t bucket) is = refl

module _ (journal : List Entry) (clients : List RecordState) (e : Entry) where
  -- one more entry that adds nothing that is missing
  misses-still : (least : Option ℕ) → ((q : ℕ) → is_step_of q e.step ≡ true → has_client q clients ≡ true) → FindsMissing journal clients least → FindsMissing (journal ++ e ∷ []) clients least
  misses-still None known h = λ q has. ⊎_elim (h q) (known q) (more-entries q journal e has)
  misses-still (Some p) known h = record {
    entries = still p journal e h.entries;
    none = h.none;
    least = λ q has none. ⊎_elim (λ a. h.least q a none) (λ own. let bad : false ≡ true = sym none ∙ known q own in absurd (cc)) (more-entries q journal e has);
  }

  pub misses-of-none : (least : Option ℕ) → process_of e.step ≡ None → FindsMissing journal clients least → FindsMissing (journal ++ e ∷ []) clients least
  misses-of-none least is h = misses-still least (λ q own. let bad : false ≡ true = sym (entries_of-none q e.step is) ∙ own in absurd (cc)) h

  pub misses-known : (least : Option ℕ) (p : ℕ) → process_of e.step ≡ Some p → has_client p clients ≡ true → FindsMissing journal clients least → FindsMissing (journal ++ e ∷ []) clients least
  misses-known least p is known h = misses-still least (λ q own. subst (λ (x : ℕ). has_client x clients ≡ true) (owner q p e.step is own) known) h

  -- one that is missing and no less
  pub misses-lesser : (other p : ℕ) → process_of e.step ≡ Some p → other ≤ p → FindsMissing journal clients (Some other) → FindsMissing (journal ++ e ∷ []) clients (Some other)
  misses-lesser other p is le h = record {
    entries = still other journal e h.entries;
    none = h.none;
    least = λ q has none. ⊎_elim (λ a. h.least q a none) (λ own. let same = owner q p e.step is own in omega arith) (more-entries q journal e has);
  }

  -- one that is missing and less, or the first
  pub misses-first : (p : ℕ) → process_of e.step ≡ Some p → has_client p clients ≡ false → FindsMissing journal clients None → FindsMissing (journal ++ e ∷ []) clients (Some p)
  misses-first p is none h = record {
    entries = here p journal e (owned p e.step is);
    none = none;
    least = λ q has other. ⊎_elim (λ a. let bad : false ≡ true = sym other ∙ h q a in absurd (cc)) (λ own. let same = owner q p e.step is own in omega arith) (more-entries q journal e has);
  }

  pub misses-less : (other p : ℕ) → process_of e.step ≡ Some p → has_client p clients ≡ false → p < other → FindsMissing journal clients (Some other) → FindsMissing (journal ++ e ∷ []) clients (Some p)
  misses-less other p is none lt h = record {
    entries = here p journal e (owned p e.step is);
    none = none;
    least = λ q has free. ⊎_elim (λ a. let l = h.least q a free in omega arith) (λ own. let same = owner q p e.step is own in omega arith) (more-entries q journal e has);
  }
