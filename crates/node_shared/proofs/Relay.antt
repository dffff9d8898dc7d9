-- The steps keep the rule of the lines.
use Rattle.std.proofs.Common.{◌≡◌, inl, ⊎_elim, ℕ, ◌==◌, true, false, List, [], ◌∷◌, ◌++◌, length, slice_set, None, Some, refl, sym, ap, subst, ◌∙◌}
use Rattle.std.proofs.lemmas.List.{append-nil}
use mathlib.Core.List.{IsPrefix}
use prog.Atomic.{either}
use Rattle.logbook.specs.Pages.{Cell, cell, Nib, keeps, gives, adds, no_nib, may_write, step, Moves}
use Rattle.node_shared.specs.declared.history.rule.Line.{Line}
use Rattle.node_shared.specs.inside.Lines.{Tag, of_server, is_of, turn_of, server_of, Without, IsHome, IsKept, IsSpent, IsExact, IsNew, MayTake, MayAdd, MakesPen, AddsLine, Confirms}
use Rattle.node_shared.proofs.Prefixes.{prefix_trans, prefix_snoc, snoc-same}
use Rattle.node_shared.proofs.Cells.{home-within, end-away, set-keeps, set-brings, push-keeps, within-set}
use Rattle.node_shared.proofs.Lines.{since-turn, since-own, idle, without-new}

abbrev pub shown : List Line → List Line
shown log = []

abbrev pub moved : List Line → List Line → ℕ → Type 0
moved xs ys n = Unit {0}

-- the word stays 0
abbrev pub stays : ℕ → ℕ
stays n = either (n == 0) 0 n

pub begins : IsKept ((0, true) ∷ (0, true) ∷ []) []
begins = record { word = refl; spent = λ t v l k pre is at. absurd (none v l pre.0 pre.1) }
  where
    none : (v : List Line) (l : Line) (rest : List Line) → (v ++ l ∷ []) ++ rest ≡ [] → ⊥
    none [] l rest e = cc e
    none (x ∷ v) l rest e = cc e

keep-cells : (cs now : List Cell) (log : List Line) → ((j : ℕ) → IsHome cs j → IsHome now j) → IsKept cs log → IsKept now log
keep-cells cs now log homes kept = record { word = homes 0 kept.word; spent = λ t v l k pre is at. homes k (kept.spent t v l k pre is at) }

-- the pen tells that whose turn it was it still is
exact : (cs : List Cell) (log v : List Line) (key : ℕ) → IsKept cs log → IsPrefix v log → (cell cs key).1 ≡ false → IsExact v key log
exact cs log v key kept pre away t m early at =
    let whole = prefix_trans m v log early pre in (whole.0, whole.1, idle cs log kept t key away m whole.0 whole.1 at)

pub makes-moves : (v : List Line) (e : Line) → Moves IsKept shown moved 0 (v, (no_nib, None)) stays (MakesPen (step 0 0 0 e) (v, (no_nib, None)))
makes-moves v e cs log kept pre away =
    let all : log ++ [] ≡ log = append-nil log in
    let set = slice_set cs 0 (stays (cell cs 0).0, true) in
    let kept' : IsKept (set ++ (0, false) ∷ []) log = keep-cells cs (set ++ (0, false) ∷ []) log (λ j h. push-keeps set (0, false) j (set-keeps cs 0 (stays (cell cs 0).0) j h)) kept in
    let fresh : Without (of_server (length cs)) log = idle cs log kept (of_server (length cs)) (length cs) (end-away cs) [] log refl refl in
    (home-within cs 0 kept.word, kept.word, (adds, [], None, tt, subst (IsKept (set ++ (0, false) ∷ [])) (sym all) kept', inl (refl, refl), (refl, subst (IsNew (length cs)) (sym all) (without-new (length cs) log fresh))))

-- a pen that has added a line is at home
pub spent-home : (v : List Line) (k : ℕ) → IsSpent k v → (cs : List Cell) (log : List Line) → IsKept cs log → IsPrefix v log → IsHome cs k
spent-home v k spent cs log kept pre = kept.spent spent.0 spent.1 spent.2 k (prefix_trans (spent.1 ++ spent.2 ∷ []) v log spent.3 pre) spent.4 spent.5

-- the word k may be any that is at home
pub confirms-moves : (k : ℕ) (v : List Line) (p : Nib) (e : Line) → ((cs : List Cell) (log : List Line) → IsKept cs log → IsPrefix v log → IsHome cs k) → p.right ≡ may_write
    → Moves IsKept shown moved k (v, (p, None)) stays (Confirms (step k 0 0 e) (v, (p, None)))
confirms-moves k v p e homes right cs log kept pre away =
    let all : log ++ [] ≡ log = append-nil log in
    let home : IsHome cs k = homes cs log kept pre in
    let set = slice_set cs k (stays (cell cs k).0, true) in
    let kept' : IsKept set log = keep-cells cs set log (set-keeps cs k (stays (cell cs k).0)) kept in
    (home-within cs k home, home, (keeps, [], None, tt, subst (IsKept set) (sym all) kept', inl (refl, refl), (refl, subst (IsExact v p.key) (sym all) (exact cs log v p.key kept pre (away right).1))))

module _ (v : List Line) (p : Nib) (l : Line) (right : p.right ≡ may_write) (may : MayAdd v p.key l) (cs : List Cell) (log : List Line) (kept : IsKept cs log) (pre : IsPrefix v log) (gone : (cell cs p.key).1 ≡ false) where
  -- whose turn it was is the pen
  took : (t : Tag) (k : ℕ) → is_of t l ≡ true → turn_of t log ≡ Some k → k ≡ p.key
  took t k is at = by (may t is)
    where
      by : MayTake t v p.key → k ≡ p.key
      by take =
          ⊎_elim
          (λ (h : turn_of t take.0 ≡ Some p.key).
          let both : Some k ≡ Some p.key = sym at ∙ (since-turn t take.0 log (exact cs log v p.key kept pre gone t take.0 take.1 h) ∙ h) in cc both)
          (λ (h : (turn_of (server_of t) take.0 ≡ Some p.key) × (turn_of t take.0 ≡ None)).
          let none : Some k ≡ None = sym at ∙ (since-turn t take.0 log (since-own t take.0 log (exact cs log v p.key kept pre gone (server_of t) take.0 take.1 h.0)) ∙ h.1) in absurd (cc none))
          take.2

  added : (now : List Cell) → ((j : ℕ) → IsHome cs j → IsHome now j) → IsHome now p.key → IsKept now (log ++ l ∷ [])
  added now homes brought = record { word = homes 0 kept.word; spent = spent }
    where
      spent : (t : Tag) (u : List Line) (x : Line) (k : ℕ) → IsPrefix (u ++ x ∷ []) (log ++ l ∷ []) → is_of t x ≡ true → turn_of t u ≡ Some k → IsHome now k
      spent t u x k early is at =
          ⊎_elim
          (λ (h : u ++ x ∷ [] ≡ log ++ l ∷ []).
          let same = snoc-same u log x l h in
          subst (IsHome now) (sym (took t k (ap (is_of t) (sym same.1) ∙ is) (ap (turn_of t) (sym same.0) ∙ at))) brought)
          (λ (h : IsPrefix (u ++ x ∷ []) log). homes k (kept.spent t u x k h is at))
          (prefix_snoc (u ++ x ∷ []) log l early)

pub adds-moves : (v : List Line) (p : Nib) (l : Line) → p.right ≡ may_write → MayAdd v p.key l → Moves IsKept shown moved 0 (v, (p, None)) stays (AddsLine (step 0 0 0 l) (v, (p, None)))
adds-moves v p l right may cs log kept pre away =
    let low = (away right).0 in
    let gone = (away right).1 in
    let set = slice_set cs 0 (stays (cell cs 0).0, true) in
    let now = slice_set set p.key (p.value, true) in
    let kept' = added v p l right may cs log kept pre gone now (λ j h. set-keeps set p.key p.value j (set-keeps cs 0 (stays (cell cs 0).0) j h)) (set-brings set p.key p.value (within-set cs 0 p.key (stays (cell cs 0).0, true) low)) in
    (home-within cs 0 kept.word, kept.word, (gives, l ∷ [], None, right, kept', inl (refl, refl), (log, refl, pre, exact cs log v p.key kept pre gone)))
