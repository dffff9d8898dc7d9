-- Lines after a beginning of a log, and what they leave of turns and histories.
use Rattle.std.proofs.Common.{◌≡◌, ℕ, ◌==◌, ◌&&◌, Bool, true, false, List, [], ◌∷◌, ◌++◌, filter, if◌then◌else◌, Option, None, Some, refl, sym, ap, ◌∙◌, append_assoc, arith}
use Rattle.std.proofs.lemmas.Bool.Decides.{nat_tests}
use Rattle.std.proofs.lemmas.List.{append-nil}
use Rattle.std.proofs.lemmas.List.Elements.{filter-append}
use mathlib.Core.List.{IsPrefix}
use Rattle.logbook.specs.Pages.{Cell, cell}
use Rattle.node_shared.specs.declared.entry.Entry.{Entry}
use Rattle.node_shared.specs.declared.history.rule.Line.{Line}
use Rattle.node_shared.specs.Journal.{is_entry_of, entries_of}
use Rattle.node_shared.proofs.Prefixes.{prefix_trans}
use Rattle.node_shared.specs.inside.Lines.{Tag, of_server, of_process, is_of, key_of, turn_from, first_of, turn_of, server_of, Without, entry_if, has_entry_of, history_of, IsHome, IsKept, Since, IsNew}

-- ---- turns
turn-append : (t : Tag) (k : Option ℕ) (xs ys : List Line) → turn_from t k (xs ++ ys) ≡ turn_from t (turn_from t k xs) ys
turn-append t k [] ys = refl
turn-append t k (x ∷ xs) ys = turn-append t (if is_of t x then Some (key_of t x) else k) xs ys

pub turn-snoc : (t : Tag) (m : List Line) (l : Line) (b : Bool) → is_of t l ≡ b → turn_of t (m ++ l ∷ []) ≡ (if b then Some (key_of t l) else turn_of t m)
turn-snoc t m l b is = turn-append t (first_of t) m (l ∷ []) ∙ ap (λ (c : Bool). if c then Some (key_of t l) else turn_of t m) is

without-turn : (t : Tag) (k : Option ℕ) (rest : List Line) → Without t rest → turn_from t k rest ≡ k
without-turn t k [] none = refl
without-turn t k (l ∷ ls) none = ap (λ (c : Bool). turn_from t (if c then Some (key_of t l) else k) ls) none.0 ∙ without-turn t k ls none.1

pub since-turn : (t : Tag) (m log : List Line) → Since t m log → turn_of t log ≡ turn_of t m
since-turn t m log s =
    ap (turn_of t) (sym s.1) ∙ (turn-append t (first_of t) m s.0 ∙ without-turn t (turn_of t m) s.0 s.2)

false-and : (a b : Bool) → a ≡ false → (a && b) ≡ false
false-and true b e = absurd (cc e)
false-and false b e = refl

-- a line of a process is one of its server
pub without-own : (t : Tag) (rest : List Line) → Without (server_of t) rest → Without t rest
without-own (of_server r) rest none = none
without-own (of_process r p) [] none = tt
without-own (of_process r p) (l ∷ ls) none = (false-and (r == l.chain) (has_entry_of p l.entry) none.0, without-own (of_process r p) ls none.1)

pub since-own : (t : Tag) (m log : List Line) → Since (server_of t) m log → Since t m log
since-own t m log s = (s.0, s.1, without-own t s.0 s.2)

-- ---- while a pen is away whose turn it is, no line is added
pub idle : (cs : List Cell) (log : List Line) → IsKept cs log → (t : Tag) (key : ℕ) → (cell cs key).1 ≡ false → (m rest : List Line) → m ++ rest ≡ log
    → turn_of t m ≡ Some key → Without t rest
idle cs log kept t key away m [] e at = tt
idle cs log kept t key away m (l ∷ ls) e at = by (is_of t l) refl (λ at. idle cs log kept t key away (m ++ l ∷ []) ls whole at)
  where
    whole : (m ++ l ∷ []) ++ ls ≡ log
    whole = append_assoc m (l ∷ []) ls ∙ e

    by : (b : Bool) → is_of t l ≡ b → (turn_of t (m ++ l ∷ []) ≡ Some key → Without t ls) → Without t (l ∷ ls)
    by true is more =
        let home : IsHome cs key = kept.spent t m l key (ls, whole) is at in
        let both : true ≡ false = sym home ∙ away in absurd (cc both)
    by false is more = (is, more (turn-snoc t m l false is ∙ at))

-- ---- histories
pub history-append : (r : ℕ) (xs ys : List Line) → history_of r (xs ++ ys) ≡ history_of r xs ++ history_of r ys
history-append r [] ys = refl
history-append r (x ∷ xs) ys =
    ap (λ (es : List Entry). entry_if (r == x.chain) x.entry ++ es) (history-append r xs ys) ∙ sym (append_assoc (entry_if (r == x.chain) x.entry) (history_of r xs) (history_of r ys))

pub history-prefix : (r : ℕ) (xs ys : List Line) → IsPrefix xs ys → IsPrefix (history_of r xs) (history_of r ys)
history-prefix r xs ys p = (history_of r p.0, sym (history-append r xs p.0) ∙ ap (history_of r) p.1)

history-without : (r : ℕ) (rest : List Line) → Without (of_server r) rest → history_of r rest ≡ []
history-without r [] none = refl
history-without r (l ∷ ls) none = ap (λ (b : Bool). entry_if b l.entry ++ history_of r ls) none.0 ∙ history-without r ls none.1

pub since-history : (r : ℕ) (m log : List Line) → Since (of_server r) m log → history_of r log ≡ history_of r m
since-history r m log s =
    ap (history_of r) (sym s.1)
    ∙ (history-append r m s.0 ∙ (ap (λ (es : List Entry). history_of r m ++ es) (history-without r s.0 s.2) ∙ append-nil (history_of r m)))

no-entry : (p : ℕ) (b : Bool) (o : Option Entry) → (b && has_entry_of p o) ≡ false → filter (is_entry_of p) (entry_if b o) ≡ []
no-entry p true None e = refl
no-entry p true (Some x) e = ap (λ (c : Bool). if c then x ∷ [] else []) e
no-entry p false o e = refl

own-without : (r p : ℕ) (rest : List Line) → Without (of_process r p) rest → entries_of p (history_of r rest) ≡ []
own-without r p [] none = refl
own-without r p (l ∷ ls) none =
    filter-append (is_entry_of p) (entry_if (r == l.chain) l.entry) (history_of r ls)
    ∙ (ap (λ (es : List Entry). es ++ entries_of p (history_of r ls)) (no-entry p (r == l.chain) l.entry none.0) ∙ own-without r p ls none.1)

pub since-entries : (r p : ℕ) (m log : List Line) → Since (of_process r p) m log → entries_of p (history_of r log) ≡ entries_of p (history_of r m)
since-entries r p m log s =
    ap (λ (ls : List Line). entries_of p (history_of r ls)) (sym s.1)
    ∙ (ap (entries_of p) (history-append r m s.0)
    ∙ (filter-append (is_entry_of p) (history_of r m) (history_of r s.0)
    ∙ (ap (λ (es : List Entry). entries_of p (history_of r m) ++ es) (own-without r p s.0 s.2) ∙ append-nil (entries_of p (history_of r m)))))

pub entries-prefix : (p : ℕ) (xs ys : List Entry) → IsPrefix xs ys → IsPrefix (entries_of p xs) (entries_of p ys)
entries-prefix p xs ys pre = (entries_of p pre.0, sym (filter-append (is_entry_of p) xs pre.0) ∙ ap (entries_of p) pre.1)

-- entries of a process that were among others still are among more
pub own-within : (p : ℕ) (own xs ys : List Entry) → IsPrefix own (entries_of p xs) → IsPrefix xs ys → IsPrefix own (entries_of p ys)
own-within p own xs ys has pre = prefix_trans own (entries_of p xs) (entries_of p ys) has (entries-prefix p xs ys pre)

append-none : {A : Type 0} (xs ys : List A) → xs ++ ys ≡ [] → (xs ≡ []) × (ys ≡ [])
append-none [] ys e = (refl, e)
append-none (x ∷ xs) ys e = absurd (cc e)

none-entry : (p : ℕ) (b : Bool) (o : Option Entry) → filter (is_entry_of p) (entry_if b o) ≡ [] → (b && has_entry_of p o) ≡ false
none-entry p true None e = refl
none-entry p true (Some x) e = by (is_entry_of p x) e
  where
    by : (c : Bool) → (if c then x ∷ [] else []) ≡ [] → c ≡ false
    by true e = absurd (cc e)
    by false e = refl
none-entry p false o e = refl

pub none-own : (r p : ℕ) (m : List Line) → entries_of p (history_of r m) ≡ [] → Without (of_process r p) m
none-own r p [] none = tt
none-own r p (l ∷ ls) none =
    let both = append-none (filter (is_entry_of p) (entry_if (r == l.chain) l.entry)) (entries_of p (history_of r ls)) (sym (filter-append (is_entry_of p) (entry_if (r == l.chain) l.entry) (history_of r ls)) ∙ none) in
    (none-entry p (r == l.chain) l.entry both.0, none-own r p ls both.1)

pub none-turn : (r p : ℕ) (m : List Line) → entries_of p (history_of r m) ≡ [] → turn_of (of_process r p) m ≡ None
none-turn r p m none = without-turn (of_process r p) None m (none-own r p m none)

pub without-new : (r : ℕ) (log : List Line) → Without (of_server r) log → IsNew r log
without-new r log none = (without-turn (of_server r) (Some r) log none, history-without r log none)

pub same-number : (r : ℕ) → (r == r) ≡ true
same-number r = grind (arith, nat_tests)
