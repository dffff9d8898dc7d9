-- Lines that are added: whose turn it is for them, and what they leave.
use Rattle.std.proofs.Common.{◌≡◌, inl, inr, ⊎_elim, ℕ, ◌==◌, ◌&&◌, Bool, true, false, List, [], ◌∷◌, ◌++◌, None, Some, refl, sym, ap, subst, ◌∙◌, arith}
use Rattle.std.proofs.lemmas.Bool.Decides.{nat_tests}
use Rattle.std.proofs.lemmas.List.{append-nil}
use mathlib.Core.List.{IsPrefix}
use Rattle.node_shared.specs.declared.entry.Entry.{Entry}
use Rattle.node_shared.specs.declared.history.rule.Line.{Line}
use Rattle.node_shared.specs.Journal.{entries_of}
use Rattle.node_shared.specs.inside.Lines.{of_server, of_process, turn_of, entry_if, has_entry_of, history_of, IsExact, IsSpent, MayAdd, MayEnter, IsAdded}
use Rattle.node_shared.proofs.Lines.{turn-snoc, since-turn, history-append, history-prefix, since-history, since-entries, none-turn, same-number}

and-both : (a b : Bool) → (a && b) ≡ true → (a ≡ true) × (b ≡ true)
and-both true b e = (refl, e)
and-both false b e = absurd (cc e)

same-chain : (q r : ℕ) (l : Line) → l.chain ≡ r → (q == l.chain) ≡ true → r ≡ q
same-chain q r l on is = let e : q ≡ l.chain = grind (arith, nat_tests) in sym (e ∙ on)

pub may-add : (r key : ℕ) (s m v : List Line) (l : Line) → l.chain ≡ r → IsPrefix s v → IsPrefix m v → turn_of (of_server r) s ≡ Some key
    → ((p : ℕ) → has_entry_of p l.entry ≡ true → MayEnter r p s m key) → MayAdd v key l
may-add r key s m v l on early own_early at own (of_server q) is =
    (s, early, inl (subst (λ (i : ℕ). turn_of (of_server i) s ≡ Some key) (same-chain q r l on is) at))
may-add r key s m v l on early own_early at own (of_process q p) is =
    let both = and-both (q == l.chain) (has_entry_of p l.entry) is in
    let same = same-chain q r l on both.0 in
    ⊎_elim
    (λ (h : turn_of (of_process r p) m ≡ Some key). (m, own_early, inl (subst (λ (i : ℕ). turn_of (of_process i p) m ≡ Some key) same h)))
    (λ (h : entries_of p (history_of r s) ≡ []). (s, early, inr (subst (λ (i : ℕ). turn_of (of_server i) s ≡ Some key) same at, subst (λ (i : ℕ). turn_of (of_process i p) s ≡ None) same (none-turn r p s h))))
    (own p both.1)

pub no-own : (r p key : ℕ) (s m : List Line) → has_entry_of p None ≡ true → MayEnter r p s m key
no-own r p key s m h = absurd (cc h)

-- what a pen tells of the server of which it had the turn
module _ (r key : ℕ) (s v log : List Line) (early : IsPrefix s v) (at : turn_of (of_server r) s ≡ Some key) (exact : IsExact v key log) where
  pub so-far : history_of r log ≡ history_of r s
  so-far = since-history r s log (exact (of_server r) s early at)

  pub so-before : IsPrefix v log → IsPrefix (history_of r v) (history_of r s)
  so-before later = subst (λ (es : List Entry). IsPrefix (history_of r v) es) so-far (history-prefix r v log later)

  pub so-own : (p : ℕ) (m : List Line) → IsPrefix m v → turn_of (of_process r p) m ≡ Some key → entries_of p (history_of r s) ≡ entries_of p (history_of r m)
  so-own p m own_early its = ap (entries_of p) (sym so-far) ∙ since-entries r p m log (exact (of_process r p) m own_early its)

module _ (r key : ℕ) (s v new : List Line) (l : Line) (on : l.chain ≡ r) (early : IsPrefix s v) (at : turn_of (of_server r) s ≡ Some key) (did : IsAdded v key l new) where
  is-on : (r == l.chain) ≡ true
  is-on = ap (λ (i : ℕ). r == i) on ∙ same-number r

  one : history_of r (l ∷ []) ≡ entry_if true l.entry
  one = ap (λ (b : Bool). entry_if b l.entry ++ []) is-on ∙ append-nil (entry_if true l.entry)

  pub added-all : history_of r new ≡ history_of r s ++ entry_if true l.entry
  added-all =
      ap (history_of r) did.1
      ∙ (history-append r did.0 (l ∷ [])
      ∙ (ap (λ (es : List Entry). es ++ history_of r (l ∷ [])) (so-far r key s v did.0 early at did.3) ∙ ap (λ (es : List Entry). history_of r s ++ es) one))

  pub added-next : turn_of (of_server r) new ≡ Some l.next
  added-next = ap (turn_of (of_server r)) did.1 ∙ turn-snoc (of_server r) did.0 l true is-on

  pub added-spent : IsSpent key new
  added-spent =
      (of_server r, did.0, l, ([], append-nil (did.0 ++ l ∷ []) ∙ sym did.1), is-on, since-turn (of_server r) s did.0 (did.3 (of_server r) s early at) ∙ at)

  pub added-own : (p : ℕ) → has_entry_of p l.entry ≡ true → turn_of (of_process r p) new ≡ Some l.own
  added-own p its = ap (turn_of (of_process r p)) did.1 ∙ turn-snoc (of_process r p) did.0 l true (ap (λ (b : Bool). b && has_entry_of p l.entry) is-on ∙ its)

  pub added-before : IsPrefix (history_of r v) (history_of r s)
  added-before = so-before r key s v did.0 early at did.3 did.2

  pub added-exact : (p : ℕ) (m : List Line) → IsPrefix m v → turn_of (of_process r p) m ≡ Some key → entries_of p (history_of r s) ≡ entries_of p (history_of r m)
  added-exact = so-own r key s v did.0 early at did.3
