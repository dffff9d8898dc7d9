-- The states of the reader after it has read some bytes, and the terms that it can still find.
use Rattle.std.specs.Prelude.{◌≡◌, ℕ, ◌+◌, List, [], ◌∷◌, ◌++◌, false}
use Rattle.ets_term.specs.declared.term.Term.{Term}
use Rattle.term_text.specs.inside.Reader.{wants, Reading, reads_on, found, fails, take_byte, reading}

-- the state after some bytes, the first of which is at an offset, from the state before
abbrev pub state : ℕ → Reading → List ℕ → Reading
state at s [] = s
state at s (b ∷ bs) = state (at + 1) (take_byte at s b) bs

-- the state after the first bytes of a text
abbrev pub so_far : List ℕ → Reading
so_far bs = state 0 (reads_on (wants false) []) bs

-- the state has no fault
abbrev pub HasNoFault : Reading → Type 0
HasNoFault (reads_on mode os) = Unit {0}
HasNoFault (found t n) = Unit {0}
HasNoFault (fails f) = ⊥

-- the bytes can be completed to a text that is read as a term
abbrev pub CanReachTerm : List ℕ → Type 0
CanReachTerm bs = (more : List ℕ) × (t : Term) × (n : ℕ) × (reading (bs ++ more) ≡ found t n)
