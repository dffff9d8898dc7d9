-- A fault of the automaton is the fault of the table, and the other way round.
use Rattle.std.proofs.Common.{◌≡◌, refl, ap, sym, subst, ◌∙◌, ◌+◌, ◌++◌, ℕ, List, [], ◌∷◌, length, take, drop, false, arith, append_assoc, length-append}
use Rattle.std.proofs.lemmas.List.{append-nil}
use Rattle.std.proofs.Math.Seq.{drop-append_seam, take-append_seam}
use Rattle.std.specs.Prelude.{Result, Ok, Err, IfOk, IfErr}
use Rattle.ets_term.specs.declared.term.Term.{Term}
use Rattle.ets_term.specs.declared.term.Term.TheVariants.{Int, Atom}
use Rattle.term_text.specs.declared.fault.TextFault.{TextFault}
use Rattle.term_text.specs.declared.fault.TextFault.TheVariants.{Unexpected, Unclosed, OutOfRange, TooDeep, AtomTooLong, Memory}
use Rattle.term_text.specs.inside.Reader.{OpenBracket, integer, Mode, number, name, wants, Reading, reads_on, found, fails, with_sign, put, next, take_byte, end_in_mode, end_after_term, read_from, reading}
use Rattle.term_text.specs.Prefixes.{state, so_far, HasNoFault, CanReachTerm}
use Rattle.term_text.specs.Faults.{FaultMeans, IsFaultAt, CanBeCompleted, EndsEarly, IsFault, IsFaultOrMemory}
use Rattle.term_text.specs.Reading.{ReaderReturns}
use Rattle.term_text.specs.Grammar.{Front}
use Rattle.term_text.proofs.Prefixes.{goes-on, stuck, read-append}
use Rattle.term_text.proofs.Offsets.{read-fails, read-found}
use Rattle.term_text.proofs.FaultRows.{range-reported, depth-reported, atom-reported}
use Rattle.term_text.proofs.Meaning.{MeansIn, Means}
use Rattle.term_text.proofs.Sound.{next-holds, sound}
use Rattle.term_text.proofs.Spelled.{front-read}

continues : (bs : List ℕ) → CanReachTerm bs → CanBeCompleted bs
continues bs (more, t, n, e) = (more, t, n, sound (bs ++ more) t n e)

-- a text that can be completed has no fault
not-stuck : (bs : List ℕ) (f : TextFault) → so_far bs ≡ fails f → CanBeCompleted bs → ⊥
not-stuck bs f e (more, t, n, front) = no-fault t n f (sym (front-read (bs ++ more) t n front) ∙ stuck bs f more e)
  where
    no-fault : (t : Term) (n : ℕ) (f : TextFault) → found t n ≡ fails f → ⊥
    no-fault t n f e = cc

state-more : (at : ℕ) (s : Reading) (pre : List ℕ) (b : ℕ) → state at s (pre ++ b ∷ []) ≡ take_byte (at + length pre) (state at s pre) b
state-more at s [] b = ap (λ (k : ℕ). take_byte k s b) (omega arith)
state-more at s (c ∷ pre) b = state-more (at + 1) (take_byte at s c) pre b ∙ ap (λ (k : ℕ). take_byte k (state (at + 1) (take_byte at s c) pre) b) (omega arith)

next-state : (pre : List ℕ) (mode : Mode) (os : List OpenBracket) (b : ℕ) → so_far pre ≡ reads_on mode os → so_far (pre ++ b ∷ []) ≡ next (length pre) mode os b
next-state pre mode os b e = state-more 0 (reads_on (wants false) []) pre b ∙ ap (λ (k : ℕ). take_byte k (so_far pre) b) (omega arith) ∙ ap (λ (s : Reading). take_byte (length pre) s b) e

same-fault : (f h : TextFault) → fails f ≡ fails h → f ≡ h
same-fault f h e = cc

not-found : (t : Term) (n : ℕ) (f : TextFault) → found t n ≡ fails f → ⊥
not-found t n f e = cc

end_after_term-fault : (at : ℕ) (os : List OpenBracket) (t : Term) (f : TextFault) → end_after_term at (put os t at) ≡ fails f → f ≡ Unclosed at
end_after_term-fault at [] t f e = absurd (not-found t at f e)
end_after_term-fault at (o ∷ os) t f e = sym (same-fault (Unclosed at) f e)

end-fault : (at : ℕ) (mode : Mode) (os : List OpenBracket) (f : TextFault) → end_in_mode at mode os ≡ fails f → f ≡ Unclosed at
end-fault at (number (integer below) start n) os f e = end_after_term-fault at os (Int (with_sign below n)) f e
end-fault at (name start cs) os f e = end_after_term-fault at os (Atom cs) f e
end-fault at mode os f e = sym (same-fault (Unclosed at) f e)

fault-free-so : (pre : List ℕ) (mode : Mode) (os : List OpenBracket) → so_far pre ≡ reads_on mode os → HasNoFault (so_far pre)
fault-free-so pre mode os e = subst HasNoFault (sym e) tt

-- the last byte of a text, and the bytes before it
same-front : (xs ys : List ℕ) (a b : ℕ) → xs ++ a ∷ [] ≡ ys ++ b ∷ [] → xs ≡ ys
same-front xs ys a b e =
    let l = ap length e in
    let n : length xs ≡ length ys = omega (arith, l, length-append xs (a ∷ []), length-append ys (b ∷ [])) in
    sym (take-append_seam xs (a ∷ [])) ∙ ap (λ (w : List ℕ). take (length xs) w) e ∙ ap (λ (k : ℕ). take k (ys ++ b ∷ [])) n ∙ take-append_seam ys (b ∷ [])

same-last : (xs ys : List ℕ) (a b : ℕ) → xs ++ a ∷ [] ≡ ys ++ b ∷ [] → a ≡ b
same-last xs ys a b e =
    let l = ap length e in
    let n : length xs ≡ length ys = omega (arith, l, length-append xs (a ∷ []), length-append ys (b ∷ [])) in
    let tails : a ∷ [] ≡ b ∷ [] = sym (drop-append_seam xs (a ∷ [])) ∙ ap (λ (w : List ℕ). drop (length xs) w) e ∙ ap (λ (k : ℕ). drop k (ys ++ b ∷ [])) n ∙ drop-append_seam ys (b ∷ []) in
    one a b tails
  where
    one : (a b : ℕ) → a ∷ [] ≡ b ∷ [] → a ≡ b
    one a b e = cc

says-here : (pre : List ℕ) (b : ℕ) (f : TextFault) → Means (pre ++ b ∷ []) (fails f) → FaultMeans pre b f
says-here pre b f (p, c, e, h) =
    let P : List ℕ → Type 0 = λ w. FaultMeans w b f in
    let Q : ℕ → Type 0 = λ x. FaultMeans p x f in
    subst P (sym (same-front pre p b c e)) (subst Q (sym (same-last pre p b c e)) h)

other-range : (at start : ℕ) → fails (Unexpected at) ≡ fails (OutOfRange start) → ⊥
other-range at start e = cc

other-depth : (at n : ℕ) → fails (Unexpected at) ≡ fails (TooDeep n) → ⊥
other-depth at n e = cc

other-atom : (at start : ℕ) → fails (Unexpected at) ≡ fails (AtomTooLong start) → ⊥
other-atom at start e = cc

-- a fault at a byte
at-byte : (pre : List ℕ) (b : ℕ) (bs : List ℕ) (f : TextFault) → HasNoFault (so_far pre) → so_far (pre ++ b ∷ []) ≡ fails f → FaultMeans pre b f → IsFault (pre ++ b ∷ bs) f
at-byte pre b bs (Unclosed at) h e s = absurd s
at-byte pre b bs Memory h e s = absurd s
at-byte pre b bs (Unexpected at) h e s =
    let here : reading (pre ++ b ∷ bs) ≡ fails (Unexpected at) = ap reading (sym (append_assoc pre (b ∷ []) bs)) ∙ stuck (pre ++ b ∷ []) (Unexpected at) bs e in
    record {
      pre = pre;
      b = b;
      rest = bs;
      whole = refl;
      before = continues pre (goes-on pre h);
      after = not-stuck (pre ++ b ∷ []) (Unexpected at) e;
      fault = (s, λ start r. other-range at start (sym here ∙ range-reported pre b start bs r), λ d. other-depth at (length pre) (sym here ∙ depth-reported pre b bs d), λ start a. other-atom at start (sym here ∙ atom-reported pre b start bs a));
    }
at-byte pre b bs (OutOfRange at) h e s = record { pre = pre; b = b; rest = bs; whole = refl; before = continues pre (goes-on pre h); after = not-stuck (pre ++ b ∷ []) (OutOfRange at) e; fault = s }
at-byte pre b bs (TooDeep at) h e s = record { pre = pre; b = b; rest = bs; whole = refl; before = continues pre (goes-on pre h); after = not-stuck (pre ++ b ∷ []) (TooDeep at) e; fault = s }
at-byte pre b bs (AtomTooLong at) h e s = record { pre = pre; b = b; rest = bs; whole = refl; before = continues pre (goes-on pre h); after = not-stuck (pre ++ b ∷ []) (AtomTooLong at) e; fault = s }

-- a text with a fault does not begin with a term
no-front : (text : List ℕ) (f : TextFault) → reading text ≡ fails f → (t : Term) (n : ℕ) → Front text t n → ⊥
no-front text f e t n front = not-found t n f (sym (front-read text t n front) ∙ e)

reading-from : (pre bs : List ℕ) (mode : Mode) (os : List OpenBracket) → so_far pre ≡ reads_on mode os → reading (pre ++ bs) ≡ read_from (length pre) (reads_on mode os) bs
reading-from pre bs mode os e = read-append 0 (reads_on (wants false) []) pre bs ∙ ap (λ (s : Reading). read_from (0 + length pre) s bs) e ∙ ap (λ (k : ℕ). read_from k (reads_on mode os) bs) (omega arith)

abbrev FaultBehind : List ℕ → TextFault → Type 0
FaultBehind bs f = (pre : List ℕ) (mode : Mode) (os : List OpenBracket) → MeansIn pre mode os → so_far pre ≡ reads_on mode os → read_from (length pre) (reads_on mode os) bs ≡ fails f → IsFault (pre ++ bs) f

step-fault : (z : Reading) (bs pre : List ℕ) (b : ℕ) (mode : Mode) (os : List OpenBracket) (f : TextFault) → FaultBehind bs f → so_far pre ≡ reads_on mode os → next (length pre) mode os b ≡ z → Means (pre ++ b ∷ []) z → read_from (length pre + 1) z bs ≡ fails f → IsFault (pre ++ b ∷ bs) f
step-fault (reads_on m2 os2) bs pre b mode os f after e is meaning r =
    let P : List ℕ → Type 0 = λ w. IsFault w f in
    subst P (append_assoc pre (b ∷ []) bs) (after (pre ++ b ∷ []) m2 os2 meaning (next-state pre mode os b e ∙ is) (ap (λ (k : ℕ). read_from k (reads_on m2 os2) bs) (length-append pre (b ∷ [])) ∙ r))
step-fault (found t n) bs pre b mode os f after e is meaning r = absurd (not-found t n f (sym (read-found (length pre + 1) t n bs) ∙ r))
step-fault (fails g) bs pre b mode os f after e is meaning r =
    let same : g ≡ f = same-fault g f (sym (read-fails (length pre + 1) g bs) ∙ r) in
    let P : TextFault → Type 0 = λ x. IsFault (pre ++ b ∷ bs) x in
    subst P same (at-byte pre b bs g (fault-free-so pre mode os e) (next-state pre mode os b e ∙ is) (says-here pre b g meaning))

pub read-fault : (bs : List ℕ) (f : TextFault) → FaultBehind bs f
read-fault [] f pre mode os h e r =
    let is : f ≡ Unclosed (length pre) = end-fault (length pre) mode os f r in
    let P : TextFault → Type 0 = λ g. IsFault (pre ++ []) g in
    let Q : List ℕ → Type 0 = λ w. EndsEarly w (length pre) in
    let none = no-front pre f (ap reading (sym (append-nil pre)) ∙ reading-from pre [] mode os e ∙ r) in
    subst P (sym is) (subst Q (sym (append-nil pre)) (record { length_is = refl; before = continues pre (goes-on pre (fault-free-so pre mode os e)); none = none }))
read-fault (b ∷ bs) f pre mode os h e r = step-fault (next (length pre) mode os b) bs pre b mode os f (read-fault bs f) e refl (next-holds (length pre) mode os pre b refl h).meaning r

-- Each fault of the automaton meets its row.
pub row-holds : (text : List ℕ) (f : TextFault) → reading text ≡ fails f → IsFault text f
row-holds text f e = read-fault text f [] (wants false) [] (128, (refl, refl)) refl e

-- what a state without a result says of the text so far
not-reading-found : (t : Term) (n : ℕ) (mode : Mode) (os : List OpenBracket) → found t n ≡ reads_on mode os → ⊥
not-reading-found t n mode os e = cc

not-reading-fails : (f : TextFault) (mode : Mode) (os : List OpenBracket) → fails f ≡ reads_on mode os → ⊥
not-reading-fails f mode os e = cc

state-found : (at : ℕ) (t : Term) (n : ℕ) (bs : List ℕ) → state at (found t n) bs ≡ found t n
state-found at t n [] = refl
state-found at t n (b ∷ bs) = state-found (at + 1) t n bs

state-fails : (at : ℕ) (f : TextFault) (bs : List ℕ) → state at (fails f) bs ≡ fails f
state-fails at f [] = refl
state-fails at f (b ∷ bs) = state-fails (at + 1) f bs

abbrev SaidGoing : List ℕ → Reading → Type 0
SaidGoing pre (reads_on mode os) = MeansIn pre mode os
SaidGoing pre (found t n) = Unit {0}
SaidGoing pre (fails f) = Unit {0}

abbrev MeansBehind : List ℕ → Type 0
MeansBehind bs = (pre : List ℕ) (mode : Mode) (os : List OpenBracket) → MeansIn pre mode os → (m2 : Mode) (os2 : List OpenBracket) → state (length pre) (reads_on mode os) bs ≡ reads_on m2 os2 → MeansIn (pre ++ bs) m2 os2

byte-means : (z : Reading) (bs pre : List ℕ) (b : ℕ) → MeansBehind bs → Means (pre ++ b ∷ []) z → (m2 : Mode) (os2 : List OpenBracket) → state (length pre + 1) z bs ≡ reads_on m2 os2 → MeansIn (pre ++ b ∷ bs) m2 os2
byte-means (reads_on m3 os3) bs pre b after meaning m2 os2 e =
    let P : List ℕ → Type 0 = λ w. MeansIn w m2 os2 in
    subst P (append_assoc pre (b ∷ []) bs) (after (pre ++ b ∷ []) m3 os3 meaning m2 os2 (ap (λ (k : ℕ). state k (reads_on m3 os3) bs) (length-append pre (b ∷ [])) ∙ e))
byte-means (found t n) bs pre b after meaning m2 os2 e = absurd (not-reading-found t n m2 os2 (sym (state-found (length pre + 1) t n bs) ∙ e))
byte-means (fails f) bs pre b after meaning m2 os2 e = absurd (not-reading-fails f m2 os2 (sym (state-fails (length pre + 1) f bs) ∙ e))

means-after : (bs : List ℕ) → MeansBehind bs
means-after [] pre mode os h m2 os2 e =
    let P : List ℕ → Type 0 = λ w. MeansIn w m2 os2 in
    subst P (sym (append-nil pre)) (subst (SaidGoing pre) e h)
means-after (b ∷ bs) pre mode os h m2 os2 e = byte-means (next (length pre) mode os b) bs pre b (means-after bs) (next-holds (length pre) mode os pre b refl h).meaning m2 os2 e

means-so-far : (pre : List ℕ) (mode : Mode) (os : List OpenBracket) → so_far pre ≡ reads_on mode os → MeansIn pre mode os
means-so-far pre mode os e = means-after pre [] (wants false) [] (128, (refl, refl)) mode os e

-- The automaton reports each fault whose row the text meets.
only-unexpected : (pre : List ℕ) (b at : ℕ) (f : TextFault) → FaultMeans pre b f → IsFaultAt pre b (Unexpected at) → f ≡ Unexpected at
only-unexpected pre b at (Unexpected n) s fault = ap Unexpected (s ∙ sym fault.0)
only-unexpected pre b at (Unclosed n) s fault = absurd s
only-unexpected pre b at (OutOfRange n) s fault = absurd (fault.1 n s)
only-unexpected pre b at (TooDeep n) s fault = absurd (fault.2 s.1)
only-unexpected pre b at (AtomTooLong n) s fault = absurd (fault.3 n s)
only-unexpected pre b at Memory s fault = absurd s

goes-further : (bs : List ℕ) (mode : Mode) (os : List OpenBracket) → so_far bs ≡ reads_on mode os → CanBeCompleted bs
goes-further bs mode os e = continues bs (goes-on bs (fault-free-so bs mode os e))

has-found : (bs : List ℕ) (t : Term) (n : ℕ) → so_far bs ≡ found t n → CanBeCompleted bs
has-found bs t n e = continues bs (goes-on bs (subst HasNoFault (sym e) tt))

byte-reported : (z : Reading) (pre : List ℕ) (b at : ℕ) (rest : List ℕ) → so_far (pre ++ b ∷ []) ≡ z → Means (pre ++ b ∷ []) z → (CanBeCompleted (pre ++ b ∷ []) → ⊥) → IsFaultAt pre b (Unexpected at) → reading (pre ++ b ∷ rest) ≡ fails (Unexpected at)
byte-reported (reads_on mode os) pre b at rest e meaning after fault = absurd (after (goes-further (pre ++ b ∷ []) mode os e))
byte-reported (found t n) pre b at rest e meaning after fault = absurd (after (has-found (pre ++ b ∷ []) t n e))
byte-reported (fails f) pre b at rest e meaning after fault =
    ap reading (sym (append_assoc pre (b ∷ []) rest)) ∙ stuck (pre ++ b ∷ []) f rest e ∙ ap fails (only-unexpected pre b at f (says-here pre b f meaning) fault)

found-more : (pre : List ℕ) (b : ℕ) (t : Term) (n : ℕ) → so_far pre ≡ found t n → so_far (pre ++ b ∷ []) ≡ found t n
found-more pre b t n e = state-more 0 (reads_on (wants false) []) pre b ∙ ap (λ (s : Reading). take_byte (0 + length pre) s b) e

unexpected-reported : (z : Reading) (pre : List ℕ) (b at : ℕ) (rest : List ℕ) → so_far pre ≡ z → CanBeCompleted pre → (CanBeCompleted (pre ++ b ∷ []) → ⊥) → IsFaultAt pre b (Unexpected at) → reading (pre ++ b ∷ rest) ≡ fails (Unexpected at)
unexpected-reported (reads_on mode os) pre b at rest e before after fault =
    byte-reported (next (length pre) mode os b) pre b at rest (next-state pre mode os b e) (next-holds (length pre) mode os pre b refl (means-so-far pre mode os e)).meaning after fault
unexpected-reported (found t n) pre b at rest e before after fault = absurd (after (has-found (pre ++ b ∷ []) t n (found-more pre b t n e)))
unexpected-reported (fails f) pre b at rest e before after fault = absurd (not-stuck pre f e before)

end_after_term-not-reading : (at : ℕ) (os : List OpenBracket) (t : Term) (m2 : Mode) (os2 : List OpenBracket) → end_after_term at (put os t at) ≡ reads_on m2 os2 → ⊥
end_after_term-not-reading at [] t m2 os2 e = not-reading-found t at m2 os2 e
end_after_term-not-reading at (o ∷ os) t m2 os2 e = not-reading-fails (Unclosed at) m2 os2 e

end-not-reading : (at : ℕ) (mode : Mode) (os : List OpenBracket) (m2 : Mode) (os2 : List OpenBracket) → end_in_mode at mode os ≡ reads_on m2 os2 → ⊥
end-not-reading at (number (integer below) start n) os m2 os2 e = end_after_term-not-reading at os (Int (with_sign below n)) m2 os2 e
end-not-reading at (name start cs) os m2 os2 e = end_after_term-not-reading at os (Atom cs) m2 os2 e
end-not-reading at mode os m2 os2 e = not-reading-fails (Unclosed at) m2 os2 e

end-reported : (z : Reading) (text : List ℕ) (mode : Mode) (os : List OpenBracket) → end_in_mode (length text) mode os ≡ z → reading text ≡ z → ((t : Term) (n : ℕ) → Front text t n → ⊥) → reading text ≡ fails (Unclosed (length text))
end-reported (reads_on m2 os2) text mode os e r none = absurd (end-not-reading (length text) mode os m2 os2 e)
end-reported (found t n) text mode os e r none = absurd (none t n (sound text t n r))
end-reported (fails f) text mode os e r none = r ∙ ap fails (end-fault (length text) mode os f e)

reading-end : (text : List ℕ) (mode : Mode) (os : List OpenBracket) → so_far text ≡ reads_on mode os → reading text ≡ end_in_mode (length text) mode os
reading-end text mode os e = ap reading (sym (append-nil text)) ∙ reading-from text [] mode os e

unclosed-reported : (z : Reading) (text : List ℕ) → so_far text ≡ z → CanBeCompleted text → ((t : Term) (n : ℕ) → Front text t n → ⊥) → reading text ≡ fails (Unclosed (length text))
unclosed-reported (reads_on mode os) text e before none = end-reported (end_in_mode (length text) mode os) text mode os refl (reading-end text mode os e) none
unclosed-reported (found t n) text e before none =
    absurd (none t n (sound text t n (ap reading (sym (append-nil text)) ∙ read-append 0 (reads_on (wants false) []) text [] ∙ ap (λ (s : Reading). read_from (0 + length text) s []) e)))
unclosed-reported (fails f) text e before none = absurd (not-stuck text f e before)

pub reported : (text : List ℕ) (f : TextFault) → IsFault text f → reading text ≡ fails f
reported text (Unclosed at) h = unclosed-reported (so_far text) text refl h.before h.none ∙ ap (λ (n : ℕ). fails (Unclosed n)) (sym h.length_is)
reported text (Unexpected at) h = ap reading h.whole ∙ unexpected-reported (so_far h.pre) h.pre h.b at h.rest refl h.before h.after h.fault
reported text (OutOfRange at) h = ap reading h.whole ∙ range-reported h.pre h.b at h.rest h.fault
reported text (TooDeep at) h = ap reading h.whole ∙ depth-reported h.pre h.b h.rest h.fault.1 ∙ ap (λ (n : ℕ). fails (TooDeep n)) (sym h.fault.0)
reported text (AtomTooLong at) h = ap reading h.whole ∙ atom-reported h.pre h.b at h.rest h.fault
reported text Memory h = absurd h.fault

-- a call that returns the result of the automaton returns a term at the front of the text, or the fault of the text
pub returned-front : (text : List ℕ) (r : Result (Term × ℕ) TextFault) → ReaderReturns (reading text) r → IfOk r (λ (x : Term × ℕ). Front text x.0 x.1)
returned-front text (Ok x) e = sound text x.0 x.1 e
returned-front text (Err f) e = tt

pub returned-fault : (text : List ℕ) (r : Result (Term × ℕ) TextFault) → ReaderReturns (reading text) r → IfErr r (λ (f : TextFault). IsFaultOrMemory text f)
returned-fault text (Ok x) e = tt
returned-fault text (Err Memory) e = tt
returned-fault text (Err (Unexpected at)) e = row-holds text (Unexpected at) e
returned-fault text (Err (Unclosed at)) e = row-holds text (Unclosed at) e
returned-fault text (Err (OutOfRange at)) e = row-holds text (OutOfRange at) e
returned-fault text (Err (TooDeep at)) e = row-holds text (TooDeep at) e
returned-fault text (Err (AtomTooLong at)) e = row-holds text (AtomTooLong at) e
