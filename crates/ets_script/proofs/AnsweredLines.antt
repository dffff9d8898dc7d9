-- Lines that were answered, one after another.
use Rattle.std.proofs.Common.{◌≡◌, ℕ, zero, suc, ◌≤◌, ◌<◌, ◌⊎◌, Bool, true, false, List, [], ◌++◌, length, refl, sym, ap, ◌∙◌, subst, arith, inl, inr, append-nil, append_assoc}
use Rattle.ets_script.specs.Lines.{text, too_long, IsOneLine}
use Rattle.ets_script.specs.Replies.{answer_text}
use Rattle.ets_script.specs.Script.{ScriptState, AnswersLine, IsAnswered, ScriptText, AreLines}
use Rattle.ets_script.specs.inside.LineBuffers.{PassedOver}
use Rattle.ets_script.specs.inside.Answered.{AnswersPart}
use Rattle.ets_script.specs.declared.answer.Answer.{Answer}
use Rattle.ets_script.proofs.KnownBytes.{the_none}
use Rattle.ets_script.proofs.BufferedLines.{none-or-some, weaker-line}

weaker : (old new : ScriptState) (bytes output : List ℕ) (L M : Type 0) → (L → M) → IsAnswered old bytes output new L → IsAnswered old bytes output new M
weaker old new bytes output L M f a = record { line = a.line; answer = a.answer; is_line = weaker-line bytes a.line L M f a.is_line; answers = a.answers; prints = a.prints }

pub none-is : the_none ≡ the_none
none-is = refl

-- a line after whole lines
pub then-line : (n : ℕ) (a b c : ScriptState) (input out bytes output : List ℕ) (M : Type 0) → ScriptText n ⊥ a input out b → IsAnswered b bytes output c M → ScriptText (suc n) M a (input ++ bytes) (out ++ output) c
then-line zero a b c input out bytes output M (i, o, s) x = (
  c,
  bytes,
  [],
  output,
  [],
  ap (λ k. k ++ bytes) i ∙ sym (append-nil bytes),
  ap (λ k. k ++ output) o ∙ sym (append-nil output),
  subst (λ (z : ScriptState). IsAnswered z bytes output c ((the_none ≡ the_none) × M)) s (weaker b c bytes output M ((the_none ≡ the_none) × M) (λ m. (none-is, m)) x),
  (refl, refl, refl),
)
then-line (suc n) a b c input out bytes output M (mid, first, rest, answer, others, i, o, x, more) y = (
  mid,
  first,
  rest ++ bytes,
  answer,
  others ++ output,
  ap (λ k. k ++ bytes) i ∙ append_assoc first rest bytes,
  ap (λ k. k ++ output) o ∙ append_assoc answer others output,
  weaker a mid first answer ((rest ≡ []) × ⊥) ((rest ++ bytes ≡ []) × M) (λ z. absurd z.1) x,
  then-line n mid b c rest others bytes output M more y,
)

pub no-more : (n : ℕ) (a b : ScriptState) (input out : List ℕ) (M : Type 0) → ScriptText n ⊥ a input out b → ScriptText n M a input out b
no-more zero a b input out M w = w
no-more (suc n) a b input out M (mid, first, rest, answer, others, i, o, x, more) =
    (mid, first, rest, answer, others, i, o, weaker a mid first answer ((rest ≡ []) × ⊥) ((rest ≡ []) × M) (λ z. absurd z.1) x, no-more n mid b rest others M more)

-- the input ended in a line that is too long
last-long : (start s1 s2 : ScriptState) (n : ℕ) (input out skipped bytes : List ℕ) (answer : Answer) (M : Type 0) → M → ScriptText n ⊥ start input out s1 → IsOneLine skipped → 65536 < length skipped → bytes ≡ []
    → AnswersLine s1 too_long answer s2 → AreLines M start (input ++ (skipped ++ bytes)) (out ++ answer_text answer) s2
last-long start s1 s2 n input out skipped bytes answer M m lines one long none answers = (
  suc n,
  subst (λ (k : List ℕ). ScriptText (suc n) M start (input ++ k) (out ++ answer_text answer) s2) (sym (append-nil skipped) ∙ ap (λ k. skipped ++ k) (sym none))
      (then-line n start s1 s2 input out skipped (answer_text answer) M lines
      (record { line = too_long; answer = answer; is_line = (skipped, one, long, inr (refl, (omega (arith, long)), m)); answers = answers; prints = refl })),
)

-- it ended in a line that has no LF
last-text : (start s1 s2 : ScriptState) (n : ℕ) (input out bytes : List ℕ) (answer : Answer) (M : Type 0) → M → ScriptText n ⊥ start input out s1 → IsOneLine bytes → length bytes ≤ 65536 → 0 < length bytes
    → AnswersLine s1 (text bytes) answer s2 → AreLines M start (input ++ bytes) (out ++ answer_text answer) s2
last-text start s1 s2 n input out bytes answer M m lines one short some answers =
    (suc n, then-line n start s1 s2 input out bytes (answer_text answer) M lines (record { line = text bytes; answer = answer; is_line = (bytes, one, short, inr (refl, some, m, refl)); answers = answers; prints = refl }))

-- it ended after an LF
last-none : (start s1 s2 : ScriptState) (n : ℕ) (input out : List ℕ) (answer : Answer) (M : Type 0) → ScriptText n ⊥ start input out s1 → AnswersLine s1 (text []) answer s2 → AreLines M start input (out ++ answer_text answer) s2
last-none start s1 s2 n input out answer M lines (silent, same) = (
  n,
  subst (λ (k : List ℕ). ScriptText n M start input k s2) (sym (ap (λ (a : Answer). out ++ answer_text a) silent ∙ append-nil out))
      (subst (λ (s : ScriptState). ScriptText n M start input out s) (sym same) (no-more n start s1 input out M lines)),
)

-- the bytes in the buffer at the end of the input are the last line, which has no LF, or none
pub last-lines : (skip : Bool) (start s1 s2 : ScriptState) (n : ℕ) (input out skipped bytes : List ℕ) (answer : Answer) (M : Type 0) → M → ScriptText n ⊥ start input out s1 → PassedOver skip skipped → IsOneLine bytes → length bytes ≤ 65536
    → (skip ≡ true → bytes ≡ []) → AnswersPart skip s1 bytes answer s2 → AreLines M start (input ++ (skipped ++ bytes)) (out ++ answer_text answer) s2
last-lines true start s1 s2 n input out skipped bytes answer M m lines passed one short none answers = last-long start s1 s2 n input out skipped bytes answer M m lines passed.0 passed.1 (none refl) answers
last-lines false start s1 s2 n input out skipped bytes answer M m lines passed one short none answers = ended_so (none-or-some bytes)
  where
    whole : skipped ++ bytes ≡ bytes
    whole = ap (λ k. k ++ bytes) passed

    ended_so : (bytes ≡ []) ⊎ (0 < length bytes) → AreLines M start (input ++ (skipped ++ bytes)) (out ++ answer_text answer) s2
    ended_so (inl empty) =
        subst (λ (k : List ℕ). AreLines M start k (out ++ answer_text answer) s2) (sym (ap (λ k. input ++ k) (whole ∙ empty) ∙ append-nil input))
        (last-none start s1 s2 n input out answer M lines (subst (λ (k : List ℕ). AnswersLine s1 (text k) answer s2) empty answers))
    ended_so (inr some) = subst (λ (k : List ℕ). AreLines M start (input ++ k) (out ++ answer_text answer) s2) (sym whole) (last-text start s1 s2 n input out bytes answer M m lines one short some answers)
