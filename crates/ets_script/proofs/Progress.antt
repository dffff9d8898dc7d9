-- A script on its way: the lines so far and their answers.
use Rattle.std.proofs.Common.{◌≡◌, ℕ, suc, ◌<◌, ◌⊎◌, Bool, true, false, List, [], ◌++◌, length, take, drop, refl, sym, ap, ◌∙◌, subst, arith, Option, inl, inr, append-nil, append_assoc, length-append}
use Rattle.std.specs.Io.KnownBytes.{Consumes, prepend_known}
use Rattle.ets_packets.specs.Output.{Sends}
use Rattle.ets_packets.proofs.KnownBytes.{between, sends-on, sends-more, sends-none, same-known}
use Rattle.ets_script.specs.Lines.{Line, IsOneLine}
use Rattle.ets_script.specs.Replies.{answer_text}
use Rattle.ets_script.specs.Script.{ScriptState, AnswersLine, AreWholeLines}
use Rattle.ets_script.specs.inside.LineBuffers.{LineBufferState, rest_of, Refills, PassedOver, EndsLine, Stays, IsPassed, Waits}
use Rattle.ets_script.specs.declared.answer.Answer.{Answer}
use Rattle.ets_script.proofs.KnownBytes.{nothing-buffered, read-more, taken-front, the_none, consumes-buffered}
use Rattle.ets_script.proofs.BufferedLines.{both-one-line, one-line-of}
use Rattle.ets_script.proofs.AnsweredLines.{then-line}

-- the lines so far and their answers, of which some still wait; of a line that is too long a part was passed over
pub record Progress (start : ScriptState) (before old : Option (List ℕ)) (buffered : LineBufferState) (left : Option (List ℕ)) (pending : List ℕ) (new : Option (List ℕ)) (now : ScriptState) : Type 0 where
  pub input : List ℕ
  pub out : List ℕ
  pub skipped : List ℕ
  pub lines : AreWholeLines start input out now
  pub passed : PassedOver buffered.is_skipping skipped
  pub consumed : Consumes before (rest_of buffered left) (input ++ skipped)
  pub sent : Sends (between old new) out pending

pub progress-start : (s : ScriptState) (buffered : LineBufferState) (left : Option (List ℕ)) (pending : List ℕ) (w : Option (List ℕ)) → pending ≡ [] → buffered.bytes ≡ [] → buffered.is_skipping ≡ false → Progress s left w buffered left pending w s
progress-start s buffered left pending w none empty whole = record {
  input = [];
  out = [];
  skipped = [];
  lines = (0, (refl, refl, refl));
  passed = subst (λ (b : Bool). PassedOver b the_none) (sym whole) refl;
  consumed = subst (λ (l : Option (List ℕ)). Consumes left l []) (sym (ap (λ k. prepend_known k left) empty ∙ nothing-buffered left)) (same-known left);
  sent = subst (λ (p : List ℕ). Sends (between w w) [] p) (sym none) (sends-none w []);
}

-- a line was answered, and an LF ended it
pub progress-line : (start s1 s2 : ScriptState) (before old w1 w2 : Option (List ℕ)) (h1 h2 : LineBufferState) (left : Option (List ℕ)) (p1 p2 : List ℕ) (n : ℕ) (line : Line) (answer : Answer) → Progress start before old h1 left p1 w1 s1
    → EndsLine h1.bytes h1.is_skipping n line → AnswersLine s1 line answer s2 → Sends (between w1 w2) (p1 ++ answer_text answer) p2 → h2.bytes ≡ drop n h1.bytes → h2.is_skipping ≡ false → Progress start before old h2 left p2 w2 s2
progress-line start s1 s2 before old w1 w2 h1 h2 left p1 p2 n line answer g ends answers sent buffered whole =
    let bytes = g.skipped ++ take n h1.bytes in
    record {
      input = g.input ++ bytes;
      out = g.out ++ answer_text answer;
      skipped = [];
      lines = (suc g.lines.0, then-line g.lines.0 start s1 s2 g.input g.out bytes (answer_text answer) ⊥ g.lines.1 (record { line = line; answer = answer; is_line = ends g.skipped g.passed; answers = answers; prints = refl }));
      passed = subst (λ (b : Bool). PassedOver b the_none) (sym whole) refl;
      consumed = subst (λ (k : List ℕ). Consumes before (rest_of h2 left) k) (append_assoc g.input g.skipped (take n h1.bytes) ∙ sym (append-nil (g.input ++ bytes)))
          (subst (λ (k : List ℕ). Consumes before (prepend_known k left) ((g.input ++ g.skipped) ++ take n h1.bytes)) (sym buffered) (taken-front before (g.input ++ g.skipped) h1.bytes n left g.consumed));
      sent = sends-more old w1 w2 g.out p1 (answer_text answer) p2 g.sent sent;
    }

-- more is needed to find the end of the line
pub progress-wait : (start now : ScriptState) (before old w : Option (List ℕ)) (h1 h2 : LineBufferState) (left : Option (List ℕ)) (p : List ℕ) → Progress start before old h1 left p w now → IsOneLine h1.bytes → Waits h1 h2 → Progress start before old h2 left p w now
progress-wait start now before old w h1 h2 left p g one waits = kept waits.kept
  where
    kept : Stays h1 h2 ⊎ IsPassed h1 h2
        → Progress start before old h2 left p w now
    kept (inl (same, was, is)) = record {
      input = g.input;
      out = g.out;
      skipped = g.skipped;
      lines = g.lines;
      passed = subst (λ (b : Bool). PassedOver b g.skipped) (was ∙ sym is) g.passed;
      consumed = subst (λ (k : List ℕ). Consumes before (prepend_known k left) (g.input ++ g.skipped)) (sym same) g.consumed;
      sent = g.sent;
    }
    kept (inr (none, is, long)) = record {
      input = g.input;
      out = g.out;
      skipped = g.skipped ++ h1.bytes;
      lines = g.lines;
      passed = subst (λ (b : Bool). PassedOver b (g.skipped ++ h1.bytes)) (sym is)
          (both-one-line g.skipped h1.bytes (one-line-of h1.is_skipping g.skipped g.passed) one, enough long);
      consumed = subst (λ (k : List ℕ). Consumes before (prepend_known k left) (g.input ++ (g.skipped ++ h1.bytes))) (sym none)
          (subst (λ (k : List ℕ). Consumes before (prepend_known the_none left) k) (append_assoc g.input g.skipped h1.bytes)
          (subst (λ (l : Option (List ℕ)). Consumes before l ((g.input ++ g.skipped) ++ h1.bytes)) (sym (nothing-buffered left)) (consumes-buffered before left (g.input ++ g.skipped) h1.bytes g.consumed)));
      sent = g.sent;
    }
      where
        enough : (h1.is_skipping ≡ true) ⊎ (65536 < length h1.bytes) → 65536 < length (g.skipped ++ h1.bytes)
        enough (inl was) = let lt = (subst (λ (b : Bool). PassedOver b g.skipped) was g.passed).1 in omega (arith, lt, length-append g.skipped h1.bytes)
        enough (inr lt) = omega (arith, lt, length-append g.skipped h1.bytes)

-- the buffered text went out
pub progress-flush : (start now : ScriptState) (before old w1 w2 : Option (List ℕ)) (h : LineBufferState) (left : Option (List ℕ)) (p1 p2 : List ℕ) → Progress start before old h left p1 w1 now → Sends (between w1 w2) p1 p2 → Progress start before old h left p2 w2 now
progress-flush start now before old w1 w2 h left p1 p2 g sent = record {
  input = g.input;
  out = g.out;
  skipped = g.skipped;
  lines = g.lines;
  passed = g.passed;
  consumed = g.consumed;
  sent = sends-on old w1 w2 g.out p1 p2 g.sent sent;
}

pub progress-refill : (start now : ScriptState) (before old w : Option (List ℕ)) (h1 h2 : LineBufferState) (l1 l2 : Option (List ℕ)) (p : List ℕ) (n : ℕ) → Progress start before old h1 l1 p w now → Refills h1 h2 (between l1 l2) n → Progress start before old h2 l2 p w now
progress-refill start now before old w h1 h2 l1 l2 p n g r = record {
  input = g.input;
  out = g.out;
  skipped = g.skipped;
  lines = g.lines;
  passed = subst (λ (b : Bool). PassedOver b g.skipped) (sym r.skipping) g.passed;
  consumed = read-more before (g.input ++ g.skipped) h1.bytes h2.bytes r.more l1 l2 g.consumed r.added r.consumed;
  sent = g.sent;
}

-- the buffered text went out, and more was read
pub progress-read : (start now : ScriptState) (before old w1 w2 : Option (List ℕ)) (h1 h2 h3 : LineBufferState) (l1 l2 : Option (List ℕ)) (p1 p2 : List ℕ) (n : ℕ) → Progress start before old h1 l1 p1 w1 now → IsOneLine h1.bytes
    → Sends (between w1 w2) p1 p2 → Waits h1 h2 → Refills h2 h3 (between l1 l2) n → Progress start before old h3 l2 p2 w2 now
progress-read start now before old w1 w2 h1 h2 h3 l1 l2 p1 p2 n g one sent waits r =
    progress-refill start now before old w2 h2 h3 l1 l2 p2 n (progress-wait start now before old w2 h1 h2 l1 p2 (progress-flush start now before old w1 w2 h1 l1 p1 p2 g sent) one waits) r
