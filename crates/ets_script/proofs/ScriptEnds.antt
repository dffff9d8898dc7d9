-- What has been read and written when a script ends.
use Rattle.std.proofs.Common.{◌≡◌, ℕ, suc, List, [], ◌++◌, take, drop, refl, sym, ap, ◌∙◌, subst, Option, append-nil, append_assoc}
use Rattle.std.specs.Prelude.{⊤, Result, Ok, Err, OnOk, OnErr}
use Rattle.std.specs.Io.KnownBytes.{Appends, Consumes, Keeps, IsAtEnd}
use Rattle.ets_packets.specs.Traffic.{traffic}
use Rattle.ets_packets.specs.Output.{Sends, Breaks}
use Rattle.ets_packets.proofs.KnownBytes.{between, sends-on, breaks-on, breaks-more, appends-same, appends-more, kept-left, same-known}
use Rattle.ets_script.specs.Lines.{Line, IsOneLine}
use Rattle.ets_script.specs.Replies.{answer_text}
use Rattle.ets_script.specs.Script.{ScriptState, AnswersLine, ScriptText, AreLines}
use Rattle.ets_script.specs.Stops.{Stops, Completes}
use Rattle.ets_script.specs.inside.LineBuffers.{LineBufferState, EndsLine, Waits}
use Rattle.ets_script.specs.inside.Answered.{AnswersPart, EndsAll, BreaksAtEnd}
use Rattle.ets_script.specs.declared.answer.Answer.{Answer}
use Rattle.ets_script.specs.declared.fault.ScriptFault.TheVariants as faults
use Rattle.ets_script.proofs.KnownBytes.{taken-front, the_none, consumes-buffered}
use Rattle.ets_script.proofs.AnsweredLines.{last-lines, no-more, none-is, then-line}
use Rattle.ets_script.proofs.BufferedLines.{Ended, both-one-line, one-line-buffered, one-line-of, weaker-line}
use Rattle.ets_script.proofs.Progress.{Progress, progress-flush, progress-wait}

-- the writer failed at the answer to a line
pub broken-line : (start s1 s2 : ScriptState) (before old w1 w2 : Option (List ℕ)) (h1 : LineBufferState) (left : Option (List ℕ)) (p1 : List ℕ) (n : ℕ) (line : Line) (answer : Answer) → Progress start before old h1 left p1 w1 s1
    → EndsLine h1.bytes h1.is_skipping n line → AnswersLine s1 line answer s2 → Breaks (between w1 w2) (p1 ++ answer_text answer) → Stops start (traffic (between before left) (between old w2)) faults.Write
broken-line start s1 s2 before old w1 w2 h1 left p1 n line answer g ends answers broken =
    let bytes = g.skipped ++ take n h1.bytes in
    let b = breaks-more old w1 w2 g.out p1 (answer_text answer) g.sent broken in
    let taken = taken-front before (g.input ++ g.skipped) h1.bytes n left g.consumed in (
      g.input ++ bytes,
      drop n h1.bytes,
      b.sent,
      b.unsent,
      s2,
      subst (λ (k : List ℕ). Consumes before left (k ++ drop n h1.bytes)) (append_assoc g.input g.skipped (take n h1.bytes)) (consumes-buffered before left ((g.input ++ g.skipped) ++ take n h1.bytes) (drop n h1.bytes) taken),
      b.written,
      (
        suc g.lines.0,
        subst (λ (k : List ℕ). ScriptText (suc g.lines.0) ((drop n h1.bytes ≡ []) × IsAtEnd left) start (g.input ++ bytes) k s2) b.parts
            (then-line g.lines.0 start s1 s2 g.input g.out bytes (answer_text answer) ((drop n h1.bytes ≡ []) × IsAtEnd left) g.lines.1
            (record { line = line; answer = answer; is_line = weaker-line bytes line ⊥ ((drop n h1.bytes ≡ []) × IsAtEnd left) (λ z. absurd z) (ends g.skipped g.passed); answers = answers; prints = refl })),
      ),
    )

-- the writer failed before more was read
pub flush-broken : (start now : ScriptState) (before old w1 w2 : Option (List ℕ)) (h : LineBufferState) (left : Option (List ℕ)) (p : List ℕ) → Progress start before old h left p w1 now → Breaks (between w1 w2) p → Stops start (traffic (between before left) (between old w2)) faults.Write
flush-broken start now before old w1 w2 h left p g broken =
    let b = breaks-on old w1 w2 g.out p g.sent broken in
    let M : Type 0 = (g.skipped ++ h.bytes ≡ []) × IsAtEnd left in (
      g.input,
      g.skipped ++ h.bytes,
      b.sent,
      b.unsent,
      now,
      subst (λ (k : List ℕ). Consumes before left k) (append_assoc g.input g.skipped h.bytes) (consumes-buffered before left (g.input ++ g.skipped) h.bytes g.consumed),
      b.written,
      (g.lines.0, subst (λ (k : List ℕ). ScriptText g.lines.0 M start g.input k now) b.parts (no-more g.lines.0 start now g.input g.out M g.lines.1)),
    )

-- the reader failed after the buffered output was written
pub read-failed : (start now : ScriptState) (before old w : Option (List ℕ)) (h : LineBufferState) (l1 l2 : Option (List ℕ)) (p : List ℕ) → Progress start before old h l1 p w now → p ≡ [] → IsOneLine h.bytes → Keeps l1 l2 → Stops start (traffic (between before l2) (between old w)) faults.Read
read-failed start now before old w h l1 l2 p g none one kept =
    let all = subst (λ (k : List ℕ). Sends (between old w) g.out k) none g.sent in (
      g.input,
      g.skipped ++ h.bytes,
      g.out,
      now,
      kept-left before l1 l2 (g.input ++ (g.skipped ++ h.bytes)) (subst (λ (k : List ℕ). Consumes before l1 k) (append_assoc g.input g.skipped h.bytes) (consumes-buffered before l1 (g.input ++ g.skipped) h.bytes g.consumed)) kept,
      both-one-line g.skipped h.bytes (one-line-of h.is_skipping g.skipped g.passed) one,
      subst (λ (k : List ℕ). Appends old w k) (sym (all.parts ∙ append-nil all.sent)) all.written,
      g.lines,
    )

-- the last line was answered, and all went out
pub script-completes : (start s1 s2 : ScriptState) (before old w1 w2 : Option (List ℕ)) (h : LineBufferState) (left : Option (List ℕ)) (p : List ℕ) → Progress start before old h left p w1 s1 → Ended h left → EndsAll h s1 s2 p (between w1 w2) → Completes start s2 (traffic (between before left) (between old w2))
script-completes start s1 s2 before old w1 w2 h left p g e all = (
  g.input ++ (g.skipped ++ h.bytes),
  g.out ++ answer_text all.answer,
  subst (λ (k : List ℕ). Consumes before left k) (append_assoc g.input g.skipped h.bytes) (consumes-buffered before left (g.input ++ g.skipped) h.bytes g.consumed),
  e.end,
  subst (λ (k : List ℕ). Appends old w2 k) (sym (append_assoc g.sent.sent p (answer_text all.answer)) ∙ ap (λ k. k ++ answer_text all.answer) (sym g.sent.parts)) (appends-more old w1 w2 g.sent.sent (p ++ answer_text all.answer) g.sent.written all.written),
  last-lines h.is_skipping start s1 s2 g.lines.0 g.input g.out g.skipped h.bytes all.answer ⊤ tt g.lines.1 g.passed e.one_line e.short e.skipping all.answers,
)

-- the writer failed after the last line
pub end-broken : (start s1 s2 : ScriptState) (before old w1 w2 : Option (List ℕ)) (h : LineBufferState) (left : Option (List ℕ)) (p : List ℕ) → Progress start before old h left p w1 s1 → Ended h left → BreaksAtEnd h s1 s2 p (between w1 w2) → Stops start (traffic (between before left) (between old w2)) faults.Write
end-broken start s1 s2 before old w1 w2 h left p g e all =
    let b = breaks-more old w1 w2 g.out p (answer_text all.answer) g.sent all.broken in
    let M : Type 0 = (the_none ≡ []) × IsAtEnd left in (
      g.input ++ (g.skipped ++ h.bytes),
      [],
      b.sent,
      b.unsent,
      s2,
      subst (λ (k : List ℕ). Consumes before left k) (append_assoc g.input g.skipped h.bytes ∙ sym (append-nil (g.input ++ (g.skipped ++ h.bytes)))) (consumes-buffered before left (g.input ++ g.skipped) h.bytes g.consumed),
      b.written,
      subst (λ (k : List ℕ). AreLines M start (g.input ++ (g.skipped ++ h.bytes)) k s2) b.parts
          (last-lines h.is_skipping start s1 s2 g.lines.0 g.input g.out g.skipped h.bytes all.answer M (none-is, e.end) g.lines.1 g.passed e.one_line e.short e.skipping all.answers),
    )

-- a script that ran out of memory at its start
pub not-begun : (start : ScriptState) (before old : Option (List ℕ)) → Stops start (traffic (between before before) (between old old)) faults.Memory
not-begun start before old = (same-known before, appends-same old)

pub read-broken : (start now : ScriptState) (before old w1 w2 : Option (List ℕ)) (h1 h2 : LineBufferState) (l1 l2 : Option (List ℕ)) (p1 p2 : List ℕ) → Progress start before old h1 l1 p1 w1 now → IsOneLine h1.bytes
    → Sends (between w1 w2) p1 p2 → p2 ≡ [] → Waits h1 h2 → Keeps l1 l2 → Stops start (traffic (between before l2) (between old w2)) faults.Read
read-broken start now before old w1 w2 h1 h2 l1 l2 p1 p2 g one sent none waits kept =
    read-failed start now before old w2 h2 l1 l2 p2 (progress-wait start now before old w2 h1 h2 l1 p2 (progress-flush start now before old w1 w2 h1 l1 p1 p2 g sent) one waits) none (one-line-buffered h1 h2 one waits) kept

-- the last answer was printed, and the buffer is written
pub end-ok : {T E : Type 0} (r : Result T E) (h : LineBufferState) (s1 s2 : ScriptState) (p1 p2 p3 : List ℕ) (w1 w2 w3 : Option (List ℕ)) (answer : Answer) → AnswersPart h.is_skipping s1 h.bytes answer s2 → Sends (between w1 w2) (p1 ++ answer_text answer) p2
    → OnOk r (Sends (between w2 w3) p2 p3) → OnOk r (p3 ≡ []) → OnOk r (EndsAll h s1 s2 p1 (between w1 w3))
end-ok (Ok x) h s1 s2 p1 p2 p3 w1 w2 w3 answer answers printed_so sent none =
    let all = subst (λ (k : List ℕ). Sends (between w1 w3) (p1 ++ answer_text answer) k) none (sends-on w1 w2 w3 (p1 ++ answer_text answer) p2 p3 printed_so sent) in
    record { answer = answer; answers = answers; written = subst (λ (k : List ℕ). Appends w1 w3 k) (sym (all.parts ∙ append-nil all.sent)) all.written }
end-ok (Err e) h s1 s2 p1 p2 p3 w1 w2 w3 answer answers printed_so sent none = tt

pub end-err : {T E : Type 0} (r : Result T E) (h : LineBufferState) (s1 s2 : ScriptState) (p1 p2 : List ℕ) (w1 w2 w3 : Option (List ℕ)) (answer : Answer) → AnswersPart h.is_skipping s1 h.bytes answer s2 → Sends (between w1 w2) (p1 ++ answer_text answer) p2
    → OnErr r (Breaks (between w2 w3) p2) → OnErr r (BreaksAtEnd h s1 s2 p1 (between w1 w3))
end-err (Ok x) h s1 s2 p1 p2 w1 w2 w3 answer answers printed_so broken = tt
end-err (Err e) h s1 s2 p1 p2 w1 w2 w3 answer answers printed_so broken =
    record { answer = answer; answers = answers; broken = breaks-on w1 w2 w3 (p1 ++ answer_text answer) p2 printed_so broken }
