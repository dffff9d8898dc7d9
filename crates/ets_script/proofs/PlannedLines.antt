-- Lines that were planned, one after another.
use Rattle.std.proofs.Common.{◌≡◌, ℕ, ◌<◌, ◌⊎◌, Bool, true, false, List, [], ◌∷◌, ◌++◌, length, take, drop, refl, sym, ap, ◌∙◌, subst, arith, Option, inl, inr, append-nil, append_assoc, length-append}
use Rattle.std.specs.Prelude.{⊤}
use Rattle.std.specs.Io.KnownBytes.{Consumes, prepend_known}
use Rattle.ets_packets.proofs.KnownBytes.{between, same-known}
use Rattle.ets_script.specs.Lines.{Line, text, too_long, IsOneLine, IsLine, IsCutInto}
use Rattle.ets_script.specs.Plan.{PlanState, line_plan, lines_plan}
use Rattle.ets_script.specs.inside.LineBuffers.{LineBufferState, rest_of, Refills, PassedOver, EndsLine, Stays, IsPassed, Waits}
use Rattle.ets_script.specs.inside.PlanCodes.{LimitedPlanState}
use Rattle.ets_script.specs.inside.Planning.{with_line, with_lines, last_line, AreWhole, PlansAll}
use Rattle.ets_script.proofs.KnownBytes.{nothing-buffered, read-more, taken-front, the_none, consumes-buffered}
use Rattle.ets_script.proofs.BufferedLines.{weaker-line, none-or-some, one-line-of, both-one-line, Ended}

-- a line after lines
plan-then : (max_names : ℕ) (lines : List Line) (line : Line) (plan : PlanState) → lines_plan max_names (lines ++ line ∷ []) plan ≡ line_plan max_names line (lines_plan max_names lines plan)
plan-then max_names [] line plan = refl
plan-then max_names (first ∷ lines) line plan = plan-then max_names lines line (line_plan max_names first plan)

-- after whole lines one that is whole, the last, or none
then-whole : (input bytes : List ℕ) (lines : List Line) (line : Line) → AreWhole input lines → IsLine bytes line ⊥ → AreWhole (input ++ bytes) (lines ++ line ∷ [])
then-whole input bytes [] line none is = (bytes, [], ap (λ k. k ++ bytes) none ∙ sym (append-nil bytes), is, refl)
then-whole input bytes (first ∷ lines) line (front, rest, parts, whole, more) is =
    (front, rest ++ bytes, ap (λ k. k ++ bytes) parts ∙ append_assoc front rest bytes, whole, then-whole rest bytes lines line more is)

then-last : (input bytes : List ℕ) (lines : List Line) (line : Line) → AreWhole input lines → IsLine bytes line ⊤ → IsCutInto (input ++ bytes) (lines ++ line ∷ [])
then-last input bytes [] line none is = (bytes, [], ap (λ k. k ++ bytes) none ∙ sym (append-nil bytes), weaker-line bytes line ⊤ (the_none ≡ the_none) (λ _. refl) is, refl)
then-last input bytes (first ∷ lines) line (front, rest, parts, whole, more) is =
    (front, rest ++ bytes, ap (λ k. k ++ bytes) parts ∙ append_assoc front rest bytes, weaker-line front first ⊥ (rest ++ bytes ≡ []) (λ z. absurd z) whole, then-last rest bytes lines line more is)

all-whole : (input : List ℕ) (lines : List Line) → AreWhole input lines → IsCutInto input lines
all-whole input [] none = none
all-whole input (first ∷ lines) (front, rest, parts, whole, more) = (front, rest, parts, weaker-line front first ⊥ (rest ≡ []) (λ z. absurd z) whole, all-whole rest lines more)

-- the lines so far; of a line that is too long a part was passed over
pub record Planning (start : LimitedPlanState) (before : Option (List ℕ)) (buffered : LineBufferState) (left : Option (List ℕ)) (now : LimitedPlanState) : Type 0 where
  pub input : List ℕ
  pub skipped : List ℕ
  pub lines : List Line
  pub whole : AreWhole input lines
  pub passed : PassedOver buffered.is_skipping skipped
  pub consumed : Consumes before (rest_of buffered left) (input ++ skipped)
  pub planned : now ≡ with_lines lines start

pub planning-start : (s : LimitedPlanState) (buffered : LineBufferState) (left : Option (List ℕ)) → buffered.bytes ≡ [] → buffered.is_skipping ≡ false → Planning s left buffered left s
planning-start s buffered left empty whole = record {
  input = [];
  skipped = [];
  lines = [];
  whole = refl;
  passed = subst (λ (b : Bool). PassedOver b the_none) (sym whole) refl;
  consumed = subst (λ (l : Option (List ℕ)). Consumes left l []) (sym (ap (λ k. prepend_known k left) empty ∙ nothing-buffered left)) (same-known left);
  planned = refl;
}

planned-then : (start s1 s2 : LimitedPlanState) (lines : List Line) (line : Line) → s1 ≡ with_lines lines start → s2 ≡ with_line line s1 → s2 ≡ with_lines (lines ++ line ∷ []) start
planned-then start s1 s2 lines line p q = q ∙ ap (λ (s : LimitedPlanState). with_line line s) p ∙ sym (ap (λ (k : PlanState). record start { plan = k }) (plan-then start.max_names lines line start.plan))

-- a line was added, and an LF ended it
pub planning-line : (start s1 s2 : LimitedPlanState) (before : Option (List ℕ)) (h1 h2 : LineBufferState) (left : Option (List ℕ)) (n : ℕ) (line : Line) → Planning start before h1 left s1 → EndsLine h1.bytes h1.is_skipping n line
    → s2 ≡ with_line line s1 → h2.bytes ≡ drop n h1.bytes → h2.is_skipping ≡ false → Planning start before h2 left s2
planning-line start s1 s2 before h1 h2 left n line g ends plans buffered whole =
    let bytes = g.skipped ++ take n h1.bytes in
    record {
      input = g.input ++ bytes;
      skipped = [];
      lines = g.lines ++ line ∷ [];
      whole = then-whole g.input bytes g.lines line g.whole (ends g.skipped g.passed);
      passed = subst (λ (b : Bool). PassedOver b the_none) (sym whole) refl;
      consumed = subst (λ (k : List ℕ). Consumes before (rest_of h2 left) k) (append_assoc g.input g.skipped (take n h1.bytes) ∙ sym (append-nil (g.input ++ bytes)))
          (subst (λ (k : List ℕ). Consumes before (prepend_known k left) ((g.input ++ g.skipped) ++ take n h1.bytes)) (sym buffered) (taken-front before (g.input ++ g.skipped) h1.bytes n left g.consumed));
      planned = planned-then start s1 s2 g.lines line g.planned plans;
    }

-- more is needed to find the end of the line
planning-wait : (start now : LimitedPlanState) (before : Option (List ℕ)) (h1 h2 : LineBufferState) (left : Option (List ℕ)) → Planning start before h1 left now → IsOneLine h1.bytes → Waits h1 h2 → Planning start before h2 left now
planning-wait start now before h1 h2 left g one waits = kept waits.kept
  where
    kept : Stays h1 h2 ⊎ IsPassed h1 h2 → Planning start before h2 left now
    kept (inl (same, was, is)) = record {
      input = g.input;
      skipped = g.skipped;
      lines = g.lines;
      whole = g.whole;
      passed = subst (λ (b : Bool). PassedOver b g.skipped) (was ∙ sym is) g.passed;
      consumed = subst (λ (k : List ℕ). Consumes before (prepend_known k left) (g.input ++ g.skipped)) (sym same) g.consumed;
      planned = g.planned;
    }
    kept (inr (none, is, long)) = record {
      input = g.input;
      skipped = g.skipped ++ h1.bytes;
      lines = g.lines;
      whole = g.whole;
      passed = subst (λ (b : Bool). PassedOver b (g.skipped ++ h1.bytes)) (sym is)
          (both-one-line g.skipped h1.bytes (one-line-of h1.is_skipping g.skipped g.passed) one, enough long);
      consumed = subst (λ (k : List ℕ). Consumes before (prepend_known k left) (g.input ++ (g.skipped ++ h1.bytes))) (sym none)
          (subst (λ (k : List ℕ). Consumes before (prepend_known the_none left) k) (append_assoc g.input g.skipped h1.bytes)
          (subst (λ (l : Option (List ℕ)). Consumes before l ((g.input ++ g.skipped) ++ h1.bytes)) (sym (nothing-buffered left)) (consumes-buffered before left (g.input ++ g.skipped) h1.bytes g.consumed)));
      planned = g.planned;
    }
      where
        enough : (h1.is_skipping ≡ true) ⊎ (65536 < length h1.bytes) → 65536 < length (g.skipped ++ h1.bytes)
        enough (inl was) = let lt = (subst (λ (b : Bool). PassedOver b g.skipped) was g.passed).1 in omega (arith, lt, length-append g.skipped h1.bytes)
        enough (inr lt) = omega (arith, lt, length-append g.skipped h1.bytes)

-- more was read
pub planning-read : (start s1 s2 : LimitedPlanState) (before : Option (List ℕ)) (h1 h2 h3 : LineBufferState) (l1 l2 : Option (List ℕ)) (n : ℕ) → Planning start before h1 l1 s1 → s2 ≡ s1 → IsOneLine h1.bytes → Waits h1 h2 → Refills h2 h3 (between l1 l2) n
    → Planning start before h3 l2 s2
planning-read start s1 s2 before h1 h2 h3 l1 l2 n progress same one waits r =
    let g = planning-wait start s1 before h1 h2 l1 progress one waits in
    record {
      input = g.input;
      skipped = g.skipped;
      lines = g.lines;
      whole = g.whole;
      passed = subst (λ (b : Bool). PassedOver b g.skipped) (sym r.skipping) g.passed;
      consumed = read-more before (g.input ++ g.skipped) h2.bytes h3.bytes r.more l1 l2 g.consumed r.added r.consumed;
      planned = same ∙ g.planned;
    }

-- the bytes in the buffer at the end of the input were added as the last line, which has no LF, or were none
pub planning-end : (start s1 s2 : LimitedPlanState) (before : Option (List ℕ)) (h : LineBufferState) (left : Option (List ℕ)) → Planning start before h left s1 → Ended h left → s2 ≡ with_line (last_line h.is_skipping h.bytes) s1 → PlansAll start (between before left) s2
planning-end start s1 s2 before h left g e last =
    let input = g.input ++ (g.skipped ++ h.bytes) in
    let cut = cut_so h.is_skipping g.passed e.skipping last in
    (input, cut.0, subst (λ (k : List ℕ). Consumes before left k) (append_assoc g.input g.skipped h.bytes) (consumes-buffered before left (g.input ++ g.skipped) h.bytes g.consumed), e.end, cut.1, cut.2)
  where
    Cut : Type 0
    Cut = (lines : List Line) × IsCutInto (g.input ++ (g.skipped ++ h.bytes)) lines × (s2 ≡ with_lines lines start)

    cut_text : g.skipped ≡ [] → s2 ≡ with_line (text h.bytes) s1 → (h.bytes ≡ []) ⊎ (0 < length h.bytes) → Cut
    cut_text passed is (inl none) = (
      g.lines,
      subst (λ (k : List ℕ). IsCutInto k g.lines) (sym (ap (λ k. g.input ++ k) (ap (λ k. k ++ h.bytes) passed ∙ none) ∙ append-nil g.input)) (all-whole g.input g.lines g.whole),
      is ∙ ap (λ (k : List ℕ). with_line (text k) s1) none ∙ g.planned,
    )
    cut_text passed is (inr some) = (
      g.lines ++ text h.bytes ∷ [],
      then-last g.input (g.skipped ++ h.bytes) g.lines (text h.bytes) g.whole (subst (λ (k : List ℕ). IsLine k (text h.bytes) ⊤) (ap (λ k. k ++ h.bytes) (sym passed)) (h.bytes, e.one_line, e.short, inr (refl, some, tt, refl))),
      planned-then start s1 s2 g.lines (text h.bytes) g.planned is,
    )

    cut_so : (skips : Bool) → PassedOver skips g.skipped → (skips ≡ true → h.bytes ≡ []) → s2 ≡ with_line (last_line skips h.bytes) s1 → Cut
    cut_so true passed none is = (
      g.lines ++ too_long ∷ [],
      then-last g.input (g.skipped ++ h.bytes) g.lines too_long g.whole
          (subst (λ (k : List ℕ). IsLine (g.skipped ++ k) too_long ⊤) (sym (none refl)) (g.skipped, passed.0, passed.1, inr (append-nil g.skipped, long_some passed.1, tt))),
      planned-then start s1 s2 g.lines too_long g.planned is,
    )
      where
        long_some : 65536 < length g.skipped → 0 < length g.skipped
        long_some long = omega (arith, long)
    cut_so false passed none is = cut_text passed is (none-or-some h.bytes)
