-- What private contracts say of the reasons that are written.
use Rattle.std.specs.Prelude.{◌≡◌, ℕ, Bool, true, false, List, [], ◌++◌, Option, Some, None, codes, decimal}
use Rattle.node_reasons.specs.Diagnostics.{diagnostic_text}
use Rattle.node_reasons.specs.declared.diagnostic.Diagnostic.{Diagnostic}
use Rattle.ets_packets.specs.declared.output.Output.{Output}
use Rattle.ets_packets.specs.Output.{Breaks, Fails, Adds, Sends, buffered_bytes, writer_flow}
use Rattle.ets_script.specs.declared.why_writer.WhyWriter.{WhyWriter}

-- the number of a line, its reason, and an LF
abbrev pub reason_line : ℕ → List ℕ → List ℕ
reason_line number reason = codes "line " ++ (decimal number ++ (codes ": " ++ (reason ++ codes "\n")))

-- A text is printed, or the writer fails at it. Once the writer has failed, nothing changes.
abbrev pub PrintsTillFault : {E : Type 0} → (E → Option (List ℕ)) → Bool → Bool → Output E → Output E → List ℕ → Type 0
PrintsTillFault contents true has_failed old new text = (has_failed ≡ true) × (new ≡ old)
PrintsTillFault contents false false old new text = Adds contents old new text
PrintsTillFault contents false true old new text = Fails contents old new text

-- The buffered text is written, or the writer fails at it. Once the writer has failed, nothing changes.
abbrev pub SendsTillFault : {E : Type 0} → (E → Option (List ℕ)) → Bool → Bool → Output E → Output E → Type 0
SendsTillFault contents true has_failed old new = (has_failed ≡ true) × (new ≡ old)
SendsTillFault contents false false old new =
    Sends (writer_flow contents old new) (buffered_bytes old) (buffered_bytes new) × (buffered_bytes new ≡ [])
SendsTillFault contents false true old new = Breaks (writer_flow contents old new) (buffered_bytes old)

abbrev pub WritesText : {E : Type 0} → (E → Option (List ℕ)) → WhyWriter E → WhyWriter E → List ℕ → Type 0
WritesText contents old new text = PrintsTillFault contents old.has_failed new.has_failed old.output new.output text

abbrev pub WritesAll : {E : Type 0} → (E → Option (List ℕ)) → WhyWriter E → WhyWriter E → Type 0
WritesAll contents old new = SendsTillFault contents old.has_failed new.has_failed old.output new.output

-- nothing was written or buffered
abbrev pub KeepsOutput : {E : Type 0} → WhyWriter E → WhyWriter E → Type 0
KeepsOutput old new = (new.output ≡ old.output) × (new.has_failed ≡ old.has_failed)

-- the reason of a line, if there is one, is written
abbrev pub WritesReason : {E : Type 0} → (E → Option (List ℕ)) → WhyWriter E → WhyWriter E → ℕ → Option Diagnostic → Type 0
WritesReason contents old new number None = KeepsOutput old new
WritesReason contents old new number (Some diagnostic) =
    WritesText contents old new (reason_line number (diagnostic_text diagnostic))

-- the reason that a line has by this rule is written
abbrev pub WritesWhy : {E : Type 0} → (E → Option (List ℕ)) → WhyWriter E → WhyWriter E → ℕ → (Option Diagnostic → Type 0) → Type 0
WritesWhy contents old new number Explains =
    (reason : Option Diagnostic) × Explains reason × WritesReason contents old new number reason
