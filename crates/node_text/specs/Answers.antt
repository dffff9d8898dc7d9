-- What a call of the interface returns.
use Rattle.std.specs.Prelude.{◌≡◌, ℕ, ℤ, ◌⊎◌, List, ◌++◌, length, take, drop, min, Option, Some, None, codes}
use Rattle.node_core.specs.declared.step.Reply.{Reply}
use Rattle.node_core.specs.declared.step.Reply.TheVariants.{Value, Badarg, SystemLimit, NoProcess}
use Rattle.ets_term.specs.declared.term.Term.{Term}
use Rattle.node_reasons.specs.Words.{reason_text}
use Rattle.node_reasons.specs.SyntaxWords.{problem_text}
use Rattle.node_text.specs.ExternalWords.{words_of}
use Rattle.node_text.specs.declared.last_refusal.LastRefusal.{LastRefusal}
use Rattle.node_text.specs.declared.last_refusal.LastRefusal.TheVariants.{Broken, Syntax, External, NoMemory}
use Rattle.node_text.specs.declared.status.TheConstants as is

-- the status, the length, and the bytes of the caller's buffer before and after the call
pub record WrittenReply : Type 0 where
  pub status : ℤ
  pub len : ℕ
  pub before : List ℕ
  pub after : List ℕ

abbrev pub written_reply : ℤ → ℕ → List ℕ → List ℕ → WrittenReply
written_reply status len before after = record { status = status; len = len; before = before; after = after }

abbrev pub status_of : Reply → ℤ
status_of (Value t) = is.VALUE
status_of Badarg = is.BADARG
status_of SystemLimit = is.SYSTEM_LIMIT
status_of NoProcess = is.NO_PROCESS

-- a buffer after as much of a text as fits was copied to its front; the rest is as before
abbrev pub overwrite_prefix : List ℕ → List ℕ → List ℕ
overwrite_prefix text out = take (min (length text) (length out)) text ++ drop (min (length text) (length out)) out

-- a status and a number are returned, and the buffer stays as it was
abbrev pub WritesNumber : ℤ → ℕ → WrittenReply → Type 0
WritesNumber status len t = (t.status ≡ status) × (t.len ≡ len) × (t.after ≡ t.before)

-- returns only a status
abbrev pub WritesNothing : ℤ → WrittenReply → Type 0
WritesNothing status = WritesNumber status 0

-- A text is returned: its length, and as much of it as fits. Or memory ran out for the text.
abbrev pub WritesText : List ℕ → WrittenReply → Type 0
WritesText text t =
    ((t.status ≡ is.VALUE) × (t.len ≡ length text) × (t.after ≡ overwrite_prefix text t.before)) ⊎ WritesNothing is.UNTOLD t

-- what is returned for a reply, whose term has these bytes
abbrev pub WritesReply : (Term → List ℕ) → Reply → WrittenReply → Type 0
WritesReply bytes_of (Value t) = WritesText (bytes_of t)
WritesReply bytes_of Badarg = WritesNothing is.BADARG
WritesReply bytes_of SystemLimit = WritesNothing is.SYSTEM_LIMIT
WritesReply bytes_of NoProcess = WritesNothing is.NO_PROCESS

-- the text of a refusal
abbrev pub refusal_text : LastRefusal → List ℕ
refusal_text (Broken reason) = reason_text reason
refusal_text (Syntax problem) = problem_text problem
refusal_text (External problem) = words_of problem
refusal_text NoMemory = codes "out of memory"

-- what is returned for why a call was refused: nothing if it was not
abbrev pub WritesReason : Option LastRefusal → WrittenReply → Type 0
WritesReason None = WritesNothing is.VALUE
WritesReason (Some refusal) = WritesText (refusal_text refusal)
