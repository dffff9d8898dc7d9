-- What private contracts say of the bytes that were read and not yet taken.
use Rattle.std.specs.Prelude.{◌≡◌, ℕ, ◌+◌, ◌≤◌, ◌<◌, ◌⊎◌, Bool, true, false, List, [], ◌++◌, length, take, Option, slice_index}
use Rattle.std.specs.Io.KnownBytes.{prepend_known, Consumes, IsAtEnd}
use Rattle.ets_packets.specs.Traffic.{Flow}
use Rattle.ets_script.specs.Lines.{Line, text, too_long, IsOneLine, IsLine}
use Rattle.ets_script.specs.declared.line_buffer.TheConstants.{CAPACITY}
use Rattle.ets_script.specs.declared.lines.TheConstants.{MAX_LINE}
use Rattle.ets_script.specs.declared.lines.NextLine.{NextLine}
use Rattle.ets_script.specs.declared.lines.NextLine.TheVariants.{Text, TooLong, NeedsMore}

-- the buffered bytes, whether earlier bytes of their line were discarded, and the number of reads that are still
-- allowed
pub record LineBufferState : Type 0 where
  pub bytes : List ℕ
  pub is_skipping : Bool
  pub reads : ℕ

-- all bytes to come, if the reader has this left
abbrev pub rest_of : LineBufferState → Option (List ℕ) → Option (List ℕ)
rest_of h left = prepend_known h.bytes left

-- one read returned `count` bytes, 0 only at the end of the input, and they are buffered after the others
pub record Refills (old new : LineBufferState) (reader : Flow) (count : ℕ) : Type 0 where
  pub more : List ℕ
  pub counted : length more ≡ count
  pub added : new.bytes ≡ old.bytes ++ more
  pub consumed : Consumes reader.before reader.after more
  pub end : count ≡ 0 → IsAtEnd reader.after
  pub skipping : new.is_skipping ≡ old.is_skipping
  pub reads : new.reads + 1 ≡ old.reads
  pub fits : length new.bytes ≤ CAPACITY

-- the index is that of the first LF
abbrev pub IsLineEnd : List ℕ → ℕ → Type 0
IsLineEnd bytes n = (n < length bytes) × IsOneLine (take n bytes) × (slice_index bytes n ≡ 10)

-- these bytes of a line were discarded: none, or more than a line may have
abbrev pub PassedOver : Bool → List ℕ → Type 0
PassedOver false skipped = skipped ≡ []
PassedOver true skipped = IsOneLine skipped × (MAX_LINE < length skipped)

-- the first n bytes, and those before them that were discarded, are this line, with its LF
abbrev pub EndsLine : List ℕ → Bool → ℕ → Line → Type 0
EndsLine bytes is_skipping n line =
    (skipped : List ℕ) → PassedOver is_skipping skipped → IsLine (skipped ++ take n bytes) line ⊥

-- the bytes begin with a line, or have no LF
abbrev pub FindsIn : List ℕ → Bool → NextLine → Type 0
FindsIn bytes is_skipping (Text n taken) =
    (0 < taken) × (taken ≤ length bytes) × (n ≤ length bytes)
    × EndsLine bytes is_skipping taken (text (take n bytes))
FindsIn bytes is_skipping (TooLong taken) =
    (0 < taken) × (taken ≤ length bytes) × EndsLine bytes is_skipping taken too_long
FindsIn bytes is_skipping NeedsMore = IsOneLine bytes

abbrev pub Finds : LineBufferState → NextLine → Type 0
Finds h next = FindsIn h.bytes h.is_skipping next

-- the buffered bytes have no LF, and stay
abbrev pub Stays : LineBufferState → LineBufferState → Type 0
Stays old new = (new.bytes ≡ old.bytes) × (old.is_skipping ≡ false) × (new.is_skipping ≡ false)

-- the buffered bytes are discarded, because their line is too long
abbrev pub IsPassed : LineBufferState → LineBufferState → Type 0
IsPassed old new =
    (new.bytes ≡ []) × (new.is_skipping ≡ true) × ((old.is_skipping ≡ true) ⊎ (MAX_LINE < length old.bytes))

-- the buffered bytes stay, or are discarded; then at most MAX_LINE bytes are buffered
pub record Waits (old new : LineBufferState) : Type 0 where
  pub short : length new.bytes ≤ MAX_LINE
  pub reads : new.reads ≡ old.reads
  pub kept : Stays old new ⊎ IsPassed old new
