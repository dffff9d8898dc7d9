-- How the bytes of a script are cut into lines.
use Rattle.std.specs.Prelude.{◌≡◌, ◌≢◌, ℕ, ◌≤◌, ◌<◌, ◌⊎◌, List, [], ◌∷◌, ◌++◌, length, All}
use Rattle.std.specs.Io.BufRead.{strip_last}
use Rattle.ets_script.specs.declared.lines.TheConstants.{MAX_LINE}

-- no byte is an LF
abbrev pub IsOneLine : List ℕ → Type 0
IsOneLine bytes = All (λ b. b ≢ 10) bytes

-- a line: its text, or that it is too long
pub data Line : Type 0 where
  text : List ℕ → Line
  too_long : Line

-- The bytes of a line: these bytes without an LF, and then the LF. If the line is the `last`, they may end with the
-- input, without an LF, if there is at least one.
abbrev pub Ends : List ℕ → List ℕ → Type 0 → Type 0
Ends before bytes last = (bytes ≡ before ++ 10 ∷ []) ⊎ ((bytes ≡ before) × (0 < length before) × last)

-- The same, for a line with this text: one CR before the LF is not part of the text; a CR at the end of the input is.
abbrev pub EndsText : List ℕ → List ℕ → List ℕ → Type 0 → Type 0
EndsText before t bytes last =
    ((bytes ≡ before ++ 10 ∷ []) × (t ≡ strip_last 13 before))
    ⊎ ((bytes ≡ before) × (0 < length before) × last × (t ≡ before))

-- These bytes are one line; without an LF only if `last` holds. With more than MAX_LINE bytes before the LF, a CR
-- counted, it is too long.
abbrev pub IsLine : List ℕ → Line → Type 0 → Type 0
IsLine bytes (text t) last =
    (before : List ℕ) × IsOneLine before × (length before ≤ MAX_LINE) × EndsText before t bytes last
IsLine bytes too_long last =
    (before : List ℕ) × IsOneLine before × (MAX_LINE < length before) × Ends before bytes last

-- the input is these lines, one after another; the last line may lack its LF
abbrev pub IsCutInto : List ℕ → List Line → Type 0
IsCutInto input [] = input ≡ []
IsCutInto input (line ∷ lines) =
    (bytes : List ℕ) × (rest : List ℕ) × (input ≡ bytes ++ rest)
    × IsLine bytes line (rest ≡ []) × IsCutInto rest lines
