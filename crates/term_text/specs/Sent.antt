-- What a sink contains after a text was sent to it.
use Rattle.std.specs.Prelude.{◌≡◌, ℕ, List, ◌++◌, Option, Result, Ok, Err}
use Rattle.std.specs.Io.KnownBytes.{Appends}

-- a prefix of the text was appended to the content of a sink
abbrev pub AppendsPrefix : Option (List ℕ) → Option (List ℕ) → List ℕ → Type 0
AppendsPrefix old new text = (sent rest : List ℕ) × (text ≡ sent ++ rest) × Appends old new sent

-- the text was appended to the content of a sink or, if the call failed, a prefix of it was
abbrev pub AppendsOrPrefix : {A E : Type 0} → Option (List ℕ) → Option (List ℕ) → List ℕ → Result A E → Type 0
AppendsOrPrefix old new text (Ok x) = Appends old new text
AppendsOrPrefix old new text (Err e) = AppendsPrefix old new text
