-- What a writer contains after bytes were sent to it.
use Rattle.std.specs.Prelude.{◌≡◌, ℕ, List, ◌++◌, Option, Result, Ok, Err}
use Rattle.std.specs.Io.KnownBytes.{Appends}

-- a prefix of the bytes was appended to the content of a writer
abbrev pub AppendsPrefix : Option (List ℕ) → Option (List ℕ) → List ℕ → Type 0
AppendsPrefix old new bytes = (sent rest : List ℕ) × (bytes ≡ sent ++ rest) × Appends old new sent

-- the bytes were appended to the content of a writer or, if the call failed, a prefix of them was
abbrev pub AppendsOrPrefix : {A E : Type 0} → Option (List ℕ) → Option (List ℕ) → List ℕ → Result A E → Type 0
AppendsOrPrefix old new bytes (Ok x) = Appends old new bytes
AppendsOrPrefix old new bytes (Err e) = AppendsPrefix old new bytes
