-- A written term is read back.
use Rattle.std.specs.Prelude.{◌≡◌, ℕ, ◌<◌, ◌≤◌, ◌^◌, List, ◌++◌, length, Ok}
use Rattle.ets_term.specs.Depth.{depth, max_depth}
use Rattle.ets_term.specs.Fits.{Fits}
use Rattle.ets_term.specs.declared.term.Term.{Term}
use Rattle.external_term.specs.Encoding.{encode_with_version}
use Rattle.external_term.specs.Reader.{read}

-- If a term has at most max_depth levels, and its written bytes are less than 2 ^ 32, then these bytes are read as this
-- term, to the last byte, whatever follows.
abbrev pub ReadsBack : Term → List ℕ → Type 0
ReadsBack t rest =
    Fits t → depth t ≤ max_depth → length (encode_with_version t) < 2 ^ 32
    → read (encode_with_version t ++ rest) ≡ Ok (t, length (encode_with_version t))
