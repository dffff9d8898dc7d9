-- The bytes of a term, and their FNV-1a hash.
use Rattle.std.specs.Prelude.{ℕ, ℤ, ◌*◌, ◌%◌, ◌^◌, List, [], ◌∷◌, ◌++◌, length, fold, bit_xor}
use Rattle.std.specs.Int.{cast_unsigned, to_be_bytes, w32, w64, w128}
use Rattle.ets_term.specs.declared.term.Term.{Term, fold-Term}
use Rattle.ets_term.specs.declared.term.Term.TheOpen.{Term-F}

-- the bytes of an integer in two's complement, the high byte first
unfoldable pub integer_bytes : ℤ → List ℕ
integer_bytes n = to_be_bytes w128 (cast_unsigned w128 n)

-- the lists, joined to one list
abbrev pub concat : {A : Type 0} → List (List A) → List A
concat [] = []
concat (x ∷ xs) = x ++ concat xs

-- the bytes of a term, from the bytes of its elements: a byte for the kind; then a number with its high byte first, or
-- the count and then the parts
abbrev pub encoding_form : Term-F (List ℕ) → List ℕ
encoding_form (Term-F.Int n) = 1 ∷ integer_bytes n
encoding_form (Term-F.Atom s) = 2 ∷ length s ∷ s
encoding_form (Term-F.Pid n) = 3 ∷ to_be_bytes w32 n
encoding_form (Term-F.Tid n) = 4 ∷ to_be_bytes w32 n
encoding_form (Term-F.Tuple es) = 5 ∷ (to_be_bytes w64 (length es) ++ concat es)
encoding_form (Term-F.List es) = 6 ∷ (to_be_bytes w64 (length es) ++ concat es)
encoding_form (Term-F.Binary s) = 7 ∷ (to_be_bytes w64 (length s) ++ s)

-- the bytes of a term
abbrev pub encoding : Term → List ℕ
encoding = fold-Term (List ℕ) encoding_form

-- FNV-1a of 32 bits: exclusive or with the byte, then times the prime
abbrev pub fnv_step : ℕ → ℕ → ℕ
fnv_step h b = (bit_xor h b * 16777619) % 2 ^ 32

-- the FNV-1a hash of bytes
abbrev pub fnv : List ℕ → ℕ
fnv bytes = fold fnv_step 2166136261 bytes
