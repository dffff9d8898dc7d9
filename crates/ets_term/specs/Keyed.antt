-- The words of a term, and their hash with a secret factor, which a seed gives.
use Rattle.std.specs.Prelude.{ℕ, ℤ, ◌+◌, ◌-◌, ◌*◌, ◌/◌, ◌%◌, ◌^◌, ◌&&◌, if◌then◌else◌, int_le, pos, negsuc, List, [], ◌∷◌, length, fold, bit_xor}
use Rattle.std.specs.Int.{cast_unsigned, rotate_left, w64, w128}
use Rattle.ets_term.specs.declared.term.Term.{Term, fold-Term}
use Rattle.ets_term.specs.declared.term.Term.TheOpen.{Term-F}
use Rattle.ets_term.specs.Encoding.{concat}

-- the word of a kind, from 1 to 7
abbrev pub kind_word : ℕ → ℕ
kind_word kind = 2 ^ 63 + kind

-- the words of a large integer in two's complement: of its kind, and then the high word first
abbrev pub large_words : ℕ → List ℕ
large_words bits = kind_word 1 ∷ bits / 2 ^ 64 ∷ bits % 2 ^ 64 ∷ []

-- the words of an integer in two's complement: one word, if it is in 64 bits and no word of a kind
abbrev pub integer_words : ℤ → List ℕ
integer_words n = if int_le (negsuc (2 ^ 63 - 9)) n && int_le n (pos (2 ^ 63 - 1)) then cast_unsigned w128 n % 2 ^ 64 ∷ [] else large_words (cast_unsigned w128 n)

-- the words of a term, from the words of its elements: an integer; or a word for the kind and then a number, or the
-- count and then the parts
abbrev pub words_form : Term-F (List ℕ) → List ℕ
words_form (Term-F.Int n) = integer_words n
words_form (Term-F.Atom s) = kind_word 2 ∷ length s ∷ s
words_form (Term-F.Pid n) = kind_word 3 ∷ n ∷ []
words_form (Term-F.Tid n) = kind_word 4 ∷ n ∷ []
words_form (Term-F.Tuple es) = kind_word 5 ∷ length es ∷ concat es
words_form (Term-F.List es) = kind_word 6 ∷ length es ∷ concat es
words_form (Term-F.Binary s) = kind_word 7 ∷ length s ∷ s

-- the words of a term, which its hash with a factor reads
abbrev pub words : Term → List ℕ
words = fold-Term (List ℕ) words_form

-- the exclusive or of the halves of a product of 128 bits
abbrev pub fold_halves : ℕ → ℕ → ℕ
fold_halves a b = bit_xor ((a * b) % 2 ^ 64) ((a * b) / 2 ^ 64)

-- the factor of a seed
abbrev pub factor_of : ℕ → ℕ
factor_of seed = fold_halves (bit_xor seed 11400714819323198485) 15111065706836454659

-- the hash after one more word: a folded product of the hash and the factor `by`, each after an exclusive or with the
-- word, whose bits are rotated for the factor
abbrev pub keyed_step : ℕ → ℕ → ℕ → ℕ
keyed_step by h word = fold_halves (bit_xor h word) (bit_xor by (rotate_left w64 word 27))

-- the hash of words with a factor: starts as the factor, takes all words, and keeps the high 32 bits
abbrev pub keyed_hash : ℕ → List ℕ → ℕ
keyed_hash by ws = fold (keyed_step by) by ws / 2 ^ 32 % 2 ^ 32
