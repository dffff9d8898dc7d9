-- Reads a term from bytes, form by form as the External Term Format lists them.
use Rattle.std.specs.Prelude.{ℕ, zero, suc, ◌+◌, List, [], ◌∷◌, ◌++◌, length, slice_index, Ok, Err, Bool, true, false, ◌==◌, nat_lt}
use Rattle.ets_term.specs.Depth.{max_depth}
use Rattle.ets_term.specs.declared.term.Term.{Term}
use Rattle.ets_term.specs.declared.term.Term.TheVariants.{Tuple as TupleOf, List as ListOf}
use Rattle.external_term.specs.declared.field.Width.{Width}
use Rattle.external_term.specs.declared.field.Width.TheVariants.{One, Four}
use Rattle.external_term.specs.declared.tag.Tag.{Tag}
use Rattle.external_term.specs.declared.tag.Tag.TheVariants.{SmallInteger, Integer, SmallBig, Atom, Tuple, Nil, String, List as ListTag, Binary, NewPid, Pid, NewerReference, NewReference, Reference, Unknown}
use Rattle.external_term.specs.declared.fault.ExternalFault.TheVariants.{Truncated, BadVersion, UnsupportedTag, TooDeep, ImproperList}
use Rattle.external_term.specs.Fields.{Read, after, has, number_at}
use Rattle.external_term.specs.Identifiers.{pid_at, old_reference_at, reference_at}
use Rattle.external_term.specs.Integers.{small_integer_at, integer32_at, big_at}
use Rattle.external_term.specs.Texts.{atom_at, binary_at, string_at}
use Rattle.external_term.specs.Tags.{tag_of}

-- reads n more items after the items in `done`, each by `one`, the reader of one term
abbrev pub items : (ℕ → Read Term) → List Term → ℕ → ℕ → Read (List Term)
items one done zero at = Ok (done, at)
items one done (suc n) at = elim (one at) [ Ok x ↦ items one (done ++ x.0 ∷ []) n x.1 | Err f ↦ Err f ]

-- reads n items if there are enough bytes, else gives the fault
abbrev pub items_if : Bool → (ℕ → Read Term) → ℕ → ℕ → Read (List Term)
items_if true one n at = items one [] n at
items_if false one n at = Err (Truncated at)

-- reads n items; a fault if fewer than n bytes are left, because each item has at least one byte
abbrev pub items_at : List ℕ → (ℕ → Read Term) → ℕ → ℕ → Read (List Term)
items_at bytes one n at = items_if (has n bytes at) one n at

-- reads a tuple: the number of items, and the items
abbrev pub tuple_at : Width → List ℕ → (ℕ → Read Term) → ℕ → Read Term
tuple_at w bytes one at =
    after (number_at w bytes (at + 1)) (λ n next.
    after (items_at bytes one n next) (λ ts end. Ok (TupleOf ts, end)))

-- the list if its tail is the empty list, else the fault
abbrev pub tail_if : Bool → List Term → ℕ → ℕ → Read Term
tail_if true ts at end = Ok (ListOf ts, end)
tail_if false ts at end = Err (ImproperList at)

-- reads a LIST_EXT: the number of items, the items, and NIL_EXT as the tail
abbrev pub long_list_at : List ℕ → (ℕ → Read Term) → ℕ → Read Term
long_list_at bytes one at =
    after (number_at Four bytes (at + 1)) (λ n next.
    after (items_at bytes one n next) (λ ts last.
    after (number_at One bytes last) (λ tail end. tail_if (tail == 106) ts last end)))

-- reads the term whose tag is at an offset; the terms inside may have at most `levels` levels, and `one` reads one of
-- them
abbrev pub form : List ℕ → ℕ → (ℕ → Read Term) → ℕ → Tag → Read Term
form bytes levels one at SmallInteger = small_integer_at bytes at
form bytes levels one at Integer = integer32_at bytes at
form bytes levels one at SmallBig = big_at bytes at
form bytes levels one at (Atom w) = atom_at w bytes at
form bytes levels one at (Tuple w) = tuple_at w bytes one at
form bytes levels one at Nil = Ok (ListOf [], at + 1)
form bytes levels one at String = string_at bytes levels at
form bytes levels one at ListTag = long_list_at bytes one at
form bytes levels one at Binary = binary_at bytes at
form bytes levels one at NewPid = pid_at bytes at 8
form bytes levels one at Pid = pid_at bytes at 5
form bytes levels one at NewerReference = reference_at bytes at 4
form bytes levels one at NewReference = reference_at bytes at 1
form bytes levels one at Reference = old_reference_at bytes at
form bytes levels one at Unknown = Err (UnsupportedTag at)

-- reads a term if there is a byte for its tag, else gives the fault
abbrev pub form_if : Bool → List ℕ → ℕ → (ℕ → Read Term) → ℕ → Read Term
form_if true bytes levels one at = form bytes levels one at (tag_of (slice_index bytes at))
form_if false bytes levels one at = Err (Truncated at)

-- reads a term of at most this number of levels
unfoldable pub term_at : List ℕ → ℕ → ℕ → Read Term
term_at bytes zero at = Err (TooDeep at)
term_at bytes (suc levels) at = form_if (nat_lt at (length bytes)) bytes levels (term_at bytes levels) at

-- reads a term if the version is right, else gives the fault
abbrev pub version_if : Bool → List ℕ → ℕ → Read Term
version_if true bytes at = term_at bytes max_depth at
version_if false bytes at = Err (BadVersion 0)

-- reads the version and a term of at most max_depth levels: the term and the number of bytes, or the fault
abbrev pub read : List ℕ → Read Term
read bytes = after (number_at One bytes 0) (λ version next. version_if (version == 131) bytes next)
