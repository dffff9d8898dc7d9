-- Pids, and the references that encode table identifiers.
use Rattle.std.specs.Prelude.{ℕ, ◌+◌, ◌-◌, ◌*◌, List, length, slice_index, slice_range, Ok, Err, Bool, true, false, ◌==◌, ◌&&◌, nat_lt, codes}
use Rattle.std.specs.List.{list_all}
use Rattle.std.specs.Str.{bytes_eq}
use Rattle.ets_term.specs.declared.term.Term.{Term}
use Rattle.ets_term.specs.declared.term.Term.TheVariants.{Pid, Tid}
use Rattle.external_term.specs.declared.field.Width.TheVariants.{Two}
use Rattle.external_term.specs.declared.tag.Tag.{Tag}
use Rattle.external_term.specs.declared.tag.Tag.TheVariants.{Atom}
use Rattle.external_term.specs.declared.fault.ExternalFault.TheVariants.{Truncated, BadAtom, ForeignIdentifier}
use Rattle.external_term.specs.Fields.{Read, after, big32, number_at, piece_at}
use Rattle.external_term.specs.Texts.{name_at}
use Rattle.external_term.specs.Tags.{tag_of}

-- reads the name of a node after its tag, which must be that of an atom
abbrev pub node_name_form : List ℕ → ℕ → Tag → Read ℕ
node_name_form bytes at (Atom w) = name_at w bytes (at + 1)
node_name_form bytes at tag = Err (BadAtom at)

-- reads the name of a node if there is a byte for its tag, else gives the fault
abbrev pub node_name_if : Bool → List ℕ → ℕ → Read ℕ
node_name_if true bytes at = node_name_form bytes at (tag_of (slice_index bytes at))
node_name_if false bytes at = Err (Truncated at)

-- reads the name of a node, which is an atom: the offsets where its characters begin and end
abbrev pub node_name_at : List ℕ → ℕ → Read ℕ
node_name_at bytes at = node_name_if (nat_lt at (length bytes)) bytes at

-- whether all these bytes are 0
abbrev pub are_zero : List ℕ → Bool
are_zero bs = list_all (λ b. b == 0) bs

-- whether the node is nonode@nohost, and all bytes before and after the number are 0
abbrev pub is_own : List ℕ → List ℕ → List ℕ → Bool
is_own node before behind = bytes_eq node (codes "nonode@nohost") && (are_zero before && are_zero behind)

-- the number if the identifier is of the own node, else the fault
abbrev pub identifier_if : Bool → ℕ → ℕ → ℕ → Read ℕ
identifier_if true start n end = Ok (n, end)
identifier_if false start n end = Err (ForeignIdentifier start)

-- the number of an identifier, which is `before` bytes after `first`; the characters of the node are from `from` up to
-- `to`, and the identifier ends at `end`
abbrev pub identifier_in : List ℕ → ℕ → ℕ → ℕ → ℕ → ℕ → ℕ → Read ℕ
identifier_in bytes start before from to first end =
    let n = first + before in
    identifier_if (is_own (slice_range bytes from to) (slice_range bytes first n) (slice_range bytes (n + 4) end))
    start (big32 bytes n) end

-- reads the number of an identifier that begins at `start`: the name of the node at `at`, `before` bytes, the number (4
-- bytes), and `behind` bytes
abbrev pub identifier_at : List ℕ → ℕ → ℕ → ℕ → ℕ → Read ℕ
identifier_at bytes start at before behind =
    after (node_name_at bytes at) (λ from to.
    after (piece_at (before + 4 + behind) bytes to) (λ first end. identifier_in bytes start before from to first end))

-- reads a pid: the node, the number, then the serial and the creation, which have `behind` bytes in all
abbrev pub pid_at : List ℕ → ℕ → ℕ → Read Term
pid_at bytes at behind = after (identifier_at bytes at (at + 1) 0 behind) (λ n end. Ok (Pid n, end))

-- reads a REFERENCE_EXT: the node, the number, then the creation of one byte
abbrev pub old_reference_at : List ℕ → ℕ → Read Term
old_reference_at bytes at = after (identifier_at bytes at (at + 1) 0 1) (λ n end. Ok (Tid n, end))

-- reads a reference with this number of words; a fault if it is 0
abbrev pub reference_if : Bool → List ℕ → ℕ → ℕ → ℕ → ℕ → Read Term
reference_if true bytes at creation words next =
    after (identifier_at bytes at next creation (4 * words - 4)) (λ n end. Ok (Tid n, end))
reference_if false bytes at creation words next = Err (ForeignIdentifier at)

-- reads a reference: the number of words, the node, the creation, and the words, of which the first is the number
abbrev pub reference_at : List ℕ → ℕ → ℕ → Read Term
reference_at bytes at creation =
    after (number_at Two bytes (at + 1)) (λ words next. reference_if (nat_lt 0 words) bytes at creation words next)
