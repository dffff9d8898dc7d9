-- Worked examples, computed: each tag once, and each fault once.
use Rattle.std.proofs.Common.{◌≡◌, ℕ, List, [], ◌∷◌, pos, negsuc, refl, Ok, Err}
use Rattle.ets_term.specs.declared.term.Term.TheVariants.{Int, Atom, Pid, Tid, Tuple, List as ListOf, Binary}
use Rattle.external_term.specs.declared.fault.ExternalFault.TheVariants.{Truncated, BadVersion, UnsupportedTag, TooDeep, ImproperList, BadAtom, BadInteger, ForeignIdentifier}
use Rattle.external_term.specs.Reader.{read, term_at}

small_integer : read (131 ∷ 97 ∷ 7 ∷ []) ≡ Ok (Int (pos 7), 3)
unfolding term_at
small_integer = refl

integer : read (131 ∷ 98 ∷ 255 ∷ 255 ∷ 255 ∷ 254 ∷ 9 ∷ []) ≡ Ok (Int (negsuc 1), 6)
unfolding term_at
integer = refl

small_big : read (131 ∷ 110 ∷ 2 ∷ 1 ∷ 0 ∷ 1 ∷ []) ≡ Ok (Int (negsuc 255), 6)
unfolding term_at
small_big = refl

atoms : read (131 ∷ 104 ∷ 4 ∷ 119 ∷ 1 ∷ 97 ∷ 118 ∷ 0 ∷ 1 ∷ 98 ∷ 100 ∷ 0 ∷ 1 ∷ 99 ∷ 115 ∷ 1 ∷ 100 ∷ [])
    ≡ Ok (Tuple (Atom (97 ∷ []) ∷ Atom (98 ∷ []) ∷ Atom (99 ∷ []) ∷ Atom (100 ∷ []) ∷ []), 17)
unfolding term_at
atoms = refl

large_tuple : read (131 ∷ 105 ∷ 0 ∷ 0 ∷ 0 ∷ 1 ∷ 106 ∷ []) ≡ Ok (Tuple (ListOf [] ∷ []), 7)
unfolding term_at
large_tuple = refl

string : read (131 ∷ 107 ∷ 0 ∷ 2 ∷ 104 ∷ 105 ∷ []) ≡ Ok (ListOf (Int (pos 104) ∷ Int (pos 105) ∷ []), 6)
unfolding term_at
string = refl

list : read (131 ∷ 108 ∷ 0 ∷ 0 ∷ 0 ∷ 1 ∷ 104 ∷ 0 ∷ 106 ∷ []) ≡ Ok (ListOf (Tuple [] ∷ []), 9)
unfolding term_at
list = refl

binary : read (131 ∷ 109 ∷ 0 ∷ 0 ∷ 0 ∷ 2 ∷ 0 ∷ 255 ∷ []) ≡ Ok (Binary (0 ∷ 255 ∷ []), 8)
unfolding term_at
binary = refl

-- the node, as SMALL_ATOM_UTF8_EXT, before some bytes
abbrev at_node : List ℕ → List ℕ
at_node bytes = 119 ∷ 13 ∷ 110 ∷ 111 ∷ 110 ∷ 111 ∷ 100 ∷ 101 ∷ 64 ∷ 110 ∷ 111 ∷ 104 ∷ 111 ∷ 115 ∷ 116 ∷ bytes

new_pid : read (131 ∷ 88 ∷ at_node (0 ∷ 0 ∷ 1 ∷ 2 ∷ 0 ∷ 0 ∷ 0 ∷ 0 ∷ 0 ∷ 0 ∷ 0 ∷ 0 ∷ [])) ≡ Ok (Pid 258, 29)
unfolding term_at
new_pid = refl

pid : read (131 ∷ 103 ∷ at_node (0 ∷ 0 ∷ 0 ∷ 3 ∷ 0 ∷ 0 ∷ 0 ∷ 0 ∷ 0 ∷ [])) ≡ Ok (Pid 3, 26)
unfolding term_at
pid = refl

newer_reference : read (131 ∷ 90 ∷ 0 ∷ 1 ∷ at_node (0 ∷ 0 ∷ 0 ∷ 0 ∷ 0 ∷ 0 ∷ 0 ∷ 7 ∷ [])) ≡ Ok (Tid 7, 27)
unfolding term_at
newer_reference = refl

new_reference : read (131 ∷ 114 ∷ 0 ∷ 2 ∷ at_node (0 ∷ 0 ∷ 0 ∷ 0 ∷ 7 ∷ 0 ∷ 0 ∷ 0 ∷ 0 ∷ [])) ≡ Ok (Tid 7, 28)
unfolding term_at
new_reference = refl

reference : read (131 ∷ 101 ∷ at_node (0 ∷ 0 ∷ 0 ∷ 7 ∷ 0 ∷ [])) ≡ Ok (Tid 7, 22)
unfolding term_at
reference = refl

no_bytes : read [] ≡ Err (Truncated 0)
unfolding term_at
no_bytes = refl

other_version : read (130 ∷ 106 ∷ []) ≡ Err (BadVersion 0)
unfolding term_at
other_version = refl

cut_off : read (131 ∷ 98 ∷ 0 ∷ 0 ∷ 0 ∷ []) ≡ Err (Truncated 2)
unfolding term_at
cut_off = refl

a_float : read (131 ∷ 70 ∷ 0 ∷ []) ≡ Err (UnsupportedTag 1)
unfolding term_at
a_float = refl

improper : read (131 ∷ 108 ∷ 0 ∷ 0 ∷ 0 ∷ 1 ∷ 97 ∷ 1 ∷ 97 ∷ 2 ∷ []) ≡ Err (ImproperList 8)
unfolding term_at
improper = refl

not_ascii : read (131 ∷ 119 ∷ 2 ∷ 195 ∷ 164 ∷ []) ≡ Err (BadAtom 1)
unfolding term_at
not_ascii = refl

too_large : read (131 ∷ 110 ∷ 17 ∷ 0 ∷ 1 ∷ 0 ∷ 0 ∷ 0 ∷ 0 ∷ 0 ∷ 0 ∷ 0 ∷ 0 ∷ 0 ∷ 0 ∷ 0 ∷ 0 ∷ 0 ∷ 0 ∷ 0 ∷ 0 ∷ []) ≡ Err (BadInteger 1)
unfolding term_at
too_large = refl

other_creation : read (131 ∷ 88 ∷ at_node (0 ∷ 0 ∷ 1 ∷ 2 ∷ 0 ∷ 0 ∷ 0 ∷ 0 ∷ 0 ∷ 0 ∷ 0 ∷ 1 ∷ [])) ≡ Err (ForeignIdentifier 1)
unfolding term_at
other_creation = refl

too_deep : term_at (104 ∷ 1 ∷ 104 ∷ 0 ∷ []) 1 0 ≡ Err (TooDeep 2)
unfolding term_at
too_deep = refl

deep_string : term_at (107 ∷ 0 ∷ 1 ∷ 65 ∷ []) 1 0 ≡ Err (TooDeep 3)
unfolding term_at
deep_string = refl
