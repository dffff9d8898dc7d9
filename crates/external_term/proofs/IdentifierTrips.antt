-- What is written for a pid or a table identifier reads back.
use Rattle.std.proofs.Common.{◌≡◌, ℕ, ◌+◌, ◌^◌, ◌<◌, List, [], ◌∷◌, ◌++◌, length, refl, ap, ◌∙◌, arith, Bool, true, nat_lt, length-append}
use Rattle.std.proofs.lemmas.Bool.Decides.{nat_tests}
use Rattle.std.specs.Prelude.{slice_range, codes}
use Rattle.ets_term.specs.declared.term.Term.TheVariants.{Pid, Tid}
use Rattle.external_term.specs.declared.field.Width.TheVariants.{Two}
use Rattle.external_term.specs.Encoding.{big2, big4, node_name_bytes, pid_bytes, reference_bytes}
use Rattle.external_term.specs.Fields.{after, big32, number_at, piece_at}
use Rattle.external_term.specs.Identifiers.{node_name_form, node_name_at, node_name_if, are_zero, is_own, identifier_if, identifier_in, identifier_at, reference_if}
use Rattle.external_term.specs.Tags.{tag_of}
use Rattle.external_term.proofs.LeafTrips.{Reads, dispatch, both, name_reads}
use Rattle.external_term.proofs.BytesAt.{At, head, inside, tail, front, behind, range, ok, ends, after_ok, two_at, value32, piece}

abbrev name : List ℕ
name = codes "nonode@nohost"

node_reads : (bytes : List ℕ) (at : ℕ) (rest : List ℕ) → At bytes at node_name_bytes rest → node_name_at bytes at ≡ ok (at + 1 + 1) (at + 1 + 1 + 13)
node_reads bytes at rest h =
    let k : at < length bytes = inside bytes at 119 (13 ∷ name) rest h in
    let e : nat_lt at (length bytes) ≡ true = grind (arith, nat_tests) in
    ap (λ (b : Bool). node_name_if b bytes at) e
    ∙ ap (λ (y : ℕ). node_name_form bytes at (tag_of y)) (head bytes at 119 (13 ∷ name) rest h)
    ∙ name_reads bytes (at + 1) name rest (tail bytes at 119 (13 ∷ name) rest h)

number_reads : (bytes : List ℕ) (start at n : ℕ) (before after_it rest : List ℕ) → are_zero before ≡ true → are_zero after_it ≡ true → n < 2 ^ 32
    → At bytes at (node_name_bytes ++ (before ++ (big4 n ++ after_it))) rest
    → identifier_at bytes start at (length before) (length after_it) ≡ ok n (at + 19 + length before + length after_it)
number_reads bytes start at n before after_it rest zeros more small h =
    let fields = before ++ (big4 n ++ after_it) in
    let from = at + 1 + 1 in
    let to = from + 13 in
    let size = length before + 4 + length after_it in
    let end = to + size in
    let here = to + length before in
    let a0 : At bytes at node_name_bytes (fields ++ rest) = front bytes at node_name_bytes fields rest h in
    let a1 : At bytes (at + 1) (13 ∷ name) (fields ++ rest) = tail bytes at 119 (13 ∷ name) (fields ++ rest) a0 in
    let a2 : At bytes from name (fields ++ rest) = tail bytes (at + 1) 13 name (fields ++ rest) a1 in
    let a3 : At bytes to fields rest = record {
      holds = (behind bytes from name [] (fields ++ rest) a2).holds;
      within = (behind bytes from name [] (fields ++ rest) a2).within;
    } in
    let a4 : At bytes to before ((big4 n ++ after_it) ++ rest) = front bytes to before (big4 n ++ after_it) rest a3 in
    let a5 : At bytes here (big4 n ++ after_it) rest = behind bytes to before (big4 n ++ after_it) rest a3 in
    let a6 : At bytes (here + 4) after_it rest = behind bytes here (big4 n) after_it rest a5 in
    let long : length fields ≡ size = omega (arith, length-append before (big4 n ++ after_it)) in
    let r1 : slice_range bytes from to ≡ name = range bytes from to name (fields ++ rest) a2 refl in
    let r2 : slice_range bytes to here ≡ before = range bytes to here before ((big4 n ++ after_it) ++ rest) a4 refl in
    let r3 : slice_range bytes (here + 4) end ≡ after_it = range bytes (here + 4) end after_it rest a6 (omega arith) in
    let own : is_own (slice_range bytes from to) (slice_range bytes to here) (slice_range bytes (here + 4) end) ≡ true =
    ap (λ (x : List ℕ). is_own x (slice_range bytes to here) (slice_range bytes (here + 4) end)) r1
    ∙ ap (λ (x : List ℕ). is_own name x (slice_range bytes (here + 4) end)) r2
    ∙ ap (λ (x : List ℕ). is_own name before x) r3
    ∙ both (are_zero before) (are_zero after_it) zeros more in
    let value : identifier_in bytes start (length before) from to to end ≡ ok n end =
    ap (λ (b : Bool). identifier_if b start (big32 bytes here) end) own
    ∙ ap (λ (m : ℕ). ok m end) (value32 bytes here n after_it rest small a5) in
    after_ok (node_name_at bytes at) from to
    (λ (from to : ℕ). after (piece_at size bytes to) (λ (first end : ℕ). identifier_in bytes start (length before) from to first end))
    (ok n (at + 19 + length before + length after_it)) (node_reads bytes at (fields ++ rest) a0)
    (after_ok (piece_at size bytes to) to end (λ (first end : ℕ). identifier_in bytes start (length before) from to first end)
    (ok n (at + 19 + length before + length after_it)) (piece bytes to size fields rest long a3)
    (value ∙ ends n end (at + 19 + length before + length after_it) (omega arith)))

pub pid_reads : (n levels : ℕ) → n < 2 ^ 32 → Reads (Pid n) levels (pid_bytes n)
pid_reads n levels small bytes at rest h =
    let zeros : List ℕ = 0 ∷ 0 ∷ 0 ∷ 0 ∷ 0 ∷ 0 ∷ 0 ∷ 0 ∷ [] in
    let fields : List ℕ = node_name_bytes ++ (big4 n ++ zeros) in
    let a1 : At bytes (at + 1) fields rest = tail bytes at 88 fields rest h in
    dispatch bytes at levels 88 fields rest h
    ∙ after_ok (identifier_at bytes at (at + 1) 0 8) n (at + 1 + 19 + 0 + 8) (λ (m end : ℕ). ok (Pid m) end) (ok (Pid n) (at + length (pid_bytes n)))
    (number_reads bytes at (at + 1) n [] zeros rest refl refl small a1) (ends (Pid n) (at + 1 + 19 + 0 + 8) (at + length (pid_bytes n)) (omega arith))

pub reference_reads : (n levels : ℕ) → n < 2 ^ 32 → Reads (Tid n) levels (reference_bytes n)
reference_reads n levels small bytes at rest h =
    let zeros : List ℕ = 0 ∷ 0 ∷ 0 ∷ 0 ∷ [] in
    let fields : List ℕ = node_name_bytes ++ (zeros ++ big4 n) in
    let next = at + 1 + 2 in
    let a1 : At bytes (at + 1) (big2 1 ++ fields) rest = tail bytes at 90 (0 ∷ 1 ∷ fields) rest h in
    let a2 : At bytes next fields rest = behind bytes (at + 1) (big2 1) fields rest a1 in
    dispatch bytes at levels 90 (0 ∷ 1 ∷ fields) rest h
    ∙ after_ok (number_at Two bytes (at + 1)) 1 next (λ (words next : ℕ). reference_if (nat_lt 0 words) bytes at 4 words next)
    (ok (Tid n) (at + length (reference_bytes n))) (two_at bytes (at + 1) 1 fields rest (omega arith) a1)
    (after_ok (identifier_at bytes at next 4 0) n (next + 19 + 4 + 0) (λ (m end : ℕ). ok (Tid m) end) (ok (Tid n) (at + length (reference_bytes n)))
    (number_reads bytes at next n zeros [] rest refl refl small a2) (ends (Tid n) (next + 19 + 4 + 0) (at + length (reference_bytes n)) (omega arith)))
