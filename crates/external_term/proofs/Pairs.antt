-- The version and a tuple of two elements, read one after another.
use Rattle.std.proofs.Common.{◌≡◌, ℕ, ◌<◌, List, [], ◌∷◌, length, get_or, refl, ap, ◌∙◌, arith, Ok, Bool, true, nat_le}
use Rattle.std.specs.Prelude.{◌==◌}
use Rattle.std.proofs.lemmas.Bool.Decides.{nat_tests}
use Rattle.ets_term.specs.Depth.{max_depth}
use Rattle.ets_term.specs.declared.term.Term.{Term}
use Rattle.ets_term.specs.declared.term.Term.TheVariants.{Tuple}
use Rattle.external_term.specs.declared.field.Width.TheVariants.{One}
use Rattle.external_term.specs.Fields.{Read, after, number_if}
use Rattle.external_term.specs.Reader.{items_at, form, term_at, version_if, read}
use Rattle.external_term.specs.Tags.{tag_of}
use Rattle.external_term.proofs.Steps.{by_tag, item_read, enough}

-- the tuple of what was read, and the offset after it
abbrev tuple_of : List Term → ℕ → Read Term
tuple_of ts end = Ok (Tuple ts, end)

pub pair_read : (bytes : List ℕ) (a b : Term) (n end : ℕ) → (length bytes < 5 → ⊥)
    → get_or bytes 0 0 ≡ 131 → get_or bytes 1 0 ≡ 104 → get_or bytes 2 0 ≡ 2
    → term_at bytes 127 3 ≡ Ok (a, n) → term_at bytes 127 n ≡ Ok (b, end) → read bytes ≡ Ok (Tuple (a ∷ b ∷ []), end)
pair_read bytes a b n end long version tag count first second =
    let one = term_at bytes 127 in
    let room_1 : nat_le 1 (length bytes) ≡ true = grind (arith, nat_tests) in
    let room_3 : nat_le 3 (length bytes) ≡ true = grind (arith, nat_tests) in
    ap (λ (b : Bool). after (number_if b One bytes 0) (λ (v next : ℕ). version_if (v == 131) bytes next)) room_1
    ∙ ap (λ (v : ℕ). version_if (v == 131) bytes 1) version
    ∙ by_tag bytes max_depth 1 (λ e. absurd (omega (arith, e))) (omega (arith, long))
    ∙ ap (λ (t : ℕ). form bytes 127 one 1 (tag_of t)) tag
    ∙ ap (λ (b : Bool). after (number_if b One bytes 2) (λ (n next : ℕ). after (items_at bytes one n next) tuple_of)) room_3
    ∙ ap (λ (n : ℕ). after (items_at bytes one n 3) tuple_of) count
    ∙ ap (λ (r : Read (List Term)). after r tuple_of)
    (enough bytes one 2 3 (omega (arith, long)) (omega (arith, long))
    ∙ item_read one [] 2 1 3 (a, n) refl first
    ∙ item_read one (a ∷ []) 1 0 n (b, end) refl second)
