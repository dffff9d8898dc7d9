use Rattle.std.proofs.Common.{rules, string_bytes, length, ◌≡◌, subst, ℕ, Some}
use Rattle.std.proofs.lemmas.Str.{IsUtf8-string_bytes}
use Rattle.std.specs.String.Boundary.{IsSplitPoint}
use Rattle.term_text.specs.Printed.{text_of_term}
use Rattle.term_text.proofs.Pieces.{front-boundary, sends-front}
use Rattle.term_text.proofs.print.print_term.Goals as goal

pub truncate-requires : goal.truncate-requires
truncate-requires c = λ h.
    let old = c.replace.result in
    let new = c.append-result.new.out.text in
    let failed = sends-front (Some (string_bytes old)) (Some (string_bytes new)) (text_of_term c.args.term.now) c.append-result.result (search rules) c.append-result.ensures in
    let b = front-boundary (string_bytes old) (string_bytes new) (text_of_term c.args.term.now) (IsUtf8-string_bytes old) (IsUtf8-string_bytes new) failed in
    let P : ℕ → Type 0 = λ n. IsSplitPoint (string_bytes new) n in
    let e : length (string_bytes old) ≡ c.len-len.result = search rules in
    subst P e b
