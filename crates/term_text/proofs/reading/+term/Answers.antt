use Rattle.std.proofs.Common.{◌≡◌, rules, arith, ap, sym, ◌∙◌, ◌+◌, ◌-◌, ◌∷◌, [], get_or, length, drop, false}
use Rattle.ets_term.specs.declared.term.Term.{Term}
use Rattle.term_text.specs.inside.Reader.{OpenBracket, integer, wants, digit, number, name, after, reads_on, bracket, with_term, put, begin, read_from}
use Rattle.term_text.specs.inside.Parts.{is_square}
use Rattle.term_text.specs.Text.{is_digit}
use Rattle.term_text.specs.declared.fault.TextFault.TheVariants.{Unexpected, TooDeep}
use Rattle.term_text.proofs.FirstBytes as begins
use Rattle.term_text.proofs.Blanks.{after-ignores}
use Rattle.term_text.proofs.Offsets.{read-at, reads_along, if-true}
use Rattle.term_text.proofs.reading.+term.Goals as goal

pub any_form_at-returns-then-not-is_first_byte-clause-reads :
    goal.any_form_at-returns-then-not-is_first_byte-clause-reads
any_form_at-returns-then-not-is_first_byte-clause-reads t c = λ os e.
    begins.begins-fault c.args.text.now c.args.at os (get_or c.args.text.now c.args.at 0) (Unexpected c.args.at) (begins.begin-unexpected c.args.at os (get_or c.args.text.now c.args.at 0) (search rules))

pub any_form_at-returns-then-levels_left-eq0-clause-reads : goal.any_form_at-returns-then-levels_left-eq0-clause-reads
any_form_at-returns-then-levels_left-eq0-clause-reads t c = λ os e.
    begins.begins-fault c.args.text.now c.args.at os (get_or c.args.text.now c.args.at 0) (TooDeep c.args.at) (begins.begin-out-of-levels c.args.at os (get_or c.args.text.now c.args.at 0) (search rules) (omega (arith, e)))

pub any_form_at-returns-in-123-clause-reads : goal.any_form_at-returns-in-123-clause-reads
any_form_at-returns-in-123-clause-reads t c = λ os e.
    let at = c.args.at in
    begins.begun c.args.text.now at os (get_or c.args.text.now at 0) _ c.bracket_at.result (ap (begin at os) c.in-123.is ∙ begins.begin-brace at os (omega (arith, e))) (c.bracket_at.ensures.reads os (omega (arith, e)))

pub any_form_at-returns-in-91-clause-reads : goal.any_form_at-returns-in-91-clause-reads
any_form_at-returns-in-91-clause-reads t c = λ os e.
    let at = c.args.at in
    begins.begun c.args.text.now at os (get_or c.args.text.now at 0) _ c.bracket_at-in-91.result (ap (begin at os) c.in-91.is ∙ begins.begin-square at os (omega (arith, e))) (c.bracket_at-in-91.ensures.reads os (omega (arith, e)))

pub any_form_at-returns-in-45-clause-reads : goal.any_form_at-returns-in-45-clause-reads
any_form_at-returns-in-45-clause-reads t c = λ os e.
    let at = c.args.at in
    begins.begun c.args.text.now at os (get_or c.args.text.now at 0) _ c.integer_at.result (ap (begin at os) c.in-45.is ∙ begins.begin-minus at os (omega (arith, e))) (c.integer_at.ensures.reads os)

pub any_form_at-returns-in-39-clause-reads : goal.any_form_at-returns-in-39-clause-reads
any_form_at-returns-in-39-clause-reads t c = λ os e.
    let at = c.args.at in
    begins.begun c.args.text.now at os (get_or c.args.text.now at 0) _ c.quoted_atom_at.result (ap (begin at os) c.in-39.is ∙ begins.begin-quoted at os (omega (arith, e))) (c.quoted_atom_at.ensures.reads os)

pub any_form_at-returns-in-34-clause-reads : goal.any_form_at-returns-in-34-clause-reads
any_form_at-returns-in-34-clause-reads t c = λ os e.
    let at = c.args.at in
    begins.begun c.args.text.now at os (get_or c.args.text.now at 0) _ c.string_at.result (ap (begin at os) c.in-34.is ∙ begins.begin-string at os (omega (arith, e))) (c.string_at.ensures.reads os (begins.out-of-levels-room (length os) c.args.levels_left e (search rules)))

pub any_form_at-returns-in-60-clause-reads : goal.any_form_at-returns-in-60-clause-reads
any_form_at-returns-in-60-clause-reads t c = λ os e.
    let at = c.args.at in
    begins.begun c.args.text.now at os (get_or c.args.text.now at 0) _ c.pid_or_binary_at.result (ap (begin at os) c.in-60.is ∙ begins.begin-angle at os (omega (arith, e))) (c.pid_or_binary_at.ensures.reads os)

pub any_form_at-returns-in-35-clause-reads : goal.any_form_at-returns-in-35-clause-reads
any_form_at-returns-in-35-clause-reads t c = λ os e.
    let at = c.args.at in
    begins.begun c.args.text.now at os (get_or c.args.text.now at 0) _ c.identifier_at.result (ap (begin at os) c.in-35.is ∙ begins.begin-identifier at os (omega (arith, e))) (c.identifier_at.ensures.reads os)

pub bracket_at-returns-then-next-text-clause-reads :
    goal.bracket_at-returns-then-next-text-clause-reads
bracket_at-returns-then-next-text-clause-reads t c = λ os e.
    let o : OpenBracket = record { square = is_square c.args.bracket; terms = c.loop-found.items } in
    let p : OpenBracket = with_term o c.in-Ok.found.0 in
    let next = c.past_blanks-next.result in
    c.loop-found.invariant.reads os e
    ∙ c.in-Ok.ensures.reads (o ∷ os) (omega (arith, e))
    ∙ c.past_blanks-next.ensures.stays (reads_on after (p ∷ os)) (after-ignores p os)
    ∙ begins.after-ends c.args.text.now next p os (omega arith)

pub bracket_at-returns-then-is_closed_by-2-clause-reads :
    goal.bracket_at-returns-then-is_closed_by-2-clause-reads
bracket_at-returns-then-is_closed_by-2-clause-reads t c = λ os e.
    let o : OpenBracket = record { square = is_square c.args.bracket; terms = c.loop-found.items } in
    let p : OpenBracket = with_term o c.in-Ok.found.0 in
    let next = c.past_blanks-next.result in
    let term : bracket p ≡ c.enclose-then-is_closed_by-2.result = search rules in
    c.loop-found.invariant.reads os e
    ∙ c.in-Ok.ensures.reads (o ∷ os) (omega (arith, e))
    ∙ c.past_blanks-next.ensures.stays (reads_on after (p ∷ os)) (after-ignores p os)
    ∙ begins.after-closes c.args.text.now next p os (omega arith) (search rules)
    ∙ ap (λ (u : Term). read_from (next + 1) (put os u (next + 1)) (drop (next + 1) c.args.text.now)) term

pub bracket_at-returns-then-text-next-ne44-clause-reads :
    goal.bracket_at-returns-then-text-next-ne44-clause-reads
bracket_at-returns-then-text-next-ne44-clause-reads t c = λ os e.
    let o : OpenBracket = record { square = is_square c.args.bracket; terms = c.loop-found.items } in
    let p : OpenBracket = with_term o c.in-Ok.found.0 in
    let next = c.past_blanks-next.result in
    c.loop-found.invariant.reads os e
    ∙ c.in-Ok.ensures.reads (o ∷ os) (omega (arith, e))
    ∙ c.past_blanks-next.ensures.stays (reads_on after (p ∷ os)) (after-ignores p os)
    ∙ begins.after-fails c.args.text.now next p os (omega arith) (search rules) (search rules) (search rules)

pub bracket_at-loop-found-preserved : goal.bracket_at-loop-found-preserved
bracket_at-loop-found-preserved t c = record {
  reads = λ os e.
      let o : OpenBracket = record { square = is_square c.args.bracket; terms = c.loop-found.items } in
      let p : OpenBracket = with_term o c.in-Ok.found.0 in
      let q : OpenBracket = record { square = is_square c.args.bracket; terms = c.push.new.self } in
      let same : p ≡ q = search rules in
      let next = c.past_blanks-next.result in
      c.loop-found.invariant.reads os e
      ∙ c.in-Ok.ensures.reads (o ∷ os) (omega (arith, e))
      ∙ c.past_blanks-next.ensures.stays (reads_on after (p ∷ os)) (after-ignores p os)
      ∙ begins.after-comma c.args.text.now next p os (omega arith) (search rules) (search rules) (search rules)
      ∙ ap (λ (x : OpenBracket). read_from (next + 1) (reads_on (wants false) (x ∷ os)) (drop (next + 1) c.args.text.now)) same;
  forward = omega (arith, c.in-Ok.ensures.within);
  within = omega arith;
}

pub any_form_at-returns-then-is_digit_byte-clause-reads : goal.any_form_at-returns-then-is_digit_byte-clause-reads
any_form_at-returns-then-is_digit_byte-clause-reads t c = λ os e.
    let text = c.args.text.now in
    let at = c.args.at in
    let b = get_or text at 0 in
    let r = c.integer_at-then-is_digit_byte.result in
    begins.begun text at os b (reads_on (number (integer false) at (b - 48)) os) r (begins.begin-digit at os b (omega (arith, e)) (search rules))
    (reads_along text (at + 1) at _ (reads_on (digit (integer false) at) os) os r (sym (read-at text at (reads_on (digit (integer false) at) os) (reads_on (number (integer false) at (b - 48)) os) c.requires (if-true (is_digit b) _ _ (search rules)))) (c.integer_at-then-is_digit_byte.ensures.reads os))

pub any_form_at-name_at-requires-clause-small : goal.any_form_at-name_at-requires-clause-small
any_form_at-name_at-requires-clause-small t c =
    begins.begins-small (get_or c.args.text.now c.args.at 0) (search rules) (search rules) (search rules) (search rules) (search rules) (search rules) (search rules) (search rules) (search rules)

pub any_form_at-returns-else-is_digit_byte-clause-reads : goal.any_form_at-returns-else-is_digit_byte-clause-reads
any_form_at-returns-else-is_digit_byte-clause-reads t c = λ os e.
    let at = c.args.at in
    let b = get_or c.args.text.now at 0 in
    let small = begins.begins-small b (search rules) (search rules) (search rules) (search rules) (search rules) (search rules) (search rules) (search rules) (search rules) in
    begins.begun c.args.text.now at os b (reads_on (name at (b ∷ [])) os) c.name_at.result (begins.begin-name at os b (omega (arith, e)) small) (c.name_at.ensures.reads os)

pub form_at-returns-then-is_lowercase_byte-clause-reads : goal.form_at-returns-then-is_lowercase_byte-clause-reads
form_at-returns-then-is_lowercase_byte-clause-reads t c = λ os e.
    let at = c.args.at in
    let b = get_or c.args.text.now at 0 in
    begins.begun c.args.text.now at os b (reads_on (name at (b ∷ [])) os) c.name_at.result (begins.begin-name at os b (omega (arith, e)) (search rules)) (c.name_at.ensures.reads os)

pub form_at-returns-then-is_digit_byte-clause-reads : goal.form_at-returns-then-is_digit_byte-clause-reads
form_at-returns-then-is_digit_byte-clause-reads t c = λ os e.
    let text = c.args.text.now in
    let at = c.args.at in
    let b = get_or text at 0 in
    let r = c.integer_at.result in
    begins.begun text at os b (reads_on (number (integer false) at (b - 48)) os) r (begins.begin-digit at os b (omega (arith, e)) (search rules))
    (reads_along text (at + 1) at _ (reads_on (digit (integer false) at) os) os r (sym (read-at text at (reads_on (digit (integer false) at) os) (reads_on (number (integer false) at (b - 48)) os) c.requires (if-true (is_digit b) _ _ (search rules)))) (c.integer_at.ensures.reads os))
