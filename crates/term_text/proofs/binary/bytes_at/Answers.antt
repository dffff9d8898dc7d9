use Rattle.std.proofs.Common.{◌≡◌, rules, arith, ap, ◌∙◌, ◌++◌, ◌∷◌, [], List, ℕ, sym, drop}
use Rattle.term_text.specs.inside.Reader.{reads_on, after_byte, wants_byte, digit, byte, read_from}
use Rattle.term_text.proofs.Binaries.{comma_byte, wants_digit}
use Rattle.term_text.proofs.Blanks.{after_byte_ignores, wants_byte_ignores}
use Rattle.term_text.proofs.binary.bytes_at.Goals as goal

pub loop-bytes-preserved : goal.loop-bytes-preserved
loop-bytes-preserved c = record {
  reads = λ os.
      let text = c.args.text.now in
      let w = c.loop-bytes in
      let bs : List ℕ = w.bytes.items ++ c.in_ok-n.n ∷ [] in
      let next = c.past_blanks-next.result in
      let offset = c.past_blanks-offset.result in
      let grown : c.push.new.self.items ≡ bs = search rules in
      w.invariant.reads os
      ∙ c.in_ok-n.ensures.reads (byte w.bytes.items) os (search rules)
      ∙ c.past_blanks-next.ensures.stays (reads_on (after_byte bs) os) (after_byte_ignores bs os)
      ∙ comma_byte text next bs os (search rules) (search rules)
      ∙ c.past_blanks-offset.ensures.stays (reads_on (wants_byte bs) os) (wants_byte_ignores bs os)
      ∙ wants_digit text offset bs os (search rules)
      ∙ ap (λ (xs : List ℕ). read_from offset (reads_on (digit (byte xs) offset) os) (drop offset text)) (sym grown);
  forward = omega (arith, c.in_ok-n.ensures.within);
  within = search rules;
}
