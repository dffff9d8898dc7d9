use Rattle.std.proofs.Common.{List, ℕ, take, refl, subst}
use Rattle.ets_script.specs.Lines.{text, too_long}
use Rattle.ets_script.specs.Script.{AnswersLine}
use Rattle.ets_script.proofs.run.answer_next.Goals as goal

pub returns-in-Text : goal.returns-in-Text
returns-in-Text g c = record {
  line = text (take c.in-Text.text c.args.buffer.now.bytes);
  some = c.in-Text.ensures.0;
  within = c.in-Text.ensures.1;
  ends = c.in-Text.ensures.3;
  answers = subst (λ (l : List ℕ). AnswersLine c.args.script.now (text (take c.in-Text.text l)) c.answer.new.answer c.answer.new.self) c.bytes.ensures c.answer.ensures;
}

pub returns-in-TooLong : goal.returns-in-TooLong
returns-in-TooLong g c = record { line = too_long; some = c.in-TooLong.ensures.0; within = c.in-TooLong.ensures.1; ends = c.in-TooLong.ensures.2; answers = (refl, refl) }
