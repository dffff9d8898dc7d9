use Rattle.std.proofs.Common.{arith, ◌∙◌}
use Rattle.split_key.proofs.Revs.{rev-onto}
use Rattle.split_key.proofs.keys.rev32.Goals as goal

pub returns : goal.returns
returns c = c.reverse_bits.ensures ∙ (rev-onto 32 c.args.number 0 ∙ omega arith)
