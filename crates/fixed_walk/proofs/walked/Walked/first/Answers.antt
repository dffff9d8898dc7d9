use Rattle.std.proofs.Common.{ap, ◌∙◌}
use Rattle.fixed_walk.proofs.FromLaws.{key_in, first-key}
use Rattle.fixed_walk.proofs.walked.Walked.first.Goals as goal

pub returns : goal.returns
returns g c = c.key_of.ensures ∙ ap key_in c.first_lookup.ensures ∙ first-key c.args.self.now.content.slots
