use Rattle.node_parts.proofs.ForAllSteps.{steps-are-steps, parts-reply-alike}
use Rattle.node_parts.proofs.laws.steps_on_all_parts_are_steps.Goals as goal

pub returns-clause-steps : goal.returns-clause-steps
returns-clause-steps c = steps-are-steps

pub returns-clause-replies : goal.returns-clause-replies
returns-clause-replies c = parts-reply-alike
