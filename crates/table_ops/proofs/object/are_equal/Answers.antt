use Rattle.std.proofs.Common.{◌∙◌}
use Rattle.table_ops.proofs.SameLaws.{same-turned}
use Rattle.table_ops.proofs.object.are_equal.Goals as goal

pub returns : goal.returns
returns c = c.is_equal.ensures ∙ same-turned c.args.stored.now c.args.object.now
