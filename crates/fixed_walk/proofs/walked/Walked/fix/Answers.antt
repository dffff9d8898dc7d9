use Rattle.std.proofs.Common.{sym, ap, ◌∙◌, true≢false}
use Rattle.fixed_walk.specs.Fixes.{is_fixed, fix_count}
use Rattle.fixed_walk.proofs.CountLaws.{with_more-fixed}
use Rattle.fixed_walk.proofs.walked.Walked.fix.Goals as goal

pub invariant_of-self-2 : goal.invariant_of-self-2
invariant_of-self-2 g c free = absurd (true≢false (sym (ap is_fixed c.in_ok-increment.ensures.ok ∙ with_more-fixed c.self.inside.fixes c.args.pid (fix_count c.self.inside.fixes c.args.pid)) ∙ free))
