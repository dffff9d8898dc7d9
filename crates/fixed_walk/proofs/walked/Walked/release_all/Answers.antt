use Rattle.std.proofs.Common.{◌≡◌, false, sym, subst, ◌∙◌}
use Rattle.fixed_walk.specs.Fixes.{is_fixed}
use Rattle.fixed_walk.specs.TableState.{TableState}
use Rattle.fixed_walk.specs.Invariants.{TombstonesOnlyWhileFixed}
use Rattle.fixed_walk.proofs.TombstoneLaws.{free-release_all}
use Rattle.fixed_walk.proofs.walked.Walked.release_all.Goals as goal

pub returns-then-not-is_fixed : goal.returns-then-not-is_fixed
returns-then-not-is_fixed g c =
    let free : is_fixed c.self.inside.fixes ≡ false = sym c.is_fixed.ensures ∙ c.if-not-is_fixed.true in
    free-release_all c.args.pid c.args.self.now (subst (λ (t : TableState). is_fixed t.fixes ≡ false) c.self.view_is free) (subst TombstonesOnlyWhileFixed c.self.view_is c.self.invariant)
