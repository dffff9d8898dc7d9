use Rattle.std.proofs.Common.{◌∙◌, sym, ap}
use Rattle.std.specs.FinMap as map
use Rattle.fixed_walk.specs.inside.LazyFixes.{boxed_fixes}
use Rattle.fixed_walk.proofs.CountLaws.{no-box, free-cleared}
use Rattle.fixed_walk.proofs.lazy_fixes.LazyFixes.clear.Goals as goal
use Rattle.fixed_walk.proofs.lazy_fixes.LazyFixes.clear.Goals.{in-Some, in_default}

pub returns : goal.returns
returns c =
    elim c.match-self.branch [
      | in-Some w ↦
          ap (λ i. boxed_fixes i.fixes) w.self-inside-is
          ∙ w.clear.ensures
          ∙ ap (λ m. map.remove m c.args.pid) (w.deref_mut.ensures.value ∙ ap boxed_fixes (sym w.in-Some.is) ∙ c.self.view_is)
      | in_default w ↦
          ap (λ i. boxed_fixes i.fixes) w.self-inside-is
          ∙ c.self.view_is
          ∙ sym (free-cleared c.args.self.now c.args.pid (no-box c.self.inside.fixes c.args.self.now w.in_default.is c.self.view_is))
    ]
