use Rattle.std.proofs.Common.{◌-◌, ◌∙◌, sym, ap}
use Rattle.fixed_walk.specs.Fixes.{with_count, fix_count}
use Rattle.fixed_walk.specs.inside.LazyFixes.{boxed_fixes}
use Rattle.fixed_walk.proofs.CountLaws.{no-box, free-released}
use Rattle.fixed_walk.proofs.lazy_fixes.LazyFixes.decrement.Goals as goal
use Rattle.fixed_walk.proofs.lazy_fixes.LazyFixes.decrement.Goals.{in-Some, in_default}

pub returns : goal.returns
returns c =
    elim c.match-self.branch [
      | in-Some w ↦
          ap (λ i. boxed_fixes i.fixes) w.self-inside-is
          ∙ w.decrement.ensures
          ∙ ap (λ m. with_count m c.args.pid (fix_count m c.args.pid - 1)) (w.deref_mut.ensures.value ∙ ap boxed_fixes (sym w.in-Some.is) ∙ c.self.view_is)
      | in_default w ↦
          ap (λ i. boxed_fixes i.fixes) w.self-inside-is
          ∙ c.self.view_is
          ∙ sym (free-released c.args.self.now c.args.pid (no-box c.self.inside.fixes c.args.self.now w.in_default.is c.self.view_is))
    ]
