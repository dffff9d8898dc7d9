use Rattle.std.proofs.Common.{◌≡◌, ℕ, false, refl, sym, ◌∙◌}
use Rattle.node_core.specs.Woven.{is_step_of}
use Rattle.node_core.proofs.pending.Tending.{due-tends}
use Rattle.node_shared.specs.Journal.{entry}
use Rattle.node_shared.proofs.Growing.{run-on, counts-on}
use Rattle.node_shared.proofs.Knowing.{known-growth}
use Rattle.node_shared.proofs.served.ServedNode.tend.Goals as goal

pub enter_growth-requires-clause-own : goal.enter_growth-requires-clause-own
enter_growth-requires-clause-own g c p =
    due-tends (λ s. is_step_of p s ≡ false) (λ t. refl) (λ t bucket. refl) c.self.inside.node c.in-Some.due (sym c.due.ensures ∙ c.in-Some.is)

pub invariant_of-self-2 : goal.invariant_of-self-2
invariant_of-self-2 g c =
    let did = c.in_ok-reply.ensures in
    let was = c.self.invariant in
    let h = c.self.inside.owner in
    let old = c.self.inside.node in
    let new = c.step.new.self in
    let due = c.in-Some.due in
    let reply = c.in_ok-reply.reply in
    let none : (p : ℕ) → is_step_of p due ≡ false = λ p. due-tends (λ s. is_step_of p s ≡ false) (λ t. refl) (λ t bucket. refl) old due (sym c.due.ensures ∙ c.in-Some.is) in (
      rw c.enter_growth.ensures.all (run-on g.B.HistoryId.limits old new h due reply was.0 (did.ok, did.buckets)),
      rw (c.saturating_add-self-inside.ensures, c.enter_growth.ensures.all) (counts-on h (entry due reply) c.self.inside.count was.1),
      rw c.enter_growth.ensures.all (known-growth h old new due reply was.2 (did.ok, did.buckets) none),
    )
