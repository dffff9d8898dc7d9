use Rattle.std.proofs.Common.{rules, ◌≡◌, true, Some, None, option_copied, sym, subst}
use Rattle.fixed_walk.specs.laws.Walks.{walk_answer}
use Rattle.node_core.specs.State.{State}
use Rattle.node_core.specs.Observable.{observable}
use Rattle.node_core.specs.Woven.{can_read}
use Rattle.node_core.specs.inside.Walker.{CanContinue}
use Rattle.node_core.proofs.walks.OwnCalls.{finds, not-missing}
use Rattle.node_core.proofs.node.Node.next_key.Goals.{in-None, in-Some-last+in-Ok}
use Rattle.node_core.proofs.node.Node.next_key.Goals as goal

pub unreachable-requires : goal.unreachable-requires
unreachable-requires g c =
    let s : State = record { limits = c.self.inside.limits; world = c.self.inside.world } in
    let now : can_read c.args.pid c.args.id c.args.self.now ≡ true = search rules in
    let can : can_read c.args.pid c.args.id s ≡ true = subst (λ (s : State). can_read c.args.pid c.args.id s ≡ true) (sym c.self.view_is) now in
    let asks : CanContinue c.args.id (observable s) (option_copied c.args.last) = subst (λ (s : State). CanContinue c.args.id (observable s) (option_copied c.args.last)) (sym c.self.view_is) c.requires in
    let asked : CanContinue c.args.id (observable s) (Some c.in-Some-last.key.now) = subst (λ o. CanContinue c.args.id (observable s) (option_copied o)) c.in-Some-last.is asks in
    not-missing c.args.pid c.args.id s c.in-Some.table.now c.in-Some.ensures can c.reveal_invariant.ensures.content c.in-Some-last.key.now asked c.in-Err.ensures.err

pub returns-in-None-found : goal.returns-in-None-found
returns-in-None-found g c =
    let s : State = record { limits = c.self.inside.limits; world = c.self.inside.world } in
    let now : can_read c.args.pid c.args.id c.args.self.now ≡ true = search rules in
    let can : can_read c.args.pid c.args.id s ≡ true = subst (λ (s : State). can_read c.args.pid c.args.id s ≡ true) (sym c.self.view_is) now in
    let asks : CanContinue c.args.id (observable s) (option_copied c.args.last) = subst (λ (s : State). CanContinue c.args.id (observable s) (option_copied c.args.last)) (sym c.self.view_is) c.requires in
    let answer : walk_answer (option_copied c.args.last) c.in-Some.table.now.content.slots ≡ Some None = elim c.match-last.branch [ in-None w ↦ search rules | in-Some-last+in-Ok w ↦ search rules ] in
    rw (← c.self.view_is) (finds c.args.pid c.args.id s c.in-Some.table.now c.in-Some.ensures can c.reveal_invariant.ensures.content (option_copied c.args.last) None asks answer)

pub returns-in-Ok-to_term : goal.returns-in-Ok-to_term
returns-in-Ok-to_term g c =
    let s : State = record { limits = c.self.inside.limits; world = c.self.inside.world } in
    let now : can_read c.args.pid c.args.id c.args.self.now ≡ true = search rules in
    let can : can_read c.args.pid c.args.id s ≡ true = subst (λ (s : State). can_read c.args.pid c.args.id s ≡ true) (sym c.self.view_is) now in
    let asks : CanContinue c.args.id (observable s) (option_copied c.args.last) = subst (λ (s : State). CanContinue c.args.id (observable s) (option_copied c.args.last)) (sym c.self.view_is) c.requires in
    let answer : walk_answer (option_copied c.args.last) c.in-Some.table.now.content.slots ≡ Some (Some c.in-Ok-to_term.key) = elim c.match-last.branch [ in-None w ↦ search rules | in-Some-last+in-Ok w ↦ search rules ] in
    rw (← c.self.view_is) (finds c.args.pid c.args.id s c.in-Some.table.now c.in-Some.ensures can c.reveal_invariant.ensures.content (option_copied c.args.last) (Some c.in-Ok-to_term.key) asks answer)
