use Rattle.std.proofs.Common.{rules, arith, ◌≤◌, Err, ◌∙◌, sym, subst, subst₂, length}
use Rattle.std.proofs.lemmas.Result.{err_from_is_err_and}
use Rattle.node_core.specs.inside.Walker.{WalkSoFar, WalkResult}
use Rattle.node_core.proofs.walks.Turns.{begun, not-begun, past-limit}
use Rattle.node_core.proofs.walk.walk_fixed_table.Goals as goal

pub returns-in_err-found : goal.returns-in_err-found
returns-in_err-found g c =
    let now = c.args.node.now in
    let why = c.in_err-found.field-0.0 in
    let p = err_from_is_err_and c.from_residual.result c.from_residual.ensures.1 in
    rw (p.1, p.2) (subst₂ (λ ks gs. WalkResult c.args.traversal.pid c.args.traversal.id c.args.limit now ks gs (Err why) now) (sym c.requires.keys) (sym c.requires.steps)
    (λ old stays. not-begun c.args.traversal.pid c.args.traversal.id old now stays why c.args.limit c.in_err-found.ensures))

pub loop-at-init : goal.loop-at-init
loop-at-init g c =
    let now = c.args.node.now in
    record {
      keys_are = c.requires.keys ∙ sym c.new-keys.ensures.items;
      count = search rules;
      so_far = λ old stays. subst₂ (λ ks gs. WalkSoFar c.args.traversal.pid c.args.traversal.id old ks gs c.in_ok-found.found now) (sym c.new-keys.ensures.items) (sym c.requires.steps)
          (begun c.args.traversal.pid c.args.traversal.id old now stays c.in_ok-found.found c.in_ok-found.ensures);
    }

pub returns-in_err-found-2 : goal.returns-in_err-found-2
returns-in_err-found-2 g c =
    let at = c.loop-at in
    let given = g.O.Others.steps at.others in
    let p = err_from_is_err_and c.from_residual-in_err-found-2.result c.from_residual-in_err-found-2.ensures.1 in
    rw (p.1, p.2)
    (λ old stays. c.in_err-found-2.ensures.turn old (subst₂ (λ ks found. WalkSoFar c.args.traversal.pid c.args.traversal.id old ks given found at.node) (sym at.invariant.keys_are) c.in-Some.is (at.invariant.so_far old stays)) c.args.limit)

pub loop-at-preserved : goal.loop-at-preserved
loop-at-preserved g c =
    let at = c.loop-at in
    let given = g.O.Others.steps at.others in
    let given' = g.O.Others.steps c.walk_turn.new.others in
    let next = c.in_ok-found-2 in
    record {
      keys_are = sym next.ensures.keys;
      count = omega (arith, next.ensures.count, at.invariant.count);
      so_far = λ old stays. subst (λ ks. WalkSoFar c.args.traversal.pid c.args.traversal.id old ks given' next.found c.walk_turn.new.node) (sym next.ensures.keys)
          (next.ensures.turn old (subst₂ (λ ks found. WalkSoFar c.args.traversal.pid c.args.traversal.id old ks given found at.node) (sym at.invariant.keys_are) c.in-Some.is (at.invariant.so_far old stays)));
    }

pub returns-in_default : goal.returns-in_default
returns-in_default g c =
    let at = c.loop-at in
    let given = g.O.Others.steps at.others in
    let few : length (g.O.Others.keys at.others) ≤ c.args.limit = search rules in
    λ old stays. (
      c.from_keys.ensures ∙ sym at.invariant.keys_are,
      few,
      subst₂ (λ ks found. WalkSoFar c.args.traversal.pid c.args.traversal.id old ks given found at.node) (sym at.invariant.keys_are) c.in_default.is (at.invariant.so_far old stays),
    )

pub returns-in-None : goal.returns-in-None
returns-in-None g c =
    let at = c.loop-at in
    let given = g.O.Others.steps at.others in
    let few : length (g.O.Others.keys at.others) ≤ c.args.limit = search rules in
    λ old stays. (
      c.from_keys-in-None.ensures ∙ sym at.invariant.keys_are,
      few,
      subst₂ (λ ks found. WalkSoFar c.args.traversal.pid c.args.traversal.id old ks given found at.node) (sym at.invariant.keys_are) c.in-None.is (at.invariant.so_far old stays),
    )

pub returns-in-Some-found : goal.returns-in-Some-found
returns-in-Some-found g c =
    let at = c.loop-at in
    let keys = g.O.Others.keys at.others in
    let given = g.O.Others.steps at.others in
    λ old stays. past-limit c.args.traversal.pid c.args.traversal.id old keys given c.in-Some-found.field-0 at.node c.args.limit
    (subst₂ (λ ks found. WalkSoFar c.args.traversal.pid c.args.traversal.id old ks given found at.node) (sym at.invariant.keys_are) c.in-Some-found.is (at.invariant.so_far old stays)) (search rules)
