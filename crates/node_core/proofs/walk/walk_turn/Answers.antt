use Rattle.std.proofs.Common.{refl, subst, Ok, Err, length, drop}
use Rattle.std.proofs.lemmas.Result.{err_from_is_err_and}
use Rattle.node_core.specs.inside.Walker.{RunsOthers}
use Rattle.node_core.proofs.walks.WalkParts.{on-done, on-refused, sliced, turn-out-of-memory, turn-stopped, goes-further, turn-unfound, turn-done}
use Rattle.node_core.proofs.walk.walk_turn.Goals as goal

pub returns-then-is_err-clause-turn : goal.returns-then-is_err-clause-turn
returns-then-is_err-clause-turn g c =
    let keys = g.O.Others.keys c.args.others.now in
    let given = g.O.Others.steps c.args.others.now in
    turn-out-of-memory c.args.traversal.pid c.args.traversal.id c.args.node.now keys given c.args.key keys given refl refl

pub returns-then-is_err-2-clause-turn : goal.returns-then-is_err-2-clause-turn
returns-then-is_err-2-clause-turn g c =
    turn-out-of-memory c.args.traversal.pid c.args.traversal.id c.args.node.now (g.O.Others.keys c.args.others.now) (g.O.Others.steps c.args.others.now) c.args.key (g.O.Others.keys c.between.new.self) (g.O.Others.steps c.between.new.self)
    (on-refused c.between.result c.if-is_err-2.ensures.value c.between.ensures.err_keys) (on-refused c.between.result c.if-is_err-2.ensures.value c.between.ensures.err_steps)

pub returns-in_err-run_steps-clause-turn : goal.returns-in_err-run_steps-clause-turn
returns-in_err-run_steps-clause-turn g c =
    let now = c.args.node.now in
    let mid = c.run_steps.new.node in
    let keys = g.O.Others.keys c.args.others.now in
    let given = g.O.Others.steps c.args.others.now in
    let keys' = g.O.Others.keys c.between.new.self in
    let given' = g.O.Others.steps c.between.new.self in
    let why = c.in_err-run_steps.field-0.0 in
    let p = err_from_is_err_and c.from_residual.result c.from_residual.ensures.1 in
    let last = sliced c.given-before.result.now c.given.result.now given given' c.given-before.ensures c.given.ensures in
    let ran : RunsOthers c.args.traversal.pid now (drop (length given) given') (Err why) mid = subst (λ gs. RunsOthers c.args.traversal.pid now gs (Err why) mid) last c.in_err-run_steps.ensures in
    rw (p.1, p.2) (turn-stopped c.args.traversal.pid c.args.traversal.id now keys given c.args.key keys' given' (on-done c.between.result c.if-is_err-2.ensures.value c.between.ensures.ok) mid why ran)

pub next_key-requires : goal.next_key-requires
next_key-requires g c =
    let now = c.args.node.now in
    let mid = c.run_steps.new.node in
    let keys = g.O.Others.keys c.args.others.now in
    let given = g.O.Others.steps c.args.others.now in
    let keys' = g.O.Others.keys c.between.new.self in
    let given' = g.O.Others.steps c.between.new.self in
    let last = sliced c.given-before.result.now c.given.result.now given given' c.given-before.ensures c.given.ensures in
    let ran : RunsOthers c.args.traversal.pid now (drop (length given) given') (Ok tt) mid = subst (λ gs. RunsOthers c.args.traversal.pid now gs (Ok tt) mid) last c.in_ok-run_steps.ensures in
    goes-further c.args.traversal.pid c.args.traversal.id now keys given c.args.key keys' given' (on-done c.between.result c.if-is_err-2.ensures.value c.between.ensures.ok) mid ran c.requires.so_far.0 c.requires.so_far.1

pub returns-in_err-found-clause-turn : goal.returns-in_err-found-clause-turn
returns-in_err-found-clause-turn g c =
    let now = c.args.node.now in
    let mid = c.run_steps.new.node in
    let keys = g.O.Others.keys c.args.others.now in
    let given = g.O.Others.steps c.args.others.now in
    let keys' = g.O.Others.keys c.between.new.self in
    let given' = g.O.Others.steps c.between.new.self in
    let p = err_from_is_err_and c.from_residual-in_err-found.result c.from_residual-in_err-found.ensures.1 in
    let last = sliced c.given-before.result.now c.given.result.now given given' c.given-before.ensures c.given.ensures in
    let ran : RunsOthers c.args.traversal.pid now (drop (length given) given') (Ok tt) mid = subst (λ gs. RunsOthers c.args.traversal.pid now gs (Ok tt) mid) last c.in_ok-run_steps.ensures in
    rw (p.1, p.2) (turn-unfound c.args.traversal.pid c.args.traversal.id now keys given c.args.key keys' given' (on-done c.between.result c.if-is_err-2.ensures.value c.between.ensures.ok) mid ran c.in_err-found.field-0.0 c.in_err-found.ensures)

pub returns-clause-turn : goal.returns-clause-turn
returns-clause-turn g c =
    let now = c.args.node.now in
    let mid = c.run_steps.new.node in
    let keys = g.O.Others.keys c.args.others.now in
    let given = g.O.Others.steps c.args.others.now in
    let keys' = g.O.Others.keys c.between.new.self in
    let given' = g.O.Others.steps c.between.new.self in
    let last = sliced c.given-before.result.now c.given.result.now given given' c.given-before.ensures c.given.ensures in
    let ran : RunsOthers c.args.traversal.pid now (drop (length given) given') (Ok tt) mid = subst (λ gs. RunsOthers c.args.traversal.pid now gs (Ok tt) mid) last c.in_ok-run_steps.ensures in
    turn-done c.args.traversal.pid c.args.traversal.id now keys given c.args.key keys' given' (on-done c.between.result c.if-is_err-2.ensures.value c.between.ensures.ok) mid ran c.in_ok-found.found c.in_ok-found.ensures
