use Rattle.std.proofs.Common.{◌≡◌, vec_len}
use Rattle.node_core.specs.State.{State}
use Rattle.node_core.specs.inside.Walker.{WalkSoFar, FixIsDone}
use Rattle.node_core.proofs.walk.walk_fixed_table.Given as goal

-- the traversal is as the turns so far left it, and each gave a key
abbrev pub invariant-loop-at : goal.invariant-loop-at
invariant-loop-at g l = record {
  keys_are : g.O.Others.keys l.others ≡ l.keys.items;
  count : vec_len l.keys ≡ l._at;
  so_far : (old : State) → FixIsDone l.traversal.pid l.traversal.id old l.fn.node → WalkSoFar l.traversal.pid l.traversal.id old l.keys.items (g.O.Others.steps l.others) l.found l.node;
}
