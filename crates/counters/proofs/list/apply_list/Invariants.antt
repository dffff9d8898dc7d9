use Rattle.std.proofs.Common.{◌≡◌, ◌++◌, drop, option_map}
use Rattle.counters.specs.Counters.{apply_all}
use Rattle.counters.specs.inside.Lists.{restore}
use Rattle.counters.proofs.list.apply_list.Given as goal

abbrev pub invariant-loop-op : goal.invariant-loop-op
invariant-loop-op l = record {
  back : restore l.overwritten l.elements ≡ l.fn.elements;
  so_far : option_map (λ r. (r.0, l.answers ++ r.1)) (apply_all (drop l.op-index l.ops) l.elements) ≡ apply_all l.ops l.fn.elements;
}
