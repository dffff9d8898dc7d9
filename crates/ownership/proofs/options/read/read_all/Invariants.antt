use Rattle.std.proofs.Common.{◌≡◌, ◌≤◌, drop}
use Rattle.ownership.specs.Options.{options_from, default_options}
use Rattle.ownership.proofs.options.read.read_all.Given as goal

abbrev pub invariant-loop-term : goal.invariant-loop-term
invariant-loop-term l = record {
  rest : options_from l.options (drop l.term-index l.terms) ≡ options_from default_options l.fn.terms;
  keypos : 1 ≤ l.options.keypos;
}
