use Rattle.std.proofs.Common.{◌≡◌, Bor, List, ℕ, map}
use Rattle.match_spec.proofs.pattern.path.paths_by_number.Given as goal

abbrev pub invariant-loop-path : goal.invariant-loop-path
invariant-loop-path l = l.paths.items ≡ map (λ (path : Bor (List ℕ)). path.now) l.yielded
