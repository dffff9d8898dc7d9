use Rattle.std.proofs.Common.{refl}
use Rattle.std.specs.Map.{lookup}
use Rattle.std.specs.Prelude.{◌==◌}
use Rattle.ownership.proofs.Owning.{forgotten}
use Rattle.ownership.proofs.indices.Indices.remove_owner.Goals as goal

pub returns : goal.returns
returns c = record {
  rest = refl;
  gone = forgotten (λ q. lookup (λ k. q == k) c.args.self.now.owned.entries) (λ q. lookup (λ k. q == k) c.swap_remove.new.self.entries) c.args.owner (λ q. c.swap_remove.ensures.updates.0 q);
}
