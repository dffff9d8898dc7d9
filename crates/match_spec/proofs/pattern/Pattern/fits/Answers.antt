use Rattle.std.proofs.Common.{◌∙◌}
use Rattle.match_spec.proofs.FitLaws.{fits-bindings}
use Rattle.match_spec.proofs.pattern.Pattern.fits.Goals as goal

pub returns : goal.returns
returns c = rw (← c.self.view_is) (c.fits.ensures ∙ fits-bindings _ _ _ _ c.self.invariant)
