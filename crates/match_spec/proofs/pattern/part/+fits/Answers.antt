use Rattle.std.proofs.Common.{◌≡◌, map, length, arith}
use Rattle.std.proofs.lemmas.List.{length-map}
use Rattle.match_spec.specs.inside.CompiledPatterns.{part_fits}
use Rattle.match_spec.proofs.PartLaws.{all_fit-lengths}
use Rattle.match_spec.proofs.pattern.part.+fits.Goals as goal

pub all_fit-returns-then-parts-terms : goal.all_fit-returns-then-parts-terms
all_fit-returns-then-parts-terms t c =
    all_fit-lengths _ _ _ (λ (e : length (map part_fits c.args.parts.now) ≡ length c.args.terms.now). c.if-parts-terms.true (omega (arith, e, length-map c.args.parts.now part_fits)))
