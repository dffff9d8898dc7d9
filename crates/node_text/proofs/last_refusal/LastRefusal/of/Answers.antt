use Rattle.std.proofs.Common.{sym, ap, ◌∙◌}
use Rattle.std.specs.Prelude.{option_map}
use Rattle.node_text.specs.declared.last_refusal.LastRefusal.TheVariants.{Broken}
use Rattle.node_text.proofs.last_refusal.LastRefusal.of.Goals as goal

pub returns-in-Some : goal.returns-in-Some
returns-in-Some c old ran =
    ap (option_map Broken) (sym c.in-Some.is ∙ c.why.ensures.named old ran)

pub returns-in-None : goal.returns-in-None
returns-in-None c old ran =
    ap (option_map Broken) (sym c.in-None.is ∙ c.why.ensures.named old ran)
