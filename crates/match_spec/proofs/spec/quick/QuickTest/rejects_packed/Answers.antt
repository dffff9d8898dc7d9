use Rattle.std.proofs.Common.{List, true, ◌≡◌, map, sym, subst, ◌∙◌}
use Rattle.ets_term.specs.declared.term.Term.{Term}
use Rattle.ets_term.specs.Data.{tuple, data_of, data_list}
use Rattle.match_spec.specs.inside.QuickTests.{rejects}
use Rattle.match_spec.proofs.QuickLaws.{rejects_elements}
use Rattle.match_spec.proofs.spec.quick.QuickTest.rejects_packed.Goals as goal

pub returns : goal.returns
returns c =
    λ e. rejects_elements c.args.self.now c.args.object.now
    (subst (λ (ts : List Term). rejects c.args.self.now (tuple (data_list (map data_of ts))) ≡ true) c.elements.ensures (sym c.rejects_parts.ensures ∙ e))
