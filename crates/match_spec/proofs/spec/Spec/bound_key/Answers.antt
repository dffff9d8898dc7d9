use Rattle.std.proofs.Common.{List, sym, ap, ◌∙◌, map}
use Rattle.ets_term.specs.Data.{list, data_of, data_list}
use Rattle.ets_term.specs.declared.term.Term.{Term}
use Rattle.ets_term.specs.laws.Exact.{data_of-List}
use Rattle.match_spec.specs.BoundKeys.{spec_key}
use Rattle.match_spec.proofs.KeyLaws.{every_result}
use Rattle.match_spec.proofs.spec.Spec.bound_key.Goals as goal

pub returns-in-List-clause-every : goal.returns-in-List-clause-every
returns-in-List-clause-every c =
    rw (← c.self.view_is) (every_result c.args.keypos (data_of c.self.inside.source) c.common_bound_key.result
    (c.common_bound_key.ensures ∙ ap (λ (ts : List Term). spec_key c.args.keypos (list (data_list (map data_of ts)))) c.as_slice.ensures
    ∙ ap (spec_key c.args.keypos) (sym (ap data_of c.in-List.is ∙ data_of-List _))))
