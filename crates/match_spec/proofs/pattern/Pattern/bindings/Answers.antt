use Rattle.ets_term.specs.Data.{data_of}
use Rattle.match_spec.proofs.BoolLaws.{IfOk-map}
use Rattle.match_spec.proofs.MatchLaws.{is_bindings}
use Rattle.match_spec.proofs.pattern.Pattern.bindings.Goals as goal

pub returns-clause-matches : goal.returns-clause-matches
returns-clause-matches c = IfOk-map c.find_bindings.result _ _ (λ found e. is_bindings (data_of c.args.self.now) (data_of c.args.term.now) _ e) c.find_bindings.ensures
