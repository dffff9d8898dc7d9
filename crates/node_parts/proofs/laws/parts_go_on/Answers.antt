use Rattle.node_parts.proofs.Runs.{parts-go-on, call-takes-on, event-takes-on}
use Rattle.node_parts.proofs.laws.parts_go_on.Goals as goal

pub returns-clause-all : goal.returns-clause-all
returns-clause-all c = parts-go-on

pub returns-clause-one : goal.returns-clause-one
returns-clause-one c = call-takes-on

pub returns-clause-some : goal.returns-clause-some
returns-clause-some c = event-takes-on
