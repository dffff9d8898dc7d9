use Rattle.std.proofs.Common.{◌∙◌, ap}
use Rattle.std.specs.Prelude.{is_some}
use Rattle.node_core.specs.Observable.{observable}
use Rattle.node_reasons.proofs.Exact.{reason_for-right, reason_for-exact}
use Rattle.node_reasons.proofs.Unchanged.{told}
use Rattle.node_reasons.proofs.refusals.why.Goals as goal

pub returns-clause-exactly : goal.returns-clause-exactly
returns-clause-exactly g c = ap is_some c.explain.ensures ∙ reason_for-exact c.args.node.now.world c.args.event.now c.args.reply.now

pub returns-clause-named : goal.returns-clause-named
returns-clause-named g c old ran =
    told c.explain.result old (observable c.args.node.now) c.args.event.now c.args.reply.now
    (ap is_some c.explain.ensures ∙ reason_for-exact c.args.node.now.world c.args.event.now c.args.reply.now)
    (λ new h. c.explain.ensures ∙ reason_for-right c.args.node.now new c.args.event.now c.args.reply.now h) ran
