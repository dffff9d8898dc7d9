use Rattle.std.proofs.Common.{rules, ◌≡◌, ◌∙◌, sym, ap, subst, None, Some}
use Rattle.std.specs.Option.{option_map}
use Rattle.node_core.specs.Machine.{step}
use Rattle.node_reasons.specs.Why.{why}
use Rattle.node_reasons.proofs.Unchanged.{again}
use Rattle.node_reasons.specs.declared.diagnostic.Diagnostic.TheVariants.{BrokenRule}
use Rattle.ets_script.proofs.explain.explain_step.Goals as goal

pub returns-in_err-reason : goal.returns-in_err-reason
returns-in_err-reason g c new given =
    let there = subst (λ s. step s c.args.event c.args.reply.now new) (sym c.node.ensures) given in
    let returned : c.why.result ≡ why c.args.script.now.node c.args.event c.args.reply.now = again c.why.result _ c.args.event c.args.reply.now c.why.ensures.exactly c.why.ensures.named new there ∙ ap (λ s. why s c.args.event c.args.reply.now) c.node.ensures in
    let none : c.why.result ≡ None = search rules in
    let left : c.from_residual.result ≡ None = search rules in
    left ∙ ap (option_map (BrokenRule c.args.event)) (sym none ∙ returned)

pub returns : goal.returns
returns g c new given =
    let there = subst (λ s. step s c.args.event c.args.reply.now new) (sym c.node.ensures) given in
    let returned : c.why.result ≡ why c.args.script.now.node c.args.event c.args.reply.now = again c.why.result _ c.args.event c.args.reply.now c.why.ensures.exactly c.why.ensures.named new there ∙ ap (λ s. why s c.args.event c.args.reply.now) c.node.ensures in
    let some : c.why.result ≡ Some c.in_ok-reason.reason = search rules in
    ap (option_map (BrokenRule c.args.event)) (sym some ∙ returned)
