use Rattle.std.proofs.Common.{sym, ◌∙◌, ap}
use Rattle.node_shared.specs.inside.Lines.{no_line}
use Rattle.node_shared.proofs.Relay.{makes-moves}
use Rattle.node_shared.proofs.history.adding.new_pen.Goals as goal

pub compare_exchange-requires : goal.compare_exchange-requires
compare_exchange-requires c =
    let h = c.requires in
    let offer = c.plain-offer.ensures in
    let pen = c.no_pen-pen.ensures in (
      ap (λ w. w.tracked) h,
      sym (ap (λ w. w.book) h),
      pen.0 ∙ sym (ap (λ w. w.book) h),
      offer.0,
      rw (ap (λ w. w.key) h, pen.1, offer.3) (makes-moves c.args.seen.now.log no_line),
    )
