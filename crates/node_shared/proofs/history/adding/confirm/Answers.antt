use Rattle.std.proofs.Common.{sym, ◌∙◌, ap}
use Rattle.node_shared.specs.inside.Lines.{no_line}
use Rattle.node_shared.proofs.Relay.{confirms-moves}
use Rattle.node_shared.proofs.Entering.{so-far, so-before}
use Rattle.node_shared.proofs.history.adding.confirm.Goals as goal

pub compare_exchange-requires : goal.compare_exchange-requires
compare_exchange-requires g c =
    let h = c.requires.word in
    let offer = c.plain-offer.ensures in (
      ap (λ w. w.tracked) h,
      c.requires.books.0 ∙ sym (ap (λ w. w.book) h),
      c.requires.books.1 ∙ sym (ap (λ w. w.book) h),
      offer.0,
      rw (ap (λ w. w.key) h, offer.3) (confirms-moves 0 c.args.seen.now.log c.args.turn.now.nib no_line (λ cs log kept pre. kept.word) c.requires.right),
    )

pub returns-clause-same : goal.returns-clause-same
returns-clause-same g c =
    so-far g.B.HistoryId.root c.args.turn.now.nib.key c.args.server.now.log c.args.seen.now.log c.compare_exchange.new.seen.log c.requires.early c.requires.turn c.compare_exchange.ensures.7.1

pub returns-clause-before : goal.returns-clause-before
returns-clause-before g c =
    so-before g.B.HistoryId.root c.args.turn.now.nib.key c.args.server.now.log c.args.seen.now.log c.compare_exchange.new.seen.log c.requires.early c.requires.turn c.compare_exchange.ensures.7.1 c.compare_exchange.ensures.6
