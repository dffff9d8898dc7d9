use Rattle.std.proofs.Common.{sym, ◌∙◌, ap}
use Rattle.node_shared.specs.inside.Lines.{no_line, of_process}
use Rattle.node_shared.proofs.Prefixes.{prefix_trans}
use Rattle.node_shared.proofs.Lines.{since-entries}
use Rattle.node_shared.proofs.Relay.{confirms-moves, spent-home}
use Rattle.node_shared.proofs.history.adding.confirm_own.Goals as goal

pub compare_exchange-requires : goal.compare_exchange-requires
compare_exchange-requires g c =
    let h = c.requires.word in
    let offer = c.plain-offer.ensures in
    let v = c.args.seen.now.log in
    let m = c.args.mine.now.log in
    let k = c.args.word.now.key in (
      ap (λ w. w.tracked) h,
      c.requires.books.0 ∙ sym (ap (λ w. w.book) h),
      c.requires.books.1 ∙ sym (ap (λ w. w.book) h),
      offer.0,
      rw (offer.3) (confirms-moves k v c.args.turn.now.nib no_line (λ cs log kept pre. spent-home m k c.requires.home cs log kept (prefix_trans m v log c.requires.early pre)) c.requires.right),
    )

pub returns-clause-exact : goal.returns-clause-exact
returns-clause-exact g c =
    let r = g.B.HistoryId.root in
    let m = c.args.mine.now.log in
    let new = c.compare_exchange.new.seen.log in
    since-entries r c.args.pid m new (c.compare_exchange.ensures.7.1 (of_process r c.args.pid) m c.requires.early c.requires.turn)
