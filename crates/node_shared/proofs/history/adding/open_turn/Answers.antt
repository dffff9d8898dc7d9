use Rattle.std.proofs.Common.{None, refl, sym, ◌∙◌, ap, subst}
use Rattle.std.proofs.lemmas.List.{append-nil}
use Rattle.node_shared.specs.declared.history.rule.Line.{Line}
use Rattle.node_shared.specs.inside.Lines.{IsAdded, history_of}
use Rattle.node_shared.proofs.Relay.{adds-moves}
use Rattle.node_shared.proofs.Entering.{may-add, no-own, added-all, added-next, added-before}
use Rattle.node_shared.proofs.history.adding.open_turn.Goals as goal

pub compare_exchange-requires : goal.compare_exchange-requires
compare_exchange-requires g c =
    let h = c.requires.word in
    let offer = c.plain-offer.ensures in
    let r = g.B.HistoryId.root in
    let line : Line = record { entry = None; chain = r; next = c.args.to.now.next.nib.key; own = 0 } in
    let s = c.args.server.now.log in
    let v = c.args.seen.now.log in
    let key = c.args.turn.nib.key in (
      ap (λ w. w.tracked) h,
      c.requires.books.0 ∙ sym (ap (λ w. w.book) h),
      c.requires.books.1 ∙ sym (ap (λ w. w.book) h),
      offer.0,
      rw (ap (λ w. w.key) h, offer.1, offer.3) (adds-moves v c.args.turn.nib line c.requires.right (may-add r key s s v line refl c.requires.early c.requires.early c.requires.turn (λ p its. no-own r p key s s its))),
    )

pub returns-clause-same : goal.returns-clause-same
returns-clause-same g c =
    let r = g.B.HistoryId.root in
    let line : Line = record { entry = None; chain = r; next = c.args.to.now.next.nib.key; own = 0 } in
    let s = c.args.server.now.log in
    let v = c.args.seen.now.log in
    let key = c.args.turn.nib.key in
    let new = c.compare_exchange.new.seen.log in
    let did : IsAdded v key line new = subst (λ (a : Line). IsAdded v key a new) c.plain-offer.ensures.1 c.compare_exchange.ensures.7 in
    added-all r key s v new line refl c.requires.early c.requires.turn did ∙ append-nil (history_of r s)

pub returns-clause-next : goal.returns-clause-next
returns-clause-next g c =
    let r = g.B.HistoryId.root in
    let line : Line = record { entry = None; chain = r; next = c.args.to.now.next.nib.key; own = 0 } in
    let s = c.args.server.now.log in
    let v = c.args.seen.now.log in
    let key = c.args.turn.nib.key in
    let new = c.compare_exchange.new.seen.log in
    let did : IsAdded v key line new = subst (λ (a : Line). IsAdded v key a new) c.plain-offer.ensures.1 c.compare_exchange.ensures.7 in
    added-next r key s v new line refl c.requires.early c.requires.turn did

pub returns-clause-before : goal.returns-clause-before
returns-clause-before g c =
    let r = g.B.HistoryId.root in
    let line : Line = record { entry = None; chain = r; next = c.args.to.now.next.nib.key; own = 0 } in
    let s = c.args.server.now.log in
    let v = c.args.seen.now.log in
    let key = c.args.turn.nib.key in
    let new = c.compare_exchange.new.seen.log in
    let did : IsAdded v key line new = subst (λ (a : Line). IsAdded v key a new) c.plain-offer.ensures.1 c.compare_exchange.ensures.7 in
    added-before r key s v new line refl c.requires.early c.requires.turn did
