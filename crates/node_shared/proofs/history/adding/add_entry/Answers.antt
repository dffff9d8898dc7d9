use Rattle.std.proofs.Common.{Some, refl, sym, ◌∙◌, ap, subst}
use Rattle.node_shared.specs.declared.history.rule.Line.{Line}
use Rattle.node_shared.specs.inside.Lines.{IsAdded}
use Rattle.node_shared.proofs.Relay.{adds-moves}
use Rattle.node_shared.proofs.Entering.{may-add, added-all, added-next, added-spent, added-own, added-before, added-exact}
use Rattle.node_shared.proofs.history.adding.add_entry.Goals as goal

pub compare_exchange-requires : goal.compare_exchange-requires
compare_exchange-requires g c =
    let h = c.requires.word in
    let offer = c.plain-offer.ensures in
    let r = g.B.HistoryId.root in
    let line : Line = record { entry = Some c.args.added.now.entry; chain = r; next = c.args.added.now.next.nib.key; own = c.args.added.now.own.nib.key } in
    let s = c.args.server.now.log in
    let m = c.args.mine.now.log in
    let v = c.args.seen.now.log in
    let key = c.args.turn.nib.key in (
      ap (λ w. w.tracked) h,
      c.requires.books.0 ∙ sym (ap (λ w. w.book) h),
      c.requires.books.1 ∙ sym (ap (λ w. w.book) h),
      offer.0,
      rw (ap (λ w. w.key) h, offer.1, offer.3) (adds-moves v c.args.turn.nib line c.requires.right (may-add r key s m v line refl c.requires.early c.requires.own_early c.requires.turn c.requires.own)),
    )

pub returns-clause-all : goal.returns-clause-all
returns-clause-all g c =
    let r = g.B.HistoryId.root in
    let line : Line = record { entry = Some c.args.added.now.entry; chain = r; next = c.args.added.now.next.nib.key; own = c.args.added.now.own.nib.key } in
    let s = c.args.server.now.log in
    let v = c.args.seen.now.log in
    let key = c.args.turn.nib.key in
    let new = c.compare_exchange.new.seen.log in
    let did : IsAdded v key line new = subst (λ (a : Line). IsAdded v key a new) c.plain-offer.ensures.1 c.compare_exchange.ensures.7 in
    added-all r key s v new line refl c.requires.early c.requires.turn did

pub returns-clause-next : goal.returns-clause-next
returns-clause-next g c =
    let r = g.B.HistoryId.root in
    let line : Line = record { entry = Some c.args.added.now.entry; chain = r; next = c.args.added.now.next.nib.key; own = c.args.added.now.own.nib.key } in
    let s = c.args.server.now.log in
    let v = c.args.seen.now.log in
    let key = c.args.turn.nib.key in
    let new = c.compare_exchange.new.seen.log in
    let did : IsAdded v key line new = subst (λ (a : Line). IsAdded v key a new) c.plain-offer.ensures.1 c.compare_exchange.ensures.7 in
    added-next r key s v new line refl c.requires.early c.requires.turn did

pub returns-clause-spent : goal.returns-clause-spent
returns-clause-spent g c =
    let r = g.B.HistoryId.root in
    let line : Line = record { entry = Some c.args.added.now.entry; chain = r; next = c.args.added.now.next.nib.key; own = c.args.added.now.own.nib.key } in
    let s = c.args.server.now.log in
    let v = c.args.seen.now.log in
    let key = c.args.turn.nib.key in
    let new = c.compare_exchange.new.seen.log in
    let did : IsAdded v key line new = subst (λ (a : Line). IsAdded v key a new) c.plain-offer.ensures.1 c.compare_exchange.ensures.7 in
    added-spent r key s v new line refl c.requires.early c.requires.turn did

pub returns-clause-own : goal.returns-clause-own
returns-clause-own g c =
    let r = g.B.HistoryId.root in
    let line : Line = record { entry = Some c.args.added.now.entry; chain = r; next = c.args.added.now.next.nib.key; own = c.args.added.now.own.nib.key } in
    let s = c.args.server.now.log in
    let v = c.args.seen.now.log in
    let key = c.args.turn.nib.key in
    let new = c.compare_exchange.new.seen.log in
    let did : IsAdded v key line new = subst (λ (a : Line). IsAdded v key a new) c.plain-offer.ensures.1 c.compare_exchange.ensures.7 in
    added-own r key s v new line refl c.requires.early c.requires.turn did

pub returns-clause-before : goal.returns-clause-before
returns-clause-before g c =
    let r = g.B.HistoryId.root in
    let line : Line = record { entry = Some c.args.added.now.entry; chain = r; next = c.args.added.now.next.nib.key; own = c.args.added.now.own.nib.key } in
    let s = c.args.server.now.log in
    let v = c.args.seen.now.log in
    let key = c.args.turn.nib.key in
    let new = c.compare_exchange.new.seen.log in
    let did : IsAdded v key line new = subst (λ (a : Line). IsAdded v key a new) c.plain-offer.ensures.1 c.compare_exchange.ensures.7 in
    added-before r key s v new line refl c.requires.early c.requires.turn did

pub returns-clause-exact : goal.returns-clause-exact
returns-clause-exact g c =
    let r = g.B.HistoryId.root in
    let line : Line = record { entry = Some c.args.added.now.entry; chain = r; next = c.args.added.now.next.nib.key; own = c.args.added.now.own.nib.key } in
    let s = c.args.server.now.log in
    let v = c.args.seen.now.log in
    let key = c.args.turn.nib.key in
    let new = c.compare_exchange.new.seen.log in
    let did : IsAdded v key line new = subst (λ (a : Line). IsAdded v key a new) c.plain-offer.ensures.1 c.compare_exchange.ensures.7 in
    λ p its. added-exact r key s v new line refl c.requires.early c.requires.turn did p c.args.mine.now.log c.requires.own_early its
