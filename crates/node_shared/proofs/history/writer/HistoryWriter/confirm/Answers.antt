use Rattle.std.proofs.Common.{List, subst}
use mathlib.Core.List.{IsPrefix}
use Rattle.node_shared.specs.declared.entry.Entry.{Entry}
use Rattle.node_shared.specs.Journal.{entries_of}
use Rattle.node_shared.specs.inside.Lines.{history_of}
use Rattle.node_shared.proofs.Prefixes.{prefix_trans, prefix_both}
use Rattle.node_shared.proofs.Lines.{history-prefix, entries-prefix}
use Rattle.node_shared.proofs.history.writer.HistoryWriter.confirm.Goals as goal

pub returns-clause-exact : goal.returns-clause-exact
returns-clause-exact g c =
    let r = g.B.HistoryId.root in
    let p = c.self.inside.pid in
    let shown = c.seen.inside.seen.log in
    let both = c.learn.new.self.log in
    let new = c.confirm_own.new.seen.log in
    let early : IsPrefix shown new = prefix_trans shown both new c.learn.ensures.3 c.confirm_own.ensures.later in
    let few : IsPrefix (entries_of p (history_of r shown)) (entries_of p (history_of r c.self.inside.mine.log)) =
    subst (λ (es : List Entry). IsPrefix (entries_of p (history_of r shown)) es) c.confirm_own.ensures.exact (entries-prefix p (history_of r shown) (history_of r new) (history-prefix r shown new early)) in
    let all : IsPrefix (entries_of p (history_of r c.self.inside.mine.log)) (entries_of p (history_of r shown)) = rw (← c.self.view_is, ← c.seen.view_is) at c.requires in
    rw (← c.self.view_is, ← c.seen.view_is) (prefix_both (entries_of p (history_of r c.self.inside.mine.log)) (entries_of p (history_of r shown)) all few)
