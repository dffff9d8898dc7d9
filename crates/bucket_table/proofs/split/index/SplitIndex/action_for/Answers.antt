use Rattle.std.proofs.Common.{sym, ◌∙◌}
use Rattle.bucket_table.proofs.sweep.Sweep.{read-has, purge-goes, drop-goes}
use Rattle.bucket_table.proofs.split.index.SplitIndex.action_for.Goals as goal

pub returns-in-MakeAllTombstones : goal.returns-in-MakeAllTombstones
returns-in-MakeAllTombstones g c = (read-has c.args.at c.args.self.now.list.cells _ c.requires c.in-Some.ensures, c.in-MakeAllTombstones.is)

pub returns-then-len-eq0 : goal.returns-then-len-eq0
returns-then-len-eq0 g c = (
  read-has c.args.at c.args.self.now.list.cells _ c.requires c.in-Some.ensures,
  purge-goes c.args.mode c.args.at c.args.self.now.list.cells _ c.in-Some.objects.now c.in-RemoveTombstones.is c.in-Some.ensures (sym c.len.ensures ∙ c.if-len-eq0.true),
)

pub returns-else-len-eq0-2 : goal.returns-else-len-eq0-2
returns-else-len-eq0-2 g c = (
  read-has c.args.at c.args.self.now.list.cells _ c.requires c.in-Some.ensures,
  drop-goes c.args.mode c.args.at c.args.self.now.list.cells _ c.in-Some.objects.now c.in-RemoveSlotsWithObjects.is c.in-Some.ensures (λ e. c.if-len-eq0-2.false (c.len-in-RemoveSlotsWithObjects.ensures ∙ e)),
)
