use Rattle.std.proofs.Common.{◌≡◌, None, Some, sym, ap, ◌∙◌}
use Rattle.std.specs.Prelude.{option_copied}
use Rattle.ownership.specs.World.{table_at}
use Rattle.ownership.proofs.Ending.{back-none}
use Rattle.ownership.proofs.world.end.unpost_transfer.Goals as goal

pub returns-in_default-receiver_of : goal.returns-in_default-receiver_of
returns-in_default-receiver_of g c = λ before after_transfers.
    let at : table_at c.args.tables.now c.args.id ≡ Some c.in-Some-Some.table = sym (c.in-Some-Some.ensures.lookup.3.1 None) ∙ c.in-Some-Some.field-0-is in
    back-none before c.args.processes.now.entries c.args.pid c.args.id (table_at c.args.tables.now c.args.id) c.in-Some-Some.table at (sym c.receiver_of.ensures ∙ ap option_copied c.in_default-receiver_of.is) after_transfers
