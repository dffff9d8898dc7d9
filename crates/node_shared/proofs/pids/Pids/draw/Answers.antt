use Rattle.std.proofs.Common.{rules, sym, subst}
use Rattle.std.specs.Prelude.{◌+◌, ◌%◌, ◌^◌}
use mathlib.Core.Option.{none}
use Rattle.atomic_table.specs.Table.{Me, Allows, step}
use Rattle.node_shared.specs.declared.pids.rule.View.{View}
use Rattle.node_shared.specs.Numbers.{HoldsNumbers}
use Rattle.node_shared.specs.inside.Seats.{DrawsNumber}
use Rattle.node_shared.proofs.Numbering.{draws}
use Rattle.node_shared.proofs.pids.Pids.draw.Goals as goal

pub fetch_add-number-requires : goal.fetch_add-number-requires
fetch_add-number-requires c =
    let id = c.args.seat.seat.id in
    let key = c.args.self.now.table.shared.key in
    let slots = c.args.self.now.table.shared.table_id.slots in
    let P : Me (Unit {0}) View → Type 0 = λ me. Allows (HoldsNumbers key) slots id me 0 (λ m. (m + 1) % 2 ^ 64) (DrawsNumber (step slots 0 1 0 none) me) in
    (search rules, search rules, subst P (sym c.args.seat.is_undrawn) (draws key slots id))
