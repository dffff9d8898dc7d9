use Rattle.std.proofs.Common.{◌<◌, ◌-◌, rules, sym, ap, subst, refl, arith}
use Rattle.atomic_table.specs.Table.{Splits}
use Rattle.node_shared.specs.declared.pids.rule.View.{View}
use Rattle.node_shared.specs.Numbers.{HoldsNumbers}
use Rattle.node_shared.specs.inside.Seats.{one_fewer, undrawn_view}
use Rattle.node_shared.proofs.Numbering.{splits, begins}
use Rattle.node_shared.proofs.pids.open_seats.Goals as goal

pub of_words-requires : goal.of_words-requires
of_words-requires c = (0, refl, begins c.args.n c.requires)

pub split_seat-seat-requires : goal.split_seat-seat-requires
split_seat-seat-requires c =
    let i = c.loop.invariant in
    let P : View → Type 0 = λ v. Splits (HoldsNumbers c.in_ok-table.table.shared.key) c.loop.first.id v (one_fewer v) undrawn_view in
    let some_left : 0 < c.args.n - c.loop.counter = omega arith in
    (search rules, search rules, subst P (sym (ap (λ m. m.0) i.first)) (splits _ _ _ some_left))
