use Rattle.std.proofs.Common.{◌≡◌, ◌∙◌, sym, ap}
use Rattle.ownership.specs.Tables as tables
use Rattle.node_core.specs.State.{State}
use Rattle.node_core.specs.declared.step.Reply.TheVariants.{Value}
use Rattle.node_core.specs.rules.Tables.{new_table_of}
use Rattle.node_core.proofs.calls.Worlds.{changes_world-world-ok, changes_world-world-err}
use Rattle.node_core.proofs.node.Node.new_table.Goals.{in-Ok-add_table, in-Err-add_table}
use Rattle.node_core.proofs.node.Node.new_table.Goals as goal

pub returns : goal.returns
returns g c =
    let was : State = record { limits = c.self.inside.limits; world = c.self.inside.world } in
    let fresh : c.in-Ok.table ≡ new_table_of was.limits.objects c.args.options = c.in-Ok.ensures ∙ ap (λ (s : State). new_table_of s.limits.objects c.args.options) (sym c.self.view_is) in
    rw (← c.self.view_is, ← fresh) (elim c.match-add_table.branch [
      | in-Ok-add_table w ↦ rw w.result-is (changes_world-world-ok was (λ x. Value x) (tables.New was.world c.args.pid c.args.name.now c.args.options c.in-Ok.table) c.add_table.new.world w.in-Ok-add_table.answer w.in-Ok-add_table.ensures.outcome)
      | in-Err-add_table w ↦ rw (w.result-is, w.refusal_of.ensures) (changes_world-world-err was (λ x. Value x) (tables.New was.world c.args.pid c.args.name.now c.args.options c.in-Ok.table) c.add_table.new.world w.in-Err-add_table.fault w.in-Err-add_table.ensures.outcome)
    ])
