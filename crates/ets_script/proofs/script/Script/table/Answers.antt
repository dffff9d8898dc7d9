use Rattle.std.proofs.Common.{◌≡◌, ◌∙◌, ℕ, Option, Some, None, ap, sym}
use Rattle.std.specs.Prelude.{map, unwrap_or, vec_items}
use Rattle.ownership.specs.World.{resolve}
use Rattle.node_core.specs.State.{next_identifier}
use Rattle.ets_script.specs.Script.{ScriptState, table_of}
use Rattle.ets_script.proofs.NamedTables.{table-seen}
use Rattle.ets_script.proofs.script.Script.table.Goals as goal

pub returns-in-Some : goal.returns-in-Some
returns-in-Some g c =
    let found : resolve c.self.inside.node.world.tables c.args.term.now ≡ Some c.in-Some.table = sym c.resolve.ensures ∙ c.in-Some.is in
    sym (ap (λ (s : ScriptState). table_of s c.args.term.now) (sym c.self.view_is) ∙ table-seen (map vec_items c.self.inside.names.keys) c.self.inside.node c.args.term.now ∙ ap (λ (o : Option ℕ). unwrap_or o (next_identifier c.self.inside.node)) found)

pub returns-in-None : goal.returns-in-None
returns-in-None g c =
    let found : resolve c.self.inside.node.world.tables c.args.term.now ≡ None = sym c.resolve.ensures ∙ c.in-None.is in
    c.next_identifier.ensures
    ∙ sym (ap (λ (s : ScriptState). table_of s c.args.term.now) (sym c.self.view_is) ∙ table-seen (map vec_items c.self.inside.names.keys) c.self.inside.node c.args.term.now ∙ ap (λ (o : Option ℕ). unwrap_or o (next_identifier c.self.inside.node)) found)
