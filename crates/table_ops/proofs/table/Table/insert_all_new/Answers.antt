use Rattle.std.proofs.Common.{◌≡◌, true, false, sym, ap, ◌∙◌}
use Rattle.std.specs.List.{list_all, list_any}
use Rattle.table_ops.specs.Content.{is_object}
use Rattle.table_ops.specs.ContentState.{ContentState}
use Rattle.table_ops.specs.Put.{is_taken}
use Rattle.table_ops.proofs.InsertLaws.{new-stores}
use Rattle.table_ops.proofs.table.Table.insert_all_new.Goals as goal

pub returns-clause-content : goal.returns-clause-content
returns-clause-content g c =
    let content = c.args.self.now.content in
    let are : list_all (is_object content.keypos) c.args.list.now ≡ true =
    ap (λ (t : ContentState). list_all (is_object t.content.keypos) c.args.list.now) (sym c.self.view_is) ∙ sym c.are_objects.ensures ∙ c.if-not-are_objects.false in
    let free : list_any (is_taken content.keypos content.slots) c.args.list.now ≡ false = sym c.is_any_key_taken.ensures ∙ c.if-is_any_key_taken.false in
    new-stores c.args.list.now content are free c.insert_all.result c.insert_all.new.self.content c.insert_all.ensures.content
