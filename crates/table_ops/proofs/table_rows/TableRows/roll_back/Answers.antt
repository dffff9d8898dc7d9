use Rattle.std.proofs.Common.{◌≡◌, ◌<◌, Some, [], ◌∷◌, ◌++◌, length, refl, sym, ap, ◌∙◌, slice_get, unwrap_or, arith, length-append}
use Rattle.std.proofs.lemmas.Option.{slice_get_read}
use Rattle.table_ops.specs.Content.{key_of}
use Rattle.table_ops.specs.declared.table_rows.TableRows.{TableRows}
use Rattle.table_ops.specs.inside.Undo.{after_undo, after_roll_back}
use Rattle.table_ops.proofs.TableRowsLaws.{both-keep}
use Rattle.table_ops.proofs.InsertLaws.{undone-push}
use Rattle.table_ops.proofs.table_rows.TableRows.roll_back.Goals as goal

pub loop-undo-preserved : goal.loop-undo-preserved
loop-undo-preserved g c =
    let xs = c.args.objects.now in
    let u = c.in-Some.undo in
    let left = c.pop.new.self.items in
    let x = c.index-objects-len.result in
    let cur = g.R.Rows.slots c.loop-undo.self.rows in
    let inv = c.loop-undo.invariant in
    let items : c.loop-undo.undo_log.items ≡ left ++ u ∷ [] = c.in-Some.ensures.items in
    let counted = ap length items in
    let more = length-append left (u ∷ []) in
    let within : length left < length xs = omega (arith, counted, more, inv.long) in
    let index : c.len.result ≡ length left = omega (arith, c.len.ensures, c.pop.new.self.ok.0) in
    let at : slice_get xs (length left) ≡ Some x = ap (slice_get xs) (sym index) ∙ slice_get_read xs (length xs) c.len.result x refl (omega (arith, index, within)) c.index-objects-len.is in
    let its : Some c.in-Some-key_of.key.now ≡ key_of c.args.self.now.keypos x = c.in-Some-key_of.ensures ∙ ap (λ (s : TableRows g.row.R.Denot). key_of s.keypos x) inv.keeps.rest in
    let key : c.in-Some-key_of.key.now ≡ unwrap_or (key_of c.args.self.now.keypos x) x = ap (λ o. unwrap_or o x) its in
    record {
      slots = ap (after_roll_back c.args.self.now.keypos left xs) (c.undo.ensures.slots ∙ ap (λ k. after_undo u k cur) key)
          ∙ sym (undone-push c.args.self.now.keypos left u xs x cur at) ∙ ap (λ l. after_roll_back c.args.self.now.keypos l xs cur) (sym items) ∙ inv.slots;
      keeps = both-keep c.undo.ensures.keeps inv.keeps;
      long = omega (arith, counted, more, inv.long);
    }
