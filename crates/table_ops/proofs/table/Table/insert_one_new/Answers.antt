use Rattle.std.proofs.Common.{◌≡◌, ◌+◌, [], ◌∷◌, Ok, Err, Result, Bool, true, false, sym, ap, subst, ◌∙◌}
use Rattle.std.proofs.lemmas.Result.{err_from_is_err_and}
use Rattle.ets_term.specs.Depth.{is_too_deep}
use Rattle.table_ops.specs.Content.{Content}
use Rattle.table_ops.specs.ContentState.{ContentState}
use Rattle.table_ops.specs.Put.{InsertsNew}
use Rattle.table_ops.specs.Refusals.{RefinesChange}
use Rattle.table_ops.specs.declared.refusal.Refusal.{Refusal}
use Rattle.table_ops.specs.inside.Counted.{IsCounted}
use Rattle.table_ops.specs.inside.TableRows.{content_of}
use Rattle.table_ops.proofs.TableRowsLaws.{of-slots, holds-kept}
use Rattle.table_ops.proofs.InvariantLaws.{slot-under}
use Rattle.table_ops.proofs.InsertNewLaws.{none-found, one-new, one-kept, one-more}
use Rattle.table_ops.proofs.table.Table.insert_one_new.Goals as goal

pub put-requires-clause-kind : goal.put-requires-clause-kind
put-requires-clause-kind g c = (slot-under c.self.inside.inner.kind c.self.inside.inner.keypos (g.R.Rows.slots c.self.inside.inner.rows) c.args.object.now c.in-Some.key.now c.self.invariant.slots_are (sym c.in-Some.ensures)).kept

pub returns-in_err-undo-clause-content : goal.returns-in_err-undo-clause-content
returns-in_err-undo-clause-content g c =
    let old : Content = content_of g.R.Rows.slots c.self.inside.inner in
    let new : Content = content_of g.R.Rows.slots c.put.new.self in
    let p = err_from_is_err_and c.from_residual.result c.from_residual.ensures.1 in
    let failed : c.from_residual.result ≡ Err c.in_err-undo.field-0.0 = p.1 ∙ ap Err p.2 in
    let object = c.args.object.now in
    let shallow : is_too_deep object ≡ false = sym c.is_too_deep.ensures ∙ c.if-is_too_deep.false in
    let none = none-found c.place_with_objects.result _ _ (sym c.is_some.ensures ∙ c.if-is_some.false) c.place_with_objects.ensures in
    let done : RefinesChange (InsertsNew (object ∷ []) old) old (Err c.in_err-undo.field-0.0) new =
    of-slots g.R.Rows.slots c.self.inside.inner c.put.new.self c.in_err-undo.ensures.keeps.rest (λ (n : Content). RefinesChange (InsertsNew (object ∷ []) old) old (Err c.in_err-undo.field-0.0) n)
    (one-kept object c.in-Some.key.now old (sym c.in-Some.ensures) none shallow c.self.inside.count c.self.invariant c.in_err-undo.field-0.0 (g.R.Rows.slots c.put.new.self.rows) c.in_err-undo.ensures.slots) in
    let same : old ≡ c.args.self.now.content = ap (λ (t : ContentState). t.content) c.self.view_is in
    subst (λ (r : Result Bool Refusal). RefinesChange (InsertsNew (object ∷ []) c.args.self.now.content) c.args.self.now.content r new) (sym failed)
    (subst (λ (o : Content). RefinesChange (InsertsNew (object ∷ []) o) o (Err c.in_err-undo.field-0.0) new) same done)

pub invariant_of-self-2 : goal.invariant_of-self-2
invariant_of-self-2 g c =
    let i = c.self.inside in
    let old : Content = content_of g.R.Rows.slots c.self.inside.inner in
    let new = g.R.Rows.slots c.put.new.self.rows in
    let shallow : is_too_deep c.args.object.now ≡ false = sym c.is_too_deep.ensures ∙ c.if-is_too_deep.false in
    let none = none-found c.place_with_objects.result _ _ (sym c.is_some.ensures ∙ c.if-is_some.false) c.place_with_objects.ensures in
    holds-kept g.R.Rows.slots c.self.inside.inner c.put.new.self c.in_ok-undo.ensures.keeps.rest (i.count + c.added_objects.result)
    (subst (λ n. IsCounted i.inner.kind i.inner.keypos i.inner.limit (i.count + n) new) (sym c.added_objects.ensures)
    (one-more c.args.object.now c.in-Some.key.now old (sym c.in-Some.ensures) none shallow i.count c.self.invariant c.in_ok-undo.undo new c.in_ok-undo.ensures.slots))

pub returns-clause-content : goal.returns-clause-content
returns-clause-content g c =
    let i = c.self.inside in
    let old : Content = content_of g.R.Rows.slots c.self.inside.inner in
    let shallow : is_too_deep c.args.object.now ≡ false = sym c.is_too_deep.ensures ∙ c.if-is_too_deep.false in
    let none = none-found c.place_with_objects.result _ _ (sym c.is_some.ensures ∙ c.if-is_some.false) c.place_with_objects.ensures in
    rw (← c.self.view_is)
    (of-slots g.R.Rows.slots c.self.inside.inner c.put.new.self c.in_ok-undo.ensures.keeps.rest (λ (n : Content). InsertsNew (c.args.object.now ∷ []) old (Ok true) n)
    (one-new c.args.object.now c.in-Some.key.now old (sym c.in-Some.ensures) none shallow i.count c.self.invariant c.in_ok-undo.undo (g.R.Rows.slots c.put.new.self.rows) c.in_ok-undo.ensures.slots))
