use Rattle.std.proofs.Common.{◌≡◌, ◌≤◌, ◌||◌, [], ◌∷◌, Bool, Result, Ok, Err, true, false, sym, ap, subst, ◌∙◌}
use Rattle.std.proofs.lemmas.Result.{err_from_is_err_and}
use Rattle.std.specs.List.{list_any}
use Rattle.ets_term.specs.Depth.{is_too_deep}
use Rattle.table_ops.specs.Content.{Content, key_of, is_object}
use Rattle.table_ops.specs.ContentState.{ContentState}
use Rattle.table_ops.specs.Put.{Inserts}
use Rattle.table_ops.specs.Refusals.{RefinesChange}
use Rattle.table_ops.specs.declared.refusal.Refusal.{Refusal}
use Rattle.table_ops.specs.inside.TableRows.{content_of}
use Rattle.table_ops.proofs.TableRowsLaws.{of-slots, holds-kept}
use Rattle.table_ops.proofs.InvariantLaws.{slots-puts-all}
use Rattle.table_ops.proofs.InsertLaws.{object-key, one-inserted, one-not-inserted}
use Rattle.table_ops.proofs.table.Table.insert_one.Goals as goal

pub returns-in_err-count-clause-content : goal.returns-in_err-count-clause-content
returns-in_err-count-clause-content g c =
    let object = c.args.object.now in
    let f = c.in_err-count.field-0.0 in
    let old : Content = content_of g.R.Rows.slots c.self.inside.inner in
    let new : Content = content_of g.R.Rows.slots c.put_one.new.self in
    let p = err_from_is_err_and c.from_residual.result c.from_residual.ensures.1 in
    let failed : c.from_residual.result ≡ Err f = p.1 ∙ ap Err p.2 in
    let same : old ≡ c.args.self.now.content = ap (λ (t : ContentState). t.content) c.self.view_is in
    let is : is_object old.keypos object ≡ true = ap (λ (o : Content). is_object o.keypos object) same ∙ c.in_default.ensures.0 in
    let key = object-key (key_of old.keypos object) is in
    let done : RefinesChange (Inserts (object ∷ []) old) old (Err f) new =
    of-slots g.R.Rows.slots c.self.inside.inner c.put_one.new.self c.in_err-count.ensures.keeps.rest (λ (n : Content). RefinesChange (Inserts (object ∷ []) old) old (Err f) n)
    (one-not-inserted object key.0 old key.1 c.in_default.ensures.1 f (g.R.Rows.slots c.put_one.new.self.rows) c.in_err-count.ensures.slots) in
    subst (λ (r : Result (Unit {0}) Refusal). RefinesChange (Inserts (object ∷ []) c.args.self.now.content) c.args.self.now.content r new) (sym failed)
    (subst (λ (o : Content). RefinesChange (Inserts (object ∷ []) o) o (Err f) new) same done)

pub invariant_of-self-2 : goal.invariant_of-self-2
invariant_of-self-2 g c =
    let i = c.self.invariant in
    let p = c.in_ok-count.ensures.slots in
    let shallow : list_any is_too_deep (c.args.object.now ∷ []) ≡ false = ap (λ (b : Bool). b || false) c.in_default.ensures.1 in
    holds-kept g.R.Rows.slots c.self.inside.inner c.put_one.new.self c.in_ok-count.ensures.keeps.rest c.in_ok-count.count (record {
      counted = p.1;
      within = p.2;
      few = i.few;
      slots_are = slots-puts-all c.self.inside.inner.kind c.self.inside.inner.keypos (g.R.Rows.slots c.self.inside.inner.rows) (c.args.object.now ∷ []) (g.R.Rows.slots c.put_one.new.self.rows) i.slots_are shallow p.0;
    })

pub returns-clause-content : goal.returns-clause-content
returns-clause-content g c =
    let object = c.args.object.now in
    let old : Content = content_of g.R.Rows.slots c.self.inside.inner in
    let same : old ≡ c.args.self.now.content = ap (λ (t : ContentState). t.content) c.self.view_is in
    let is : is_object old.keypos object ≡ true = ap (λ (o : Content). is_object o.keypos object) same ∙ c.in_default.ensures.0 in
    let key = object-key (key_of old.keypos object) is in
    rw (← c.self.view_is)
    (of-slots g.R.Rows.slots c.self.inside.inner c.put_one.new.self c.in_ok-count.ensures.keeps.rest (λ (n : Content). Inserts (object ∷ []) old (Ok tt) n)
    (one-inserted object key.0 old key.1 c.in_default.ensures.1 c.in_ok-count.count (g.R.Rows.slots c.put_one.new.self.rows) c.in_ok-count.ensures.slots))
