use Rattle.std.proofs.Common.{◌≡◌, ◌≤◌, List, [], ◌∷◌, true, ◌||◌, sym, ap, subst, ◌∙◌, length}
use Rattle.std.proofs.lemmas.Option.{same_Some}
use Rattle.ets_term.specs.declared.term.Term.{Term}
use Rattle.bucket_table.specs.Slots.{has_objects}
use Rattle.bucket_table.specs.Entries.{with_objects_in}
use Rattle.table_ops.proofs.PutLaws.{map-key, own-in, set-in, set-put, fills, under-some}
use Rattle.table_ops.proofs.table_rows.TableRows.put_in_set.Goals as goal

pub returns-clause-slots : goal.returns-clause-slots
returns-clause-slots g c =
    let old = g.R.Rows.slots c.args.self.now.rows in
    let new = g.R.Rows.slots c.replace_at-old_objects.new.self in
    let place = g.R.Rows.key_at c.args.self.now.rows c.args.place in
    let one : c.one.result ≡ c.args.object.now ∷ [] = c.one.ensures ∙ ap (λ t. t ∷ []) c.in_ok-packed.ensures in
    map-key place _ _ (λ key is kept.
    let own = own-in old place key c.replace_at-old_objects.result is c.replace_at-old_objects.ensures.objects in
    let seen = own-in old place key c.objects_at.result.now is c.objects_at.ensures in
    let equal : c.objects_at.result.now ≡ c.replace_at-old_objects.result = same_Some _ _ (sym seen ∙ own) in
    let may : (c.args.below_limit || has_objects c.replace_at-old_objects.result) ≡ true = ap (λ (l : List Term). c.args.below_limit || has_objects l) (sym equal) ∙ sym c.may_insert.ensures ∙ c.if-not-may_insert.false in
    set-put c.args.below_limit key c.args.object.now old new c.replace_at-old_objects.result own
    (subst (λ (l : List Term). length l ≤ 1) (under-some old key c.replace_at-old_objects.result own) kept)
    (fills c.args.below_limit c.replace_at-old_objects.result may)
    (set-in old new place key (c.args.object.now ∷ []) is (subst (λ (l : List Term). new ≡ with_objects_in old place l) one c.replace_at-old_objects.ensures.now))) c.requires
