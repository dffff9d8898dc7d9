use Rattle.std.proofs.Common.{[], ◌∷◌, Option, Err, sym, ap, subst, ◌∙◌}
use Rattle.std.specs.Prelude.{nat_lt}
use Rattle.std.proofs.lemmas.Result.{err_from_is_err_and}
use Rattle.ets_term.specs.declared.term.Term.{Term}
use Rattle.bucket_table.specs.Entries.{with_objects_in}
use Rattle.table_ops.specs.Content.{key_of}
use Rattle.table_ops.specs.inside.Undo.{PutsAt}
use Rattle.table_ops.proofs.InvariantLaws.{slot-under}
use Rattle.table_ops.proofs.InsertLaws.{object-key, one-refused, one-replaces}
use Rattle.table_ops.proofs.UpdateLaws.{one-read}
use Rattle.table_ops.proofs.PutLaws.{to-key, own-in, set-in}
use Rattle.table_ops.proofs.table_rows.TableRows.put_one_at.Goals as goal

pub put_in_slot-requires : goal.put_in_slot-requires
put_in_slot-requires g c =
    let old = g.R.Rows.slots c.args.self.now.rows in
    let key = object-key (key_of c.args.self.now.keypos c.args.object.now) c.requires.object in
    to-key (g.R.Rows.key_at c.args.self.now.rows c.args.place) _ key.0 (c.requires.place ∙ key.1)
    (slot-under c.args.self.now.kind c.args.self.now.keypos old c.args.object.now key.0 c.requires.holds.slots_are key.1).kept

pub returns-in_err-undo-clause-slots : goal.returns-in_err-undo-clause-slots
returns-in_err-undo-clause-slots g c =
    let old = g.R.Rows.slots c.args.self.now.rows in
    let new = g.R.Rows.slots c.put_in_slot.new.self.rows in
    let p = err_from_is_err_and c.from_residual-in_err-undo.result c.from_residual-in_err-undo.ensures.1 in
    rw (p.1, p.2) (one-refused c.args.self.now.limit c.args.before c.args.self.now.kind c.args.self.now.keypos c.args.object.now old c.requires.holds.counted c.in_err-undo.field-0.0 new
    (subst (λ (at : Option Term). PutsAt (nat_lt c.args.before c.args.self.now.limit) c.args.self.now.kind at c.args.object.now old (Err c.in_err-undo.field-0.0) new) c.requires.place c.in_err-undo.ensures.slots))

pub replace_one_at-requires : goal.replace_one_at-requires
replace_one_at-requires g c =
    let old = g.R.Rows.slots c.args.self.now.rows in
    let key = object-key (key_of c.args.self.now.keypos c.args.object.now) c.requires.object in
    one-read c.args.self.now.kind c.args.self.now.keypos c.args.self.now.limit c.args.before old old key.0 (g.R.Rows.key_at c.args.self.now.rows c.args.place) (c.requires.place ∙ key.1) (sym c.is_set.ensures ∙ c.if-is_set.true) c.requires.holds
    c.objects_at.result.now c.objects_at.ensures (sym c.is_empty.ensures ∙ c.if-not-is_empty.true)

pub returns-then-not-is_empty-clause-slots : goal.returns-then-not-is_empty-clause-slots
returns-then-not-is_empty-clause-slots g c =
    let old = g.R.Rows.slots c.args.self.now.rows in
    let new = g.R.Rows.slots c.replace_one_at.new.self in
    let key = object-key (key_of c.args.self.now.keypos c.args.object.now) c.requires.object in
    let at = g.R.Rows.key_at c.args.self.now.rows c.args.place in
    let there = c.requires.place ∙ key.1 in
    let set = sym c.is_set.ensures ∙ c.if-is_set.true in
    let one = one-read c.args.self.now.kind c.args.self.now.keypos c.args.self.now.limit c.args.before old old key.0 at there set c.requires.holds c.objects_at.result.now c.objects_at.ensures (sym c.is_empty.ensures ∙ c.if-not-is_empty.true) in
    one-replaces c.args.self.now.limit c.args.before c.args.self.now.kind c.args.self.now.keypos c.args.object.now old c.requires.holds.counted key.0 one.0 new set c.requires.holds.within key.1
    (own-in old at key.0 (one.0 ∷ []) there one.1) (set-in old new at key.0 (c.args.object.now ∷ []) there (c.replace_one_at.ensures.now ∙ ap (λ t. with_objects_in old at (t ∷ [])) c.in_ok-packed.ensures))
