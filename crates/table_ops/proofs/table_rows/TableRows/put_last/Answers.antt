use Rattle.std.proofs.Common.{◌≡◌, [], ◌∷◌, ◌++◌, ap, ◌∙◌}
use Rattle.ets_term.specs.Order.{same}
use Rattle.bucket_table.specs.Slots.{with_objects}
use Rattle.table_ops.proofs.SlotLaws.{set_value-same}
use Rattle.table_ops.proofs.PutLaws.{at-key, own-in, twice-in, last-put}
use Rattle.table_ops.proofs.table_rows.TableRows.put_last.Goals as goal

pub returns-in_default-clause-slots : goal.returns-in_default-clause-slots
returns-in_default-clause-slots g c =
    let old = g.R.Rows.slots c.args.self.now.rows in
    let mid = g.R.Rows.slots c.replace_at-objects.new.self in
    let new = g.R.Rows.slots c.replace_at.new.self in
    let place = g.R.Rows.key_at c.args.self.now.rows c.args.place in
    at-key place _ c.requires (λ key is.
    let own = own-in old place key c.replace_at-objects.result is c.replace_at-objects.ensures.objects in
    let written = twice-in old mid new place (g.R.Rows.key_at c.replace_at-objects.new.self c.args.place) key c.new.result c.push-pushed.new.self is c.replace_at-objects.ensures.now c.replace_at-objects.ensures.place c.replace_at.ensures.now in
    written ∙ ap (with_objects old key) c.in_default.ensures.err ∙ set_value-same (same key) old c.replace_at-objects.result own)

pub returns-clause-slots : goal.returns-clause-slots
returns-clause-slots g c =
    let old = g.R.Rows.slots c.args.self.now.rows in
    let mid = g.R.Rows.slots c.replace_at-objects.new.self in
    let new = g.R.Rows.slots c.replace_at.new.self in
    let place = g.R.Rows.key_at c.args.self.now.rows c.args.place in
    let was = c.replace_at-objects.result in
    let pushed : c.push-pushed.new.self ≡ was ++ c.args.object.now ∷ [] = c.in-Ok.ensures.ok ∙ ap (λ t. was ++ t ∷ []) c.in_ok-packed.ensures in
    at-key place _ c.requires (λ key is.
    let own = own-in old place key was is c.replace_at-objects.ensures.objects in
    let written = twice-in old mid new place (g.R.Rows.key_at c.replace_at-objects.new.self c.args.place) key c.new.result c.push-pushed.new.self is c.replace_at-objects.ensures.now c.replace_at-objects.ensures.place c.replace_at.ensures.now in
    last-put c.args.below_limit key c.args.object.now old new was own c.if-not-below_limit.false (written ∙ ap (with_objects old key) pushed))
