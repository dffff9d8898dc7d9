use Rattle.std.proofs.Common.{◌≡◌, ◌<◌, ◌≤◌, ◌+◌, Some, Ok, Err, true, [], ◌∷◌, length, refl, sym, ap, subst, ◌∙◌, slice_get, take, arith, length-append}
use Rattle.std.proofs.lemmas.List.{take_all}
use Rattle.std.proofs.lemmas.Option.{slice_get_read}
use Rattle.ets_term.specs.Depth.{is_too_deep}
use Rattle.std.specs.Prelude.{nat_lt}
use Rattle.table_ops.specs.Content.{is_object}
use Rattle.table_ops.specs.Invariants.{AreSlots}
use Rattle.table_ops.specs.Put.{PutsAll}
use Rattle.table_ops.specs.declared.table_rows.TableRows.{TableRows}
use Rattle.table_ops.specs.inside.Undo.{PutsObject, after_roll_back}
use Rattle.table_ops.proofs.TableRowsLaws.{both-keep}
use Rattle.table_ops.proofs.InvariantLaws.{slots-puts-all}
use Rattle.table_ops.proofs.InsertLaws.{any-take, all-at, Steps, next-step, refused-same, all-refused}
use Rattle.table_ops.proofs.table_rows.TableRows.put_all.Goals as goal

pub put_object-requires : goal.put_object-requires
put_object-requires g c =
    let i = c.loop-object.object-index in
    let xs = c.args.objects.now in
    let within : i < length xs = omega arith in
    let at : slice_get xs i ≡ Some c.object-item.result = slice_get_read xs (length xs) i c.object-item.result refl within c.object-item.is in
    let mid = g.R.Rows.slots c.loop-object.self.rows in
    let back = sym c.loop-object.invariant.keeps.rest in
    record {
      object = subst (λ (s : TableRows g.row.R.Denot). is_object s.keypos c.object-item.result ≡ true) back (all-at (is_object c.args.self.now.keypos) xs i c.object-item.result c.requires.objects at);
      slots = subst (λ (s : TableRows g.row.R.Denot). AreSlots s.kind s.keypos mid) back
          (slots-puts-all c.args.self.now.kind c.args.self.now.keypos (g.R.Rows.slots c.args.self.now.rows) (take i xs) mid c.requires.holds.slots_are (any-take is_too_deep i xs c.requires.shallow) c.loop-object.invariant.done);
    }

pub loop-object-preserved : goal.loop-object-preserved
loop-object-preserved g c =
    let i = c.loop-object.object-index in
    let xs = c.args.objects.now in
    let x = c.object-item.result in
    let u = c.in-Ok.undo in
    let old = g.R.Rows.slots c.args.self.now.rows in
    let mid = g.R.Rows.slots c.loop-object.self.rows in
    let new = g.R.Rows.slots c.put_object.new.self.rows in
    let undos = c.loop-object.undo_log.items in
    let inv = c.loop-object.invariant in
    let within : i < length xs = omega arith in
    let at : slice_get xs i ≡ Some x = slice_get_read xs (length xs) i x refl within c.object-item.is in
    let put = subst (λ (s : TableRows g.row.R.Denot). PutsObject (nat_lt c.loop-object.count s.limit) s.kind s.keypos x mid (Ok u) new) inv.keeps.rest c.in-Ok.ensures.slots in
    let now : Steps c.args.self.now.limit c.loop-object.count c.args.self.now.kind c.args.self.now.keypos xs i old mid undos = record { done = inv.done; back = inv.back; counted = inv.counted; within = inv.within } in
    let next = next-step c.args.self.now.limit c.loop-object.count c.args.self.now.kind c.args.self.now.keypos xs i old mid new undos u x now inv.logged at put in
    record {
      done = next.done;
      back = ap (λ l. after_roll_back c.args.self.now.keypos l xs new) c.push_reserved.ensures.items ∙ next.back;
      counted = ap (λ n. c.loop-object.count + n) c.added_objects-count.ensures ∙ next.counted;
      within = subst (λ n. c.loop-object.count + n ≤ c.args.self.now.limit) (sym c.added_objects-count.ensures) next.within;
      logged = omega (arith, ap length c.push_reserved.ensures.items, length-append undos (u ∷ []), inv.logged);
      len = omega (arith, c.push_reserved.ensures.len, inv.len);
      room = omega (arith, c.push_reserved.ensures.capacity, inv.room);
      keeps = both-keep c.in-Ok.ensures.keeps inv.keeps;
    }

pub returns-in-Err : goal.returns-in-Err
returns-in-Err g c =
    let i = c.loop-object.object-index in
    let xs = c.args.objects.now in
    let x = c.object-item.result in
    let e = c.in-Err.refusal in
    let old = g.R.Rows.slots c.args.self.now.rows in
    let mid = g.R.Rows.slots c.loop-object.self.rows in
    let new = g.R.Rows.slots c.put_object.new.self.rows in
    let back = g.R.Rows.slots c.roll_back.new.self.rows in
    let inv = c.loop-object.invariant in
    let within : i < length xs = omega arith in
    let at : slice_get xs i ≡ Some x = slice_get_read xs (length xs) i x refl within c.object-item.is in
    let put = subst (λ (s : TableRows g.row.R.Denot). PutsObject (nat_lt c.loop-object.count s.limit) s.kind s.keypos x mid (Err e) new) inv.keeps.rest c.in-Err.ensures.slots in
    let keeps = both-keep c.in-Err.ensures.keeps inv.keeps in
    let undo_log = c.loop-object.undo_log.items in
    let taken = subst (λ (s : TableRows g.row.R.Denot). back ≡ after_roll_back s.keypos undo_log xs new) keeps.rest c.roll_back.ensures.slots in
    let same : back ≡ old =
    taken ∙ ap (after_roll_back c.args.self.now.keypos undo_log xs) (refused-same _ c.args.self.now.kind c.args.self.now.keypos x mid new e put) ∙ inv.back in
    record {
      slots = all-refused c.args.self.now.limit c.loop-object.count c.args.self.now.kind c.args.self.now.keypos old mid xs i x c.requires.holds.slots_are c.requires.objects c.requires.shallow at inv.done inv.counted e new back put same;
      keeps = both-keep c.roll_back.ensures.keeps keeps;
    }

pub returns : goal.returns
returns g c =
    let i = c.loop-object.object-index in
    let xs = c.args.objects.now in
    let inv = c.loop-object.invariant in
    let all : take i xs ≡ xs = take_all i xs c.loop-object-test.false in
    record {
      slots = (subst (λ l. PutsAll c.args.self.now.kind c.args.self.now.keypos (g.R.Rows.slots c.args.self.now.rows) l (g.R.Rows.slots c.loop-object.self.rows)) all inv.done, inv.counted, inv.within);
      keeps = inv.keeps;
    }
