use Rattle.std.proofs.Common.{◌≡◌, ◌++◌, ◌∷◌, [], List, Result, Ok, Err, subst, sym}
use Rattle.std.specs.Result.{OnOk}
use Rattle.ets_term.specs.declared.term.Term.{Term}
use Rattle.bucket_table.specs.Slots.{Slot, Enters}
use Rattle.bucket_table.proofs.slots.Index.{enters-last}
use Rattle.bucket_table.proofs.plain.PlainRowsRows.put_at.Goals as goal

entered : {E : Type 0} (r : Result (Unit {0}) E) (old new : List Slot) (row : Slot) → OnOk r (new ≡ old ++ row ∷ []) → OnOk r (Enters old row.0 row.1 new)
entered (Ok x) old new row e = subst (Enters old row.0 row.1) (sym e) (enters-last old row)
entered (Err x) old new row e = tt

pub returns-clause-ok : goal.returns-clause-ok
returns-clause-ok c =
    let old = c.args.self.now.slots.entries in
    let new = c.push.new.self.slots.entries in
    subst (λ (key : Term). OnOk c.push.result (Enters old key c.args.objects new)) c.in_ok-own_key.ensures
    (entered c.push.result old new (c.in_ok-own_key.own_key, c.args.objects) c.push.ensures.ok)
