use Rattle.std.proofs.Common.{◌≡◌, ◌<◌, ◌++◌, ◌∷◌, [], List, length, refl, sym, ap, subst, ◌∙◌, append_assoc, true≢false, arith, rules}
use Rattle.std.proofs.lemmas.List.{append-nil}
use Rattle.std.specs.Vec.Iter.{into_iter_items}
use Rattle.indexmap.specs.IndexMap.{spare}
use Rattle.bucket_table.specs.Slots.{Slot}
use Rattle.bucket_table.specs.Rows.{EnterAll}
use Rattle.bucket_table.proofs.slots.Index.{still-new, enter-all}
use Rattle.bucket_table.proofs.plain.PlainRowsRows.put.Goals as goal

nothing_left : (l : List Slot) → length l ≡ 0 → l ≡ []
nothing_left [] h = refl
nothing_left (x ∷ xs) h = absurd (omega (arith, h))

pub loop-key-init : goal.loop-key-init
loop-key-init c = record {
  all = search rules;
  len = search rules;
  put = c.reserve.ensures.entries ∙ sym (append-nil _);
  room = omega (arith, ap length c.into_iter-key-iterator.ensures.into_iter_gives.0, c.len.ensures, c.in_ok-reserve.ensures.ok, c.args.rows.ok.0);
}

pub push-requires : goal.push-requires
push-requires c =
    let at = c.loop-key in
    let steps : into_iter_items at.key-iterator ≡ (c.in-Some.key, c.in-Some.objects) ∷ into_iter_items c.next.new.self = c.in-Some.ensures.steps.0 in
    rw at.invariant.put (still-new c.args.self.now.slots.entries c.args.rows.items at.yielded (into_iter_items c.next.new.self) (c.in-Some.key, c.in-Some.objects) c.requires.new c.requires.distinct (ap (λ l. at.yielded ++ l) (sym steps) ∙ at.invariant.all))

pub loop-key-preserved : goal.loop-key-preserved
loop-key-preserved c =
    let at = c.loop-key in
    let x : Slot = (c.in-Some.key, c.in-Some.objects) in
    let steps : into_iter_items at.key-iterator ≡ x ∷ into_iter_items c.next.new.self = c.in-Some.ensures.steps.0 in
    let gone = c.in-Some.ensures.steps.1 in
    let short = ap length steps in
    record {
      all = append_assoc at.yielded (x ∷ []) _ ∙ rw (← steps) at.invariant.all;
      len = omega (arith, at.invariant.len, gone, short);
      put = c.in_ok-push.ensures.ok ∙ ap (λ l. l ++ x ∷ []) at.invariant.put ∙ append_assoc c.args.self.now.slots.entries at.yielded (x ∷ []);
      room = omega (arith, at.invariant.room, short, c.push.ensures.room);
    }

pub returns-in_err-push : goal.returns-in_err-push
returns-in_err-push c =
    let short = ap length c.in-Some.ensures.steps.0 in
    let some : 0 < spare c.loop-key.self.slots = omega (arith, short, c.loop-key.invariant.room) in
    absurd (true≢false (sym (c.in_err-push.ensures.succeeds some)))

pub returns : goal.returns
returns c =
    let at = c.loop-key in
    let none = c.in-None.ensures.steps in
    let empty : into_iter_items at.key-iterator ≡ [] = nothing_left _ (sym at.invariant.len ∙ none.0) in
    let all : at.yielded ≡ c.args.rows.items = sym (append-nil at.yielded) ∙ rw empty at at.invariant.all in
    record {
      ok = rw at.invariant.put (subst (λ l. EnterAll c.args.self.now.slots.entries l (c.args.self.now.slots.entries ++ at.yielded)) all (enter-all c.args.self.now.slots.entries at.yielded));
      err = tt;
      hash = refl;
      buckets = refl;
    }
