use Rattle.std.proofs.Common.{◌≡◌, ℕ, List, ◌∷◌, length, map, refl, sym, ◌∙◌, ap, subst, arith}
use Rattle.std.specs.Vec.Iter.{into_iter_items}
use Rattle.ets_term.specs.declared.term.Term.{Term}
use Rattle.bucket_table.specs.Slots.{Slot}
use Rattle.bucket_table.specs.SplitRowsState.{SplitRowsState}
use Rattle.bucket_table.specs.Rows.{HasDistinctKeys, EnterAll, AreNew}
use Rattle.bucket_table.proofs.slots.Enter.{new-still, distinct-rest}
use Rattle.bucket_table.proofs.slots.Hashed.{hashed, rows_of, AreHashed, none-left, rows-hashed, are-hashed, rest-hashed}
use Rattle.bucket_table.proofs.split.rows.SplitRowsRows.put.Goals as goal

pub loop-hash-init : goal.loop-hash-init
loop-hash-init g c =
    let rows = c.args.rows.items in
    let own = c.self.inside.index.hasher in
    let hash : Term → ℕ = g.H.KeyHash.hash own in
    let it = into_iter_items c.into_iter-hash-iterator.result in
    let items : it ≡ map (hashed hash) rows = c.into_iter-hash-iterator.ensures.into_iter_gives.0 ∙ c.in_ok-hashed.ensures in
    let hasher : own ≡ c.reserve_slots.new.self.hasher = ap (λ (v : SplitRowsState g.row.H.Denot). v.hasher) c.self.view_is ∙ sym c.reserve_slots.ensures.hasher in
    let plain : rows_of it ≡ rows = ap rows_of items ∙ rows-hashed hash rows in
    let D : List Slot → Type 0 = λ l. HasDistinctKeys l in
    let N : List Slot → Type 0 = λ l. AreNew c.args.self.now.slots l in
    let M : List Slot → Type 0 = λ s. AreNew s (rows_of it) in
    let A : List (ℕ × Slot) → Type 0 = λ hs. AreHashed hash hs in
    let B : g.row.H.Denot → Type 0 = λ h. AreHashed (g.H.KeyHash.hash h) it in (
      tt,
      tt,
      omega (arith, c.in_ok-reserve_slots.ensures.room, c.len.ensures, ap length c.into_iter-hash-iterator.ensures.into_iter_gives.0),
      subst D (sym plain) c.requires.distinct,
      subst M (sym c.reserve_slots.ensures.slots) (subst N (sym plain) c.requires.new),
      (λ new e. e),
      refl,
      refl,
      subst B hasher (subst A (sym items) (are-hashed hash rows)),
      omega (arith, c.into_iter-hash-iterator.ensures.into_iter_gives.1, c.in_ok-hashed.hashed.ok.0, ap length c.into_iter-hash-iterator.ensures.into_iter_gives.0),
    )

pub loop-hash-preserved : goal.loop-hash-preserved
loop-hash-preserved g c =
    let i = c.loop-hash.invariant in
    let row : Slot = (c.in-Some.key, c.in-Some.objects) in
    let rest = into_iter_items c.next.new.self in
    let is : into_iter_items c.loop-hash.hash-iterator ≡ (c.in-Some.hash, row) ∷ rest = c.in-Some.ensures.steps.0 in
    let D : List (ℕ × Slot) → Type 0 = λ hs. HasDistinctKeys (rows_of hs) in
    let N : List (ℕ × Slot) → Type 0 = λ hs. AreNew c.loop-hash.self.slots (rows_of hs) in
    let A : List (ℕ × Slot) → Type 0 = λ hs. AreHashed (g.H.KeyHash.hash c.loop-hash.self.hasher) hs in
    let B : g.row.H.Denot → Type 0 = λ h. AreHashed (g.H.KeyHash.hash h) rest in
    let d = distinct-rest row (rows_of rest) (subst D is i.3) in
    let n : AreNew c.loop-hash.self.slots (row ∷ rows_of rest) = subst N is i.4 in
    let a = rest-hashed (g.H.KeyHash.hash c.loop-hash.self.hasher) (c.in-Some.hash, row) rest (subst A is i.8) in (
      tt,
      tt,
      omega (arith, ap length is, i.2, c.insert_slot.ensures.room),
      d.1,
      new-still c.loop-hash.self.slots c.insert_slot.new.self.slots row.0 row.1 (rows_of rest) c.insert_slot.ensures.now n.1 d.0,
      (λ new h. (let E : List (ℕ × Slot) → Type 0 = λ hs. EnterAll c.loop-hash.self.slots (rows_of hs) new in i.5 new (subst E (sym is) (c.insert_slot.new.self.slots, c.insert_slot.ensures.now, h)))),
      c.insert_slot.ensures.hasher ∙ i.6,
      c.insert_slot.ensures.buckets ∙ i.7,
      subst B (sym c.insert_slot.ensures.hasher) a,
      omega (arith, ap length is, i.9, c.in-Some.ensures.steps.1),
    )

pub returns-clause-ok : goal.returns-clause-ok
returns-clause-ok g c =
    let rows = c.args.rows.items in
    let hash : Term → ℕ = g.H.KeyHash.hash c.self.inside.index.hasher in
    let it = into_iter_items c.into_iter-hash-iterator.result in
    let last = c.loop-hash.self.slots in
    let plain : rows_of it ≡ rows = ap rows_of (c.into_iter-hash-iterator.ensures.into_iter_gives.0 ∙ c.in_ok-hashed.ensures) ∙ rows-hashed hash rows in
    let E : List (ℕ × Slot) → Type 0 = λ hs. EnterAll last (rows_of hs) last in
    let F : List Slot → Type 0 = λ l. EnterAll c.reserve_slots.new.self.slots l last in
    let G : List Slot → Type 0 = λ s. EnterAll s rows last in
    subst G c.reserve_slots.ensures.slots (subst F plain (c.loop-hash.invariant.5 last (subst E (sym (none-left _ (sym (c.loop-hash.invariant.9) ∙ c.in-None.ensures.steps.0))) refl)))
