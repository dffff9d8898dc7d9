use Rattle.std.proofs.Common.{◌≡◌, ◌∷◌, refl, sym, ap, ◌∙◌, length, arith}
use Rattle.bucket_table.specs.Lent.{key_of_ref}
use Rattle.fixed_walk.specs.Walk.{first_slot}
use Rattle.fixed_walk.specs.inside.From.{slots_from}
use Rattle.fixed_walk.proofs.FromLaws.{from-step, from-here-first, slots-short, next-has-slot, none-left, some-left, first-of}
use Rattle.fixed_walk.proofs.walked.walk.first_nonempty.Goals as goal

pub loop-init : goal.loop-init
loop-init g c =
    let short = slots-short (g.R.Rows.key_at c.args.rows.now) (g.R.Rows.slots c.args.rows.now) c.args.start in
    record { has_slot = c.requires; same = refl; few = omega (arith, short) }

pub returns-then-not-is_empty : goal.returns-then-not-is_empty
returns-then-not-is_empty g c =
    let key_at = g.R.Rows.key_at c.args.rows.now in
    let slots = g.R.Rows.slots c.args.rows.now in
    let some = some-left c.slot_at.result.1.now (sym c.is_empty.ensures ∙ c.if-not-is_empty.true) in
    sym (from-here-first key_at slots c.in_ok-place.place (key_of_ref c.slot_at.result.0) c.slot_at.result.1.now c.slot_at.ensures.key c.slot_at.ensures.objects some)
    ∙ ap (λ at. first_slot (slots_from key_at slots at)) (sym c.in_ok-place.was) ∙ c.loop.invariant.same

pub loop-preserved : goal.loop-preserved
loop-preserved g c =
    let key_at = g.R.Rows.key_at c.args.rows.now in
    let slots = g.R.Rows.slots c.args.rows.now in
    let key = (key_of_ref c.slot_at.result.0) in
    let objects = c.slot_at.result.1.now in
    let next = c.next_place-at.result in
    let step = from-step key_at slots c.in_ok-place.place key objects next c.reveal_invariant.ensures c.slot_at.ensures.key c.slot_at.ensures.objects c.next_place-at.ensures in
    let here : slots_from key_at slots c.loop.at ≡ (key, objects) ∷ slots_from key_at slots next = ap (slots_from key_at slots) c.in_ok-place.was ∙ step in
    let none = none-left objects (sym c.is_empty.ensures ∙ c.if-not-is_empty.false) in
    let long = ap length here in
    record {
      has_slot = next-has-slot key_at slots (key_at c.in_ok-place.place) next c.next_place-at.ensures;
      same = sym (first-of key objects (slots_from key_at slots next) none) ∙ ap first_slot (sym here) ∙ c.loop.invariant.same;
      few = omega (arith, c.loop.invariant.few, long);
    }
