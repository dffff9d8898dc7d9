use Rattle.std.proofs.Common.{◌≡◌, ◌+◌, suc, sym, ◌∙◌, ap, slice_get, Some, arith}
use Rattle.bucket_table.proofs.slots.Index.{own-entry, at-place, none-behind, none-of, first-of-drop}
use Rattle.bucket_table.proofs.plain.PlainRowsRows.next_at.Goals as goal

pub returns-in_default : goal.returns-in_default
returns-in_default c = rw (none-behind c.args.self.now.slots.entries c.args.key.now (none-of _ c.in_default.ensures.found))

pub overflow_add-place : goal.overflow_add-place
overflow_add-place c = omega (arith, c.in-Some.ensures.within, c.as_slice.ensures.fits)

pub returns-in-Some-get_index : goal.returns-in-Some-get_index
returns-in-Some-get_index c =
    let slots = c.args.self.now.slots.entries in
    let own = own-entry slots c.args.key.now c.in-Some.place (sym c.in-Some.ensures.index) in
    let at = at-place slots c.in-Some.place c.args.key.now own.0 c.in-Some.ensures.unique own.1 in
    let next : c.in-Some.place + 1 ≡ suc c.in-Some.place = omega arith in
    rw at.behind (ap Some (ap (λ o. Some (c.in-Some-get_index.key.now, o)) c.as_slice-in-Some-get_index.ensures
    ∙ c.in-Some-get_index.ensures.entry ∙ ap (λ l. slice_get l (c.in-Some.place + 1)) c.as_slice.ensures.entries ∙ ap (slice_get slots) next ∙ sym (first-of-drop slots (suc c.in-Some.place))))

pub returns-in-None : goal.returns-in-None
returns-in-None c =
    let slots = c.args.self.now.slots.entries in
    let own = own-entry slots c.args.key.now c.in-Some.place (sym c.in-Some.ensures.index) in
    let at = at-place slots c.in-Some.place c.args.key.now own.0 c.in-Some.ensures.unique own.1 in
    let next : c.in-Some.place + 1 ≡ suc c.in-Some.place = omega arith in
    rw at.behind (ap Some (c.in-None.ensures.entry ∙ ap (λ l. slice_get l (c.in-Some.place + 1)) c.as_slice.ensures.entries ∙ ap (slice_get slots) next ∙ sym (first-of-drop slots (suc c.in-Some.place))))
