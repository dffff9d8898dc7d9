use Rattle.std.proofs.Common.{◌≡◌, ◌∷◌, ◌∙◌, ◌*◌, ◌++◌, List, Option, None, ℕ, Result, Ok, Err, OnErr, length, replicate, ap, subst, arith}
use Rattle.bucket_table.specs.inside.Segments.{links_in}
use Rattle.bucket_table.proofs.directory.Segments.{length-written, written, links-stay, links-double, link-added, room-more, adds-none, adds-longer}
use Rattle.bucket_table.proofs.split.directory.Directory.double.Goals as goal

on-err : {T E P : Type 0} (r : Result T E) → P → OnErr r P
on-err (Ok x) p = _
on-err (Err e) p = p

pub overflow_mul-buckets : goal.overflow_mul-buckets
overflow_mul-buckets c =
    let long = length-written (links_in (c.self.inside.first_segment ∷ c.self.inside.later_segments.items)) c.self.inside.buckets in
    omega (arith, c.requires, ap length c.self.view_is, long)

pub invariant_of-self : goal.invariant_of-self
invariant_of-self c =
    let first = c.self.inside.first_segment in
    let later = c.self.inside.later_segments.items in
    let n = c.self.inside.buckets in
    room-more first c.reserve.new.self later later n n c.self.invariant c.reserve.ensures.items (adds-none later) (omega arith)
    (λ bucket lt small. omega (arith, c.self.invariant.first_room bucket lt small, c.reserve.ensures.capacity)) c.self.invariant.segments

pub invariant_of-self-in_err-add_segments : goal.invariant_of-self-in_err-add_segments
invariant_of-self-in_err-add_segments c =
    let first = c.self.inside.first_segment in
    let later = c.self.inside.later_segments.items in
    let n = c.self.inside.buckets in
    room-more first c.reserve.new.self later c.add_segments.new.segments.items n n c.self.invariant c.reserve.ensures.items c.add_segments.ensures.adds (omega arith)
    (λ bucket lt small. omega (arith, c.self.invariant.first_room bucket lt small, c.reserve.ensures.capacity))
    (omega (arith, c.self.invariant.segments, adds-longer later c.add_segments.new.segments.items c.add_segments.ensures.adds))

pub returns-in_err-add_segments-clause-err : goal.returns-in_err-add_segments-clause-err
returns-in_err-add_segments-clause-err c =
    let first = c.self.inside.first_segment in
    let later = c.self.inside.later_segments.items in
    let n = c.self.inside.buckets in
    let new = links_in c.add_segments.new.segments.items in
    let same : written (c.reserve.new.self.items ∷ new) n ≡ c.args.self.now =
    ap (λ (zs : List (Option ℕ)). written (zs ∷ new) n) c.reserve.ensures.items
    ∙ (links-stay (links_in (first ∷ later)) (first.items ∷ new) n (link-added first later c.add_segments.new.segments.items c.add_segments.ensures.adds) ∙ c.self.view_is) in
    on-err c.from_residual-in_err-add_segments.result same

pub invariant_of-self-2 : goal.invariant_of-self-2
invariant_of-self-2 c =
    let first = c.self.inside.first_segment in
    let later = c.self.inside.later_segments.items in
    let n = c.self.inside.buckets in
    room-more first c.reserve.new.self later c.add_segments.new.segments.items n (2 * n) c.self.invariant c.reserve.ensures.items c.add_segments.ensures.adds (omega arith)
    (λ bucket lt small. omega (arith, lt, small, c.in_ok-reserve.ensures.ok, c.in_ok-reserve.ensures.len, c.min-in_first_segment.ensures, c.len.ensures, c.saturating_sub-missing.ensures))
    (omega (arith, c.in_ok-add_segments.ensures.ok, c.saturating_sub-later.ensures))

pub returns-clause-ok : goal.returns-clause-ok
returns-clause-ok c =
    let first = c.self.inside.first_segment in
    let later = c.self.inside.later_segments.items in
    let n = c.self.inside.buckets in
    let new = links_in c.add_segments.new.segments.items in
    let P : List (Option ℕ) → Type 0 = λ v. written (c.reserve.new.self.items ∷ new) (2 * n) ≡ v ++ replicate (length v) None in
    subst P c.self.view_is (
    ap (λ (zs : List (Option ℕ)). written (zs ∷ new) (2 * n)) c.reserve.ensures.items
    ∙ links-double (links_in (first ∷ later)) (first.items ∷ new) n c.self.invariant.unready (link-added first later c.add_segments.new.segments.items c.add_segments.ensures.adds))
