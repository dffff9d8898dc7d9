use Rattle.std.proofs.Common.{◌≡◌, ◌∙◌, ◌∷◌, ◌/◌, ◌-◌, ◌%◌, ◌<◌, ◌≤◌, List, [], Option, None, ℕ, get_or, length, sym, ap, subst, arith}
use Rattle.std.proofs.lemmas.List.{get_or-map, get_or_past, length-map}
use Rattle.bucket_table.specs.inside.Segments.{links_in}
use Rattle.bucket_table.proofs.directory.Segments.{link-read, link-first, link-later}
use Rattle.bucket_table.proofs.split.directory.Directory.get.Goals as goal

pub returns-then-bucket-lt-MAX_LINKS_PER_SEGMENT : goal.returns-then-bucket-lt-MAX_LINKS_PER_SEGMENT
returns-then-bucket-lt-MAX_LINKS_PER_SEGMENT c =
    let first = c.self.inside.first_segment.items in
    let later = links_in c.self.inside.later_segments.items in
    let P : List (Option ℕ) → Type 0 = λ v. c.link_at.result ≡ get_or v c.args.bucket None in
    subst P c.self.view_is (c.link_at.ensures
    ∙ (ap (λ (zs : List (Option ℕ)). get_or zs c.args.bucket None) c.as_slice.ensures.value
    ∙ (sym (link-first first later c.args.bucket (omega (arith, c.if-bucket-lt-MAX_LINKS_PER_SEGMENT.true)))
    ∙ sym (link-read (first ∷ later) c.self.inside.buckets c.args.bucket c.self.invariant.unready))))

pub returns-then-segment-len : goal.returns-then-segment-len
returns-then-segment-len c =
    let first = c.self.inside.first_segment.items in
    let later = links_in c.self.inside.later_segments.items in
    let bucket = c.args.bucket in
    let ge : 32768 ≤ bucket = omega (arith, c.if-bucket-lt-MAX_LINKS_PER_SEGMENT.false) in
    let P : List (Option ℕ) → Type 0 = λ v. c.link_at-then-segment-len.result ≡ get_or v bucket None in
    let within : bucket / 32768 - 1 < length c.self.inside.later_segments.items = omega (arith, c.if-segment-len.true, c.len.ensures, c.self.inside.later_segments.ok.0) in
    let items = get_or-map (λ segment. segment.items) c.self.inside.later_segments.items (bucket / 32768 - 1) c.index.result.now [] within in
    let same = ap (λ segment. segment.items) c.index.ensures ∙ sym items in
    subst P c.self.view_is (c.link_at-then-segment-len.ensures
    ∙ (ap (λ (zs : List (Option ℕ)). get_or zs (bucket % 32768) None) (c.as_slice-then-segment-len.ensures.value ∙ same)
    ∙ (sym (link-later first later bucket ge)
    ∙ sym (link-read (first ∷ later) c.self.inside.buckets bucket c.self.invariant.unready))))

pub returns-else-segment-len : goal.returns-else-segment-len
returns-else-segment-len c =
    let first = c.self.inside.first_segment.items in
    let later = links_in c.self.inside.later_segments.items in
    let bucket = c.args.bucket in
    let ge : 32768 ≤ bucket = omega (arith, c.if-bucket-lt-MAX_LINKS_PER_SEGMENT.false) in
    let P : List (Option ℕ) → Type 0 = λ v. ◌≡◌ {A = Option ℕ} None (get_or v bucket None) in
    let few : length later ≤ bucket / 32768 - 1 = omega (arith, c.if-segment-len.false, c.len.ensures, c.self.inside.later_segments.ok.0, length-map c.self.inside.later_segments.items (λ segment. segment.items)) in
    let past : get_or later (bucket / 32768 - 1) [] ≡ [] = get_or_past later (bucket / 32768 - 1) [] few in
    subst P c.self.view_is (sym (link-read (first ∷ later) c.self.inside.buckets bucket c.self.invariant.unready
    ∙ (link-later first later bucket ge
    ∙ ap (λ (zs : List (Option ℕ)). get_or zs (bucket % 32768) None) past)))
