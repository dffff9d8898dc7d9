use Rattle.std.proofs.Common.{◌≡◌, ◌∷◌, ◌∙◌, ◌-◌, ◌/◌, ◌%◌, ◌<◌, ◌≤◌, ℕ, List, Option, Some, length, set, ap, subst, arith}
use Rattle.std.proofs.lemmas.List.{length-map}
use Rattle.bucket_table.specs.inside.Segments.{links_in, SetsLink}
use Rattle.bucket_table.proofs.directory.Segments.{below, written, link-set, links-set, first-here, first-others, later-here, later-others, room-first, room-later, later-has, segment-links, segment-room}
use Rattle.bucket_table.proofs.split.directory.Directory.set.Goals as goal

pub set_link-requires-clause-room : goal.set_link-requires-clause-room
set_link-requires-clause-room c =
    c.self.invariant.first_room c.args.bucket (below c.self.inside.first_segment c.self.inside.later_segments.items c.self.inside.buckets c.args.bucket c.args.self.now c.self.view_is c.requires.below) (omega (arith, c.if-bucket-lt-MAX_LINKS_PER_SEGMENT.true))

pub invariant_of-self : goal.invariant_of-self
invariant_of-self c =
    let lt = below c.self.inside.first_segment c.self.inside.later_segments.items c.self.inside.buckets c.args.bucket c.args.self.now c.self.view_is c.requires.below in
    room-first c.self.inside.first_segment c.set_link.new.segment c.self.inside.later_segments.items c.self.inside.buckets c.args.bucket c.args.at c.self.invariant lt (omega (arith, c.if-bucket-lt-MAX_LINKS_PER_SEGMENT.true)) c.set_link.ensures.link c.set_link.ensures.capacity

pub index_mut-requires : goal.index_mut-requires
index_mut-requires c =
    let lt = below c.self.inside.first_segment c.self.inside.later_segments.items c.self.inside.buckets c.args.bucket c.args.self.now c.self.view_is c.requires.below in
    omega (arith, later-has c.self.inside.first_segment c.self.inside.later_segments.items c.self.inside.buckets c.args.bucket c.self.invariant lt (omega (arith, c.if-bucket-lt-MAX_LINKS_PER_SEGMENT.false)), c.self.inside.later_segments.ok.0)

pub set_link-requires-else-bucket-lt-MAX_LINKS_PER_SEGMENT-clause-room : goal.set_link-requires-else-bucket-lt-MAX_LINKS_PER_SEGMENT-clause-room
set_link-requires-else-bucket-lt-MAX_LINKS_PER_SEGMENT-clause-room c =
    let first = c.self.inside.first_segment in
    let later = c.self.inside.later_segments.items in
    let n = c.self.inside.buckets in
    let bucket = c.args.bucket in
    let lt = below first later n bucket c.args.self.now c.self.view_is c.requires.below in
    let past : 32768 ≤ bucket = omega (arith, c.if-bucket-lt-MAX_LINKS_PER_SEGMENT.false) in
    let has = later-has first later n bucket c.self.invariant lt past in
    let segment = bucket / 32768 - 1 in
    omega (arith, segment-room later segment c.index_mut.result.now has c.index_mut.ensures.value first n c.self.invariant)

pub invariant_of-self-else-bucket-lt-MAX_LINKS_PER_SEGMENT : goal.invariant_of-self-else-bucket-lt-MAX_LINKS_PER_SEGMENT
invariant_of-self-else-bucket-lt-MAX_LINKS_PER_SEGMENT c =
    let first = c.self.inside.first_segment in
    let later = c.self.inside.later_segments.items in
    let n = c.self.inside.buckets in
    let bucket = c.args.bucket in
    let lt = below first later n bucket c.args.self.now c.self.view_is c.requires.below in
    let past : 32768 ≤ bucket = omega (arith, c.if-bucket-lt-MAX_LINKS_PER_SEGMENT.false) in
    let has = later-has first later n bucket c.self.invariant lt past in
    let segment = bucket / 32768 - 1 in
    let call = c.set_link-else-bucket-lt-MAX_LINKS_PER_SEGMENT in
    let links = segment-links later segment c.index_mut.result.now has c.index_mut.ensures.value in
    let sets = subst (λ (zs : List (Option ℕ)). SetsLink (bucket % 32768) c.args.at zs call.new.segment.items) links call.ensures.link in
    room-later first call.new.segment later n bucket c.args.at c.self.invariant lt past has sets (omega (arith, segment-room later segment c.index_mut.result.now has c.index_mut.ensures.value first n c.self.invariant, call.ensures.capacity))

pub returns-then-bucket-lt-MAX_LINKS_PER_SEGMENT : goal.returns-then-bucket-lt-MAX_LINKS_PER_SEGMENT
returns-then-bucket-lt-MAX_LINKS_PER_SEGMENT c =
    let first = c.self.inside.first_segment.items in
    let later = links_in c.self.inside.later_segments.items in
    let n = c.self.inside.buckets in
    let bucket = c.args.bucket in
    let lt = below c.self.inside.first_segment c.self.inside.later_segments.items n bucket c.args.self.now c.self.view_is c.requires.below in
    let small : bucket < 32768 = omega (arith, c.if-bucket-lt-MAX_LINKS_PER_SEGMENT.true) in
    let after = c.set_link.new.segment.items in
    let P : List (Option ℕ) → Type 0 = λ v. written (after ∷ later) n ≡ set v bucket (Some c.args.at) in
    subst P c.self.view_is (link-set (first ∷ later) (after ∷ later) n bucket (Some c.args.at) lt
    (first-here first after later bucket c.args.at small c.set_link.ensures.link)
    (first-others first after later bucket c.args.at small c.set_link.ensures.link))

pub returns-else-bucket-lt-MAX_LINKS_PER_SEGMENT : goal.returns-else-bucket-lt-MAX_LINKS_PER_SEGMENT
returns-else-bucket-lt-MAX_LINKS_PER_SEGMENT c =
    let first = c.self.inside.first_segment in
    let later = c.self.inside.later_segments.items in
    let n = c.self.inside.buckets in
    let bucket = c.args.bucket in
    let lt = below first later n bucket c.args.self.now c.self.view_is c.requires.below in
    let past : 32768 ≤ bucket = omega (arith, c.if-bucket-lt-MAX_LINKS_PER_SEGMENT.false) in
    let has = later-has first later n bucket c.self.invariant lt past in
    let segment = bucket / 32768 - 1 in
    let call = c.set_link-else-bucket-lt-MAX_LINKS_PER_SEGMENT in
    let after = call.new.segment in
    let links = segment-links later segment c.index_mut.result.now has c.index_mut.ensures.value in
    let sets = subst (λ (zs : List (Option ℕ)). SetsLink (bucket % 32768) c.args.at zs after.items) links call.ensures.link in
    let inside : segment < length (links_in later) = omega (arith, has, length-map later (λ segment. segment.items)) in
    let P : List (Option ℕ) → Type 0 = λ v. written (first.items ∷ links_in (set later segment after)) n ≡ set v bucket (Some c.args.at) in
    subst P c.self.view_is (
    ap (λ segments. written (first.items ∷ segments) n) (links-set later segment after)
    ∙ link-set (first.items ∷ links_in later) (first.items ∷ set (links_in later) segment after.items) n bucket (Some c.args.at) lt
    (later-here first.items after.items (links_in later) bucket c.args.at past inside sets)
    (later-others first.items after.items (links_in later) bucket c.args.at past inside sets))
