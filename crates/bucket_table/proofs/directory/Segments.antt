-- The directory in its segments: what a read, a set link and added segments do to the links of all buckets.
use Rattle.std.proofs.Common.{◌≡◌, ◌≢◌, ℕ, ◌+◌, ◌-◌, ◌*◌, ◌/◌, ◌%◌, ◌<◌, ◌≤◌, List, [], ◌∷◌, ◌++◌, Option, Some, None, Vec, vec_capacity, length, map, get_or, set, replicate, inl, inr, zero, suc, refl, sym, ◌∙◌, ap, ap₂, subst, lt_irrefl, arith}
use Rattle.std.specs.List.{range_with_len}
use Rattle.std.proofs.lemmas.Bool.{cases_lt, cases_eq}
use Rattle.std.proofs.lemmas.List.{append-nil, ext_get_or, length-set, length-append, length-map, length-replicate, get_or-set_same, get_or-set_other, get_or_append_left, get_or-append_right, get_or-replicate, get_or_past, get_or-map, map-append, map-set}
use Rattle.std.proofs.lemmas.List.FromFn.{length-map-range_with_len, get_or-map-range_with_len}
use Rattle.bucket_table.specs.inside.Segments.{links_in, link_of, links_of, HasRoom, SetsLink, AddsSegments}

abbrev Segments : Type 0
Segments = List (List (Option ℕ))

abbrev pub written : Segments → ℕ → List (Option ℕ)
written segments n = map (link_of segments) (range_with_len 0 n)

pub length-written : (segments : Segments) (n : ℕ) → length (written segments n) ≡ n
length-written segments n = length-map-range_with_len (link_of segments) 0 n

at : (segments : Segments) (n k : ℕ) → k < n → get_or (written segments n) k None ≡ link_of segments k
at segments n k lt = get_or-map-range_with_len (link_of segments) 0 n k k None lt (omega arith)

-- The link of a bucket is read.
pub link-read : (segments : Segments) (n k : ℕ) → ((bucket : ℕ) → n ≤ bucket → link_of segments bucket ≡ None) → get_or (written segments n) k None ≡ link_of segments k
link-read segments n k unready =
    elim (cases_lt k n) [
      | inl lt ↦ at segments n k lt
      | inr ge ↦ get_or_past (written segments n) k None (omega (arith, ge, length-written segments n)) ∙ sym (unready k ge)
    ]

-- No link changes.
pub links-stay : (segments others : Segments) (n : ℕ) → ((k : ℕ) → link_of others k ≡ link_of segments k) → written others n ≡ written segments n
links-stay segments others n same =
    ext_get_or None (written others n) (written segments n) (length-written others n ∙ sym (length-written segments n)) (λ k lt.
    let within : k < n = omega (arith, lt, length-written others n) in
    at others n k within ∙ (same k ∙ sym (at segments n k within)))

-- One link changes.
pub link-set : (segments others : Segments) (n bucket : ℕ) (link : Option ℕ) → bucket < n → link_of others bucket ≡ link → ((k : ℕ) → k ≢ bucket → link_of others k ≡ link_of segments k) → written others n ≡ set (written segments n) bucket link
link-set segments others n bucket link below here rest =
    ext_get_or None (written others n) (set (written segments n) bucket link) (length-written others n ∙ sym (length-set (written segments n) bucket link ∙ length-written segments n)) (λ k lt.
    let within : k < n = omega (arith, lt, length-written others n) in
    at others n k within ∙
    elim (cases_eq k bucket) [
      | inl is ↦
          let P : ℕ → Type 0 = λ m. link_of others m ≡ get_or (set (written segments n) bucket link) m None in
          subst P (sym is) (here ∙ sym (get_or-set_same (written segments n) bucket link None (omega (arith, below, length-written segments n))))
      | inr other ↦ rest k other ∙ (sym (at segments n k within) ∙ sym (get_or-set_other (written segments n) bucket k link None other))
    ])

-- The number of buckets is doubled.
pub links-double : (segments others : Segments) (n : ℕ) → ((bucket : ℕ) → n ≤ bucket → link_of segments bucket ≡ None) → ((k : ℕ) → link_of others k ≡ link_of segments k) → written others (2 * n) ≡ written segments n ++ replicate (length (written segments n)) None
links-double segments others n unready same =
    let long = length-written segments n in
    let nones : List (Option ℕ) = replicate (length (written segments n)) None in
    let many : length nones ≡ length (written segments n) = length-replicate (length (written segments n)) None in
    ext_get_or None (written others (2 * n)) (written segments n ++ nones) (length-written others (2 * n) ∙ omega (arith, long, many, length-append (written segments n) nones)) (λ k lt.
    let within : k < 2 * n = omega (arith, lt, length-written others (2 * n)) in
    at others (2 * n) k within ∙ (same k ∙
    elim (cases_lt k n) [
      | inl less ↦ sym (at segments n k less) ∙ sym (get_or_append_left (written segments n) nones None k (omega (arith, less, long)))
      | inr past ↦ unready k past ∙ sym (get_or-append_right (written segments n) nones (length (written segments n)) k None refl (omega (arith, past, long)) ∙ get_or-replicate (length (written segments n)) (k - length (written segments n)) None None (omega (arith, within, past, long)))
    ]))

module _ (first : List (Option ℕ)) (later : Segments) where
  pub link-first : (k : ℕ) → k < 32768 → link_of (first ∷ later) k ≡ get_or first k None
  link-first k lt =
      let segment : k / 32768 ≡ 0 = omega (arith, lt) in
      let index : k % 32768 ≡ k = omega (arith, lt) in
      ap₂ (λ (p i : ℕ). get_or (get_or (first ∷ later) p []) i None) segment index

  pub link-later : (k : ℕ) → 32768 ≤ k → link_of (first ∷ later) k ≡ get_or (get_or later (k / 32768 - 1) []) (k % 32768) None
  link-later k ge =
      let segment : k / 32768 ≡ suc (k / 32768 - 1) = omega (arith, ge) in
      ap (λ (p : ℕ). get_or (get_or (first ∷ later) p []) (k % 32768) None) segment

-- A link of the first segment is set.
module _ (first after : List (Option ℕ)) (later : Segments) (bucket at : ℕ) (below : bucket < 32768) (sets : SetsLink bucket at first after) where
  pub first-here : link_of (after ∷ later) bucket ≡ Some at
  first-here = link-first after later bucket below ∙ sets.here

  pub first-others : (k : ℕ) → k ≢ bucket → link_of (after ∷ later) k ≡ link_of (first ∷ later) k
  first-others k other =
      elim (cases_lt k 32768) [
        | inl lt ↦ link-first after later k lt ∙ (sets.others k other ∙ sym (link-first first later k lt))
        | inr ge ↦ link-later after later k ge ∙ sym (link-later first later k ge)
      ]

-- A link of a later segment is set.
module _ (first segment : List (Option ℕ)) (later : Segments) (bucket at : ℕ) (past : 32768 ≤ bucket) (has : bucket / 32768 - 1 < length later) (sets : SetsLink (bucket % 32768) at (get_or later (bucket / 32768 - 1) []) segment) where
  pub later-here : link_of (first ∷ set later (bucket / 32768 - 1) segment) bucket ≡ Some at
  later-here =
      link-later first (set later (bucket / 32768 - 1) segment) bucket past
      ∙ (ap (λ (zs : List (Option ℕ)). get_or zs (bucket % 32768) None) (get_or-set_same later (bucket / 32768 - 1) segment [] has) ∙ sets.here)

  pub later-others : (k : ℕ) → k ≢ bucket → link_of (first ∷ set later (bucket / 32768 - 1) segment) k ≡ link_of (first ∷ later) k
  later-others k other =
      elim (cases_lt k 32768) [
        | inl lt ↦ link-first first (set later (bucket / 32768 - 1) segment) k lt ∙ sym (link-first first later k lt)
        | inr ge ↦
            link-later first (set later (bucket / 32768 - 1) segment) k ge ∙ (
            elim (cases_eq (k / 32768 - 1) (bucket / 32768 - 1)) [
              | inl is ↦
                  let P : ℕ → Type 0 = λ p. get_or (get_or (set later (bucket / 32768 - 1) segment) p []) (k % 32768) None ≡ get_or (get_or later p []) (k % 32768) None in
                  let index : k % 32768 ≢ bucket % 32768 = λ same. other (omega (arith, is, same, ge, past)) in
                  subst P (sym is) (ap (λ (zs : List (Option ℕ)). get_or zs (k % 32768) None) (get_or-set_same later (bucket / 32768 - 1) segment [] has) ∙ sets.others (k % 32768) index)
              | inr apart ↦ ap (λ (zs : List (Option ℕ)). get_or zs (k % 32768) None) (get_or-set_other later (bucket / 32768 - 1) (k / 32768 - 1) segment [] apart)
            ] ∙ sym (link-later first later k ge))
      ]

-- Empty segments are added.
abbrev no_links : List (Option ℕ)
no_links = []

get-empty : (later : Segments) (m p : ℕ) → get_or (later ++ replicate m no_links) p no_links ≡ get_or later p no_links
get-empty later m p =
    elim (cases_lt p (length later)) [
      | inl lt ↦ get_or_append_left later (replicate m no_links) no_links p lt
      | inr ge ↦ get_or-append_right later (replicate m no_links) (length later) p no_links refl ge ∙ (none m (p - length later) ∙ sym (get_or_past later p no_links ge))
    ]
  where
    none : (m k : ℕ) → get_or (replicate m no_links) k no_links ≡ no_links
    none zero k = refl
    none (suc m) zero = refl
    none (suc m) (suc k) = none m k

link-empty : (first : List (Option ℕ)) (later after : Segments) (m : ℕ) → after ≡ later ++ replicate m no_links → (k : ℕ) → link_of (first ∷ after) k ≡ link_of (first ∷ later) k
link-empty first later after m is k =
    let more : Segments = later ++ replicate m no_links in
    ap (λ (segments : Segments). link_of (first ∷ segments) k) is ∙ (
    elim (cases_lt k 32768) [
      | inl lt ↦ link-first first more k lt ∙ sym (link-first first later k lt)
      | inr ge ↦ link-later first more k ge ∙ (ap (λ (zs : List (Option ℕ)). get_or zs (k % 32768) None) (get-empty later m (k / 32768 - 1)) ∙ sym (link-later first later k ge))
    ])

module _ {A : Type 0} where
  pub link-added : (first : Vec (Option ℕ) A) (old new : List (Vec (Option ℕ) A)) → AddsSegments old new → (k : ℕ) → link_of (links_in (first ∷ new)) k ≡ link_of (links_in (first ∷ old)) k
  link-added first old new adds =
      link-empty first.items (links_in old) (links_in new) (length adds.added) (ap links_in adds.is ∙ (map-append (λ segment. segment.items) old adds.added ∙ ap (λ (zs : Segments). links_in old ++ zs) adds.empty))

  -- The capacities after segments are added.
  room-added : (old new : List (Vec (Option ℕ) A)) → AddsSegments old new → ((segment : ℕ) → segment < length old → 32768 ≤ get_or (map vec_capacity old) segment 0) → (segment : ℕ) → segment < length new → 32768 ≤ get_or (map vec_capacity new) segment 0
  room-added old new adds room segment lt =
      let count = length adds.added in
      let caps : map vec_capacity new ≡ map vec_capacity old ++ replicate count 32768 = ap (map vec_capacity) adds.is ∙ (map-append vec_capacity old adds.added ∙ ap (λ (zs : List ℕ). map vec_capacity old ++ zs) adds.room) in
      let P : List ℕ → Type 0 = λ zs. 32768 ≤ get_or zs segment 0 in
      let long = length-map old vec_capacity in
      let all : length new ≡ length old + count = ap length adds.is ∙ length-append old adds.added in
      subst P (sym caps) (
      elim (cases_lt segment (length old)) [
        | inl less ↦ subst (λ (z : ℕ). 32768 ≤ z) (sym (get_or_append_left (map vec_capacity old) (replicate count 32768) 0 segment (omega (arith, less, long)))) (room segment less)
        | inr past ↦
            let here : get_or (map vec_capacity old ++ replicate count 32768) segment 0 ≡ 32768 = get_or-append_right (map vec_capacity old) (replicate count 32768) (length (map vec_capacity old)) segment 0 refl (omega (arith, past, long)) ∙ get_or-replicate count (segment - length (map vec_capacity old)) 32768 0 (omega (arith, lt, all, past, long)) in
            omega (arith, here)
      ])

  -- The first segment has more capacity, and segments are added, for at least as many buckets.
  pub room-more : (first after : Vec (Option ℕ) A) (old new : List (Vec (Option ℕ) A)) (n m : ℕ) → HasRoom first old n → after.items ≡ first.items → AddsSegments old new → n ≤ m → ((bucket : ℕ) → bucket < m → bucket < 32768 → bucket < vec_capacity after) → m ≤ 32768 * (1 + length new) → HasRoom after new m
  room-more first after old new n m room same adds less first_room segments = record {
    unready = λ bucket ge. ap (λ (zs : List (Option ℕ)). link_of (zs ∷ links_in new) bucket) same ∙ (link-added first old new adds bucket ∙ room.unready bucket (omega (arith, ge, less)));
    first_room = first_room;
    later_room = room-added old new adds room.later_room;
    segments = segments;
  }

  -- A link of the first segment is set.
  pub room-first : (first after : Vec (Option ℕ) A) (later : List (Vec (Option ℕ) A)) (n bucket at : ℕ) → HasRoom first later n → bucket < n → bucket < 32768 → SetsLink bucket at first.items after.items → vec_capacity first ≤ vec_capacity after → HasRoom after later n
  room-first first after later n bucket at room below small sets more = record {
    unready = λ k ge. first-others first.items after.items (links_in later) bucket at small sets k (λ same. lt_irrefl n (omega (arith, same, ge, below))) ∙ room.unready k ge;
    first_room = λ k lt in_first. omega (arith, room.first_room k lt in_first, more);
    later_room = room.later_room;
    segments = room.segments;
  }

  pub links-set : (later : List (Vec (Option ℕ) A)) (p : ℕ) (segment : Vec (Option ℕ) A) → links_in (set later p segment) ≡ set (links_in later) p segment.items
  links-set later p segment = map-set (λ segment. segment.items) later p segment

  -- A link of a later segment is set.
  pub room-later : (first segment : Vec (Option ℕ) A) (later : List (Vec (Option ℕ) A)) (n bucket at : ℕ) → HasRoom first later n → bucket < n → 32768 ≤ bucket → bucket / 32768 - 1 < length later → SetsLink (bucket % 32768) at (get_or (links_in later) (bucket / 32768 - 1) []) segment.items → 32768 ≤ vec_capacity segment → HasRoom first (set later (bucket / 32768 - 1) segment) n
  room-later first segment later n bucket at room below past has sets more =
      let p = bucket / 32768 - 1 in
      let long = length-map later (λ (segment : Vec (Option ℕ) A). segment.items) in
      record {
        unready = λ k ge.
            ap (λ (segments : Segments). link_of (first.items ∷ segments) k) (links-set later p segment)
            ∙ (later-others first.items segment.items (links_in later) bucket at past (omega (arith, has, long)) sets k (λ same. lt_irrefl n (omega (arith, same, ge, below)))
            ∙ room.unready k ge);
        first_room = room.first_room;
        later_room = λ q lt.
            let P : List ℕ → Type 0 = λ zs. 32768 ≤ get_or zs q 0 in
            let wide = length-map later vec_capacity in
            subst P (sym (map-set vec_capacity later p segment)) (
            elim (cases_eq q p) [
              | inl is ↦
                  let Q : ℕ → Type 0 = λ z. 32768 ≤ get_or (set (map vec_capacity later) p (vec_capacity segment)) z 0 in
                  subst Q (sym is) (subst (λ (z : ℕ). 32768 ≤ z) (sym (get_or-set_same (map vec_capacity later) p (vec_capacity segment) 0 (omega (arith, has, wide)))) more)
              | inr other ↦ subst (λ (z : ℕ). 32768 ≤ z) (sym (get_or-set_other (map vec_capacity later) p q (vec_capacity segment) 0 other)) (room.later_room q (omega (arith, lt, length-set later p segment)))
            ]);
        segments = omega (arith, room.segments, length-set later p segment);
      }

  pub below : (first : Vec (Option ℕ) A) (later : List (Vec (Option ℕ) A)) (n bucket : ℕ) (now : List (Option ℕ)) → links_of first later n ≡ now → bucket < length now → bucket < n
  below first later n bucket now is lt = omega (arith, lt, ap length is, length-written (links_in (first ∷ later)) n)

  pub later-has : (first : Vec (Option ℕ) A) (later : List (Vec (Option ℕ) A)) (n bucket : ℕ) → HasRoom first later n → bucket < n → 32768 ≤ bucket → bucket / 32768 - 1 < length later
  later-has first later n bucket room lt past = omega (arith, lt, past, room.segments)

  -- A later segment that is read.
  module _ (later : List (Vec (Option ℕ) A)) (segment : ℕ) (now : Vec (Option ℕ) A) (has : segment < length later) (is : now ≡ get_or later segment now) where
    pub segment-links : now.items ≡ get_or (links_in later) segment []
    segment-links = ap (λ segment. segment.items) is ∙ sym (get_or-map (λ segment. segment.items) later segment now [] has)

    pub segment-room : (first : Vec (Option ℕ) A) (n : ℕ) → HasRoom first later n → 32768 ≤ vec_capacity now
    segment-room first n room = omega (arith, room.later_room segment has, get_or-map vec_capacity later segment now 0 has, ap vec_capacity is)

  pub adds-none : (segments : List (Vec (Option ℕ) A)) → AddsSegments segments segments
  adds-none segments = record { added = []; is = sym (append-nil segments); empty = refl; room = refl }

  pub adds-longer : (old new : List (Vec (Option ℕ) A)) → AddsSegments old new → length old ≤ length new
  adds-longer old new adds = omega (arith, ap length adds.is, length-append old adds.added)
