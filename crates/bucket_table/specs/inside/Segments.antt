-- The directory as it is stored: in segments of 32768 links. Past the end of the links of a segment no bucket is ready.
use Rattle.std.specs.Prelude.{◌≡◌, ◌≢◌, ℕ, ◌*◌, ◌/◌, ◌%◌, ◌+◌, ◌<◌, ◌≤◌, List, [], ◌∷◌, ◌++◌, Option, Some, None, length, get_or, map, replicate, Vec, vec_capacity}
use Rattle.std.specs.List.{range_with_len}

-- The links of each segment.
abbrev pub links_in : {A : Type 0} → List (Vec (Option ℕ) A) → List (List (Option ℕ))
links_in segments = map (λ segment. segment.items) segments

-- The link of a bucket.
abbrev pub link_of : List (List (Option ℕ)) → ℕ → Option ℕ
link_of segments bucket = get_or (get_or segments (bucket / 32768) []) (bucket % 32768) None

-- The links of all buckets.
abbrev pub links_of : {A : Type 0} → Vec (Option ℕ) A → List (Vec (Option ℕ) A) → ℕ → List (Option ℕ)
links_of first later buckets = map (link_of (links_in (first ∷ later))) (range_with_len 0 buckets)

-- There are segments with capacity for all buckets, and no link past them.
pub record HasRoom {A : Type 0} (first : Vec (Option ℕ) A) (later : List (Vec (Option ℕ) A)) (buckets : ℕ) : Type 0 where
  pub unready : (bucket : ℕ) → buckets ≤ bucket → link_of (links_in (first ∷ later)) bucket ≡ None
  pub first_room : (bucket : ℕ) → bucket < buckets → bucket < 32768 → bucket < vec_capacity first
  pub later_room : (segment : ℕ) → segment < length later → 32768 ≤ get_or (map vec_capacity later) segment 0
  pub segments : buckets ≤ 32768 * (1 + length later)

-- The link at an index is set, and each other one stays.
pub record SetsLink (index at : ℕ) (old new : List (Option ℕ)) : Type 0 where
  pub here : get_or new index None ≡ Some at
  pub others : (other : ℕ) → other ≢ index → get_or new other None ≡ get_or old other None

-- Empty segments are added, with capacity for all their links.
pub record AddsSegments {A : Type 0} (old new : List (Vec (Option ℕ) A)) : Type 0 where
  pub added : List (Vec (Option ℕ) A)
  pub is : new ≡ old ++ added
  pub empty : links_in added ≡ replicate (length added) []
  pub room : map vec_capacity added ≡ replicate (length added) 32768
