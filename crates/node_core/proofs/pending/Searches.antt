-- Once no step is pending, searches, one in each bucket, visit few nodes in total.
use Rattle.std.proofs.Common.{◌≡◌, ℕ, zero, suc, ◌+◌, ◌*◌, ◌%◌, ◌<◌, ◌≤◌, inl, inr, true, false, cond, List, [], ◌∷◌, map, ap, ◌∙◌, length, get_or, arith}
use Rattle.std.specs.Prelude.{nat_lt, nat_eq, count_by, sum}
use Rattle.std.specs.List.{range_with_len}
use Rattle.std.proofs.lemmas.Bool.Decides.{nat_tests}
use Rattle.std.proofs.lemmas.List.Sums.{sum_by-cons, count_by-le-length}
use Rattle.std.proofs.lemmas.List.FromFn.{sum_by-map-range_with_len_more}
use Rattle.ets_term.specs.declared.term.Term.{Term}
use Rattle.bucket_table.specs.Visits.{bucket_keys}
use Rattle.fixed_walk.specs.TableState.{TableState}
use Rattle.node_core.specs.laws.Growth.{VisitsInBucket, SearchesAreShort}
use Rattle.node_core.proofs.pending.Sufficing.{growth-suffices}

-- ---- the keys of all buckets
module _ {X : Type 0} (of : X → ℕ) where
  abbrev below : ℕ → List X → ℕ
  below k xs = count_by (λ x. nat_lt (of x) k) xs

  one-more : (n k : ℕ) → cond (nat_lt n k) 1 0 + cond (nat_eq n k) 1 0 ≤ cond (nat_lt n (suc k)) 1 0
  one-more n k = grind (arith, nat_tests)

  below-more : (k : ℕ) (xs : List X) → below k xs + count_by (λ x. nat_eq (of x) k) xs ≤ below (suc k) xs
  below-more k [] = omega arith
  below-more k (x ∷ xs) =
      omega (arith, below-more k xs, one-more (of x) k, sum_by-cons (λ x. cond (nat_lt (of x) k) 1 0) x xs, sum_by-cons (λ x. cond (nat_eq (of x) k) 1 0) x xs, sum_by-cons (λ x. cond (nat_lt (of x) (suc k)) 1 0) x xs)

  more : (k : ℕ) → suc k ≡ k + 1
  more k = omega arith

  in-buckets : (nodes : ℕ → ℕ) (xs : List X) (n : ℕ) → ((b : ℕ) → b < n → nodes b ≤ count_by (λ x. nat_eq (of x) b) xs + 2) → sum (map nodes (range_with_len 0 n)) ≤ below n xs + 2 * n
  in-buckets nodes xs zero h = omega arith
  in-buckets nodes xs (suc n) h =
      let next : sum (map nodes (range_with_len 0 (suc n))) ≡ sum (map nodes (range_with_len 0 n)) + nodes n =
      ap (λ k. sum (map nodes (range_with_len 0 k))) (more n) ∙ sum_by-map-range_with_len_more (λ x. x) nodes 0 n n (omega arith)
      in
      omega (arith, next, in-buckets nodes xs n (λ b less. h b (omega (arith, less))), h n (omega arith), below-more n xs)

  over-buckets : (nodes : ℕ → ℕ) (xs : List X) (n : ℕ) → ((b : ℕ) → b < n → nodes b ≤ count_by (λ x. nat_eq (of x) b) xs + 2) → sum (map nodes (range_with_len 0 n)) ≤ length xs + 2 * n
  over-buckets nodes xs n h = omega (arith, in-buckets nodes xs n h, count_by-le-length (λ x. nat_lt (of x) n) xs)

-- ---- one search
visits : (hash_of : Term → ℕ) (table : TableState) (bucket nodes : ℕ) → get_or table.buckets bucket false ≡ true → VisitsInBucket hash_of table bucket nodes
    → nodes ≤ bucket_keys hash_of (length table.buckets) bucket table.content.slots + 2
visits hash_of table bucket nodes ready h =
    let most = h.3.bound (ap (λ b. get_or table.buckets b false) h.4 ∙ ready) in
    omega (arith, h.5, most, ap (λ b. bucket_keys hash_of (length table.buckets) b table.content.slots) h.4)

pub searches-are-short : SearchesAreShort
searches-are-short s t table hash_of nodes total none at searched is =
    let enough = growth-suffices s t table none at in
    let all = over-buckets (λ slot. hash_of slot.0 % length table.state.buckets) nodes table.state.content.slots (length table.state.buckets)
    (λ b within. visits hash_of table.state b (nodes b) (enough.1 b within) (searched b within))
    in
    (omega (arith, is, all), elim enough.0 [ inl few ↦ inl (omega (arith, is, all, few)) | inr most ↦ inr most ])
