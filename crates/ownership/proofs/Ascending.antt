-- Identifiers in ascending order: where one is, and where one is inserted.
use Rattle.std.proofs.Common.{◌≡◌, ℕ, ◌+◌, ◌<◌, ◌≤◌, ◌⊎◌, zero, suc, Bool, true, false, cond, List, [], ◌∷◌, ◌++◌, Ok, Err, inl, inr, refl, sym, subst, length, get_or, add-one, drop-cons, arith}
use Rattle.std.specs.Prelude.{filter, drop}
use Rattle.std.specs.List.{insert}
use Rattle.std.specs.List.Sorted.{IsBinarySearchResult, IsNonDecreasingBy}
use Rattle.std.specs.Ordering.{nat_cmp, ordering_index}
use Rattle.std.proofs.lemmas.Cmp.{ranked}
use Rattle.std.proofs.lemmas.List.Sorted.{IsNonDecreasingBy-from_default}
use Rattle.std.proofs.lemmas.List.{drop_all}
use Rattle.std.proofs.lemmas.Bool.Decides.{nat_tests}
use Rattle.ownership.specs.inside.Indices.{IsAmong, AscendsBetween, InsertsInOrder}

pub bounds-meet : (low high : ℕ) (ids : List ℕ) → AscendsBetween low high ids → low ≤ high
bounds-meet low high [] b = b
bounds-meet low high (id ∷ ids) b = let rest = bounds-meet (suc id) high ids b.1 in omega (arith, b.0, rest)

-- there are at most as many as fit between the bounds
pub few-between : (low high : ℕ) (ids : List ℕ) → AscendsBetween low high ids → length ids + low ≤ high
few-between low high [] b = omega (arith, b)
few-between low high (id ∷ ids) b = let rest = few-between (suc id) high ids b.1 in omega (arith, b.0, rest)

pub between-higher : (low high more : ℕ) (ids : List ℕ) → high ≤ more → AscendsBetween low high ids → AscendsBetween low more ids
between-higher low high more [] h b = omega (arith, b, h)
between-higher low high more (id ∷ ids) h b = (b.0, between-higher (suc id) high more ids h b.1)

pub between-lower : (low less high : ℕ) (ids : List ℕ) → less ≤ low → AscendsBetween low high ids → AscendsBetween less high ids
between-lower low less high [] h b = omega (arith, b, h)
between-lower low less high (id ∷ ids) h b = (omega (arith, h, b.0), b.1)

-- each identifier is within the bounds
pub among-above : (low high : ℕ) (ids : List ℕ) (t : ℕ) → AscendsBetween low high ids → IsAmong t ids → low ≤ t
among-above low high [] t b a = absurd a
among-above low high (id ∷ ids) t b (inl same) = omega (arith, b.0, same)
among-above low high (id ∷ ids) t b (inr rest) = let above = among-above (suc id) high ids t b.1 rest in omega (arith, b.0, above)

get-above : (low high : ℕ) (ids : List ℕ) (k d : ℕ) → AscendsBetween low high ids → k < length ids → low ≤ get_or ids k d
get-above low high [] k d b h = absurd (omega (arith, h))
get-above low high (id ∷ ids) zero d b h = b.0
get-above low high (id ∷ ids) (suc k) d b h = let above = get-above (suc id) high ids k d b.1 (omega (arith, h)) in omega (arith, b.0, above)

rising : (low high : ℕ) (ids : List ℕ) (i j d : ℕ) → AscendsBetween low high ids → i ≤ j → j < length ids → get_or ids i d ≤ get_or ids j d
rising low high [] i j d b le h = absurd (omega (arith, h))
rising low high (id ∷ ids) zero zero d b le h = omega arith
rising low high (id ∷ ids) zero (suc j) d b le h = let above = get-above (suc id) high ids j d b.1 (omega (arith, h)) in omega (arith, above)
rising low high (id ∷ ids) (suc i) zero d b le h = absurd (omega (arith, le))
rising low high (id ∷ ids) (suc i) (suc j) d b le h = rising (suc id) high ids i j d b.1 (omega (arith, le)) (omega (arith, h))

-- an identifier that is read is among them
pub among-get : (ids : List ℕ) (k t : ℕ) → k < length ids → t ≡ get_or ids k t → IsAmong t ids
among-get [] k t h e = absurd (omega (arith, h))
among-get (id ∷ ids) zero t h e = inl e
among-get (id ∷ ids) (suc k) t h e = inr (among-get ids k t (omega (arith, h)) e)

module _ (low high : ℕ) (ids : List ℕ) (order : AscendsBetween low high ids) (id : ℕ) where
  comparisons-rise : IsNonDecreasingBy (λ t. ordering_index (nat_cmp t id)) ids
  comparisons-rise = IsNonDecreasingBy-from_default (λ t. ordering_index (nat_cmp t id)) ids 0 (λ i j le h.
      let up : get_or ids i 0 ≤ get_or ids j 0 = rising low high ids i j 0 order le h in
      grind (arith, nat_tests))

  pub less-before : (at : ℕ) → at ≤ length ids → IsBinarySearchResult (λ t. nat_cmp t id) ids (Err at) → (k : ℕ) → k < at → get_or ids k 0 < id
  less-before at h parted k lt = ranked _ id _ (sym ((parted comparisons-rise).0 k 0 (omega arith) lt))

  pub greater-behind : (at : ℕ) → at ≤ length ids → IsBinarySearchResult (λ t. nat_cmp t id) ids (Err at) → (k : ℕ) → at ≤ k → k < length ids → id < get_or ids k 0
  greater-behind at h parted k le lt = ranked _ id _ (sym ((parted comparisons-rise).1 k 0 le lt))

pub among-insert-here : (ids : List ℕ) (at id : ℕ) → IsAmong id (insert ids at id)
among-insert-here ids zero id = inl refl
among-insert-here [] (suc at) id = inl refl
among-insert-here (x ∷ ids) (suc at) id = inr (among-insert-here ids at id)

pub among-insert : (ids : List ℕ) (at id t : ℕ) → IsAmong t ids → IsAmong t (insert ids at id)
among-insert ids zero id t a = inr a
among-insert [] (suc at) id t a = absurd a
among-insert (x ∷ ids) (suc at) id t (inl same) = inl same
among-insert (x ∷ ids) (suc at) id t (inr rest) = inr (among-insert ids at id t rest)

pub between-insert : (low high : ℕ) (ids : List ℕ) (at id : ℕ) → low ≤ id → id < high → AscendsBetween low high ids → ((k : ℕ) → k < at → k < length ids → get_or ids k 0 < id) → ((k : ℕ) → at ≤ k → k < length ids → id < get_or ids k 0) → AscendsBetween low high (insert ids at id)
between-insert low high [] zero id l h b before behind = (l, omega (arith, h))
between-insert low high (x ∷ ids) zero id l h b before behind = let next : id < x = behind 0 (omega arith) (omega arith) in (l, (omega (arith, next), b.1))
between-insert low high [] (suc at) id l h b before behind = (l, omega (arith, h))
between-insert low high (x ∷ ids) (suc at) id l h b before behind =
    let last : x < id = before 0 (omega arith) (omega arith) in
    (b.0, between-insert (suc x) high ids at id (omega (arith, last)) h b.1 (λ k lt within. before (suc k) (omega (arith, lt)) (omega (arith, within))) (λ k le within. behind (suc k) (omega (arith, le)) (omega (arith, within))))

-- what a search and an insertion at its place give
pub put-in : (ids : List ℕ) (at id : ℕ) → at ≤ length ids → IsBinarySearchResult (λ t. nat_cmp t id) ids (Err at) → InsertsInOrder ids id (insert ids at id)
put-in ids at id h parted = record {
  here = among-insert-here ids at id;
  more = λ t. among-insert ids at id t;
  order = λ low high l u b. between-insert low high ids at id l u b (λ k lt within. less-before low high ids b id at h parted k lt) (λ k le within. greater-behind low high ids b id at h parted k le within);
}

pub put-found : (ids : List ℕ) (at id : ℕ) → at < length ids → IsBinarySearchResult (λ t. nat_cmp t id) ids (Ok at) → InsertsInOrder ids id ids
put-found ids at id h equal =
    let same : get_or ids at id ≡ id = ranked _ id _ (sym (equal id)) in
    record { here = among-get ids at id h (sym same); more = λ t a. a; order = λ low high l u b. b }

kept-at : (keep : ℕ → Bool) (b : Bool) (id : ℕ) (ids : List ℕ) (t : ℕ) → keep id ≡ b → keep t ≡ true → (t ≡ id) ⊎ IsAmong t (filter keep ids) → IsAmong t (cond b (id ∷ filter keep ids) (filter keep ids))
kept-at keep true id ids t e k a = a
kept-at keep false id ids t e k (inl same) = absurd (cc (subst (λ x. keep x ≡ true) same k, e))
kept-at keep false id ids t e k (inr rest) = rest

-- an identifier that `retain` keeps is among those kept
pub among-filter : (keep : ℕ → Bool) (ids : List ℕ) (t : ℕ) → keep t ≡ true → IsAmong t ids → IsAmong t (filter keep ids)
among-filter keep [] t k a = a
among-filter keep (id ∷ ids) t k (inl same) = kept-at keep (keep id) id ids t refl k (inl same)
among-filter keep (id ∷ ids) t k (inr rest) = kept-at keep (keep id) id ids t refl k (inr (among-filter keep ids t k rest))

left-between : (b : Bool) (low high id : ℕ) (ids : List ℕ) → low ≤ id → AscendsBetween (suc id) high ids → AscendsBetween low high (cond b (id ∷ ids) ids)
left-between true low high id ids h b = (h, b)
left-between false low high id ids h b = between-lower (suc id) low high ids (omega (arith, h)) b

pub between-filter : (keep : ℕ → Bool) (low high : ℕ) (ids : List ℕ) → AscendsBetween low high ids → AscendsBetween low high (filter keep ids)
between-filter keep low high [] b = b
between-filter keep low high (id ∷ ids) b = left-between (keep id) low high id (filter keep ids) b.0 (between-filter keep (suc id) high ids b.1)

-- the identifiers from a place on
pub cut-at : (ids : List ℕ) (i : ℕ) → i < length ids → drop i ids ≡ get_or ids i 0 ∷ drop (i + 1) ids
cut-at ids i h = rw (add-one, drop-cons ids i 0)

pub none-left : (ids : List ℕ) (i t : ℕ) → length ids ≤ i → IsAmong t (drop i ids) → ⊥
none-left ids i t h a = absurd (subst (IsAmong t) (drop_all i ids h) a)

-- an identifier among two lists
pub among-either : (ids more : List ℕ) (t : ℕ) → IsAmong t (ids ++ more) → IsAmong t ids ⊎ IsAmong t more
among-either [] more t a = inr a
among-either (id ∷ ids) more t (inl same) = inl (inl same)
among-either (id ∷ ids) more t (inr rest) = by (among-either ids more t rest)
  where
    by : IsAmong t ids ⊎ IsAmong t more → IsAmong t (id ∷ ids) ⊎ IsAmong t more
    by (inl first) = inl (inr first)
    by (inr next) = inr next

pub among-left : (ids more : List ℕ) (t : ℕ) → IsAmong t ids → IsAmong t (ids ++ more)
among-left [] more t a = absurd a
among-left (id ∷ ids) more t (inl same) = inl same
among-left (id ∷ ids) more t (inr rest) = inr (among-left ids more t rest)

pub among-right : (ids more : List ℕ) (t : ℕ) → IsAmong t more → IsAmong t (ids ++ more)
among-right [] more t a = a
among-right (id ∷ ids) more t a = inr (among-right ids more t a)
