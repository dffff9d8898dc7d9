-- The index by owner: entries stay, and the end of a process removes its own.
use Rattle.std.proofs.Common.{◌≡◌, ℕ, ◌<◌, ◌⊎◌, nat_eq, Bool, true, false, cond, List, [], ◌∷◌, Option, None, Some, Result, Ok, Err, OnOk, OnErr, inl, inr, refl, sym, ap, subst, true≢false, ◌∙◌, arith}
use Rattle.std.specs.Option.{option_map_or}
use Rattle.std.specs.declared.alloc.Global.{Global}
use Rattle.std.specs.declared.vec.Vec.{Vec}
use Rattle.std.proofs.lemmas.Bool.Decides.{nat_tests}
use Rattle.ownership.specs.declared.metadata.Heir.{Heir}
use Rattle.ownership.specs.World.{Table, Tables, Processes, table_at}
use Rattle.ownership.specs.End.{living_heir}
use Rattle.ownership.specs.declared.indices.Indices.{Indices}
use Rattle.ownership.specs.inside.Indices.{IsAmong, AscendsBetween, InsertsInOrder, AddsUnderOwners, RemovesOwner, EachAscends, ids_under}

pub same-number : (m n : ℕ) → nat_eq m n ≡ true → m ≡ n
same-number m n h = grind (arith, nat_tests)

own-number : (n : ℕ) → nat_eq n n ≡ true
own-number n = grind (arith, nat_tests)

other-number : (m n : ℕ) → nat_eq m n ≡ false → nat_eq n m ≡ false
other-number m n h = grind (arith, nat_tests)

-- more tables may be under owners
pub record AddsUnder (old new : ℕ → List ℕ) : Type 0 where
  pub more : (p t : ℕ) → IsAmong t (old p) → IsAmong t (new p)
  pub order : EachAscends old → EachAscends new

-- the tables of an entry
abbrev pub ids_in : Option (Vec ℕ Global) → List ℕ
ids_in entry = option_map_or (λ ids. ids.items) entry []

module _ (before after : ℕ → Option (Vec ℕ Global)) (owner id : ℕ) (ids : Vec ℕ Global) (updated : (q : ℕ) → after q ≡ cond (nat_eq owner q) (Some ids) (before q)) where
  now-is : (p : ℕ) (b : Bool) → nat_eq owner p ≡ b → ids_in (after p) ≡ cond b ids.items (ids_in (before p))
  now-is p true e = ap ids_in (updated p) ∙ ap (λ b. ids_in (cond b (Some ids) (before p))) e
  now-is p false e = ap ids_in (updated p) ∙ ap (λ b. ids_in (cond b (Some ids) (before p))) e

  module _ (put : InsertsInOrder (ids_in (before owner)) id ids.items) (below : id < 4294967296) where
    more-at : (b : Bool) (p t : ℕ) → nat_eq owner p ≡ b → IsAmong t (ids_in (before p)) → IsAmong t (cond b ids.items (ids_in (before p)))
    more-at true p t e a = put.more t (subst (λ q. IsAmong t (ids_in (before q))) (sym (same-number owner p e)) a)
    more-at false p t e a = a

    order-at : (b : Bool) (p : ℕ) → nat_eq owner p ≡ b → EachAscends (λ q. ids_in (before q)) → AscendsBetween 0 4294967296 (cond b ids.items (ids_in (before p)))
    order-at true p e a = put.order 0 4294967296 (omega arith) below (a owner)
    order-at false p e a = a p

    -- an identifier more under an owner, in a new entry or an old one
    pub indexed : AddsUnder (λ p. ids_in (before p)) (λ p. ids_in (after p))
    indexed = record {
      more = λ p t a. subst (IsAmong t) (sym (now-is p (nat_eq owner p) refl)) (more-at (nat_eq owner p) p t refl a);
      order = λ a p. subst (AscendsBetween 0 4294967296) (sym (now-is p (nat_eq owner p) refl)) (order-at (nat_eq owner p) p refl a);
    }

    pub indexed-here : IsAmong id (ids_in (after owner))
    indexed-here = subst (IsAmong id) (sym (now-is owner true (own-number owner))) put.here

  same-at : (b : Bool) (p : ℕ) → nat_eq owner p ≡ b → ids.items ≡ ids_in (before owner) → cond b ids.items (ids_in (before p)) ≡ ids_in (before p)
  same-at true p e s = s ∙ ap (λ q. ids_in (before q)) (same-number owner p e)
  same-at false p e s = refl

  -- an entry written back unchanged
  pub indexed-same : ids.items ≡ ids_in (before owner) → AddsUnder (λ p. ids_in (before p)) (λ p. ids_in (after p))
  indexed-same s =
      let same : (p : ℕ) → ids_in (after p) ≡ ids_in (before p) = λ p. now-is p (nat_eq owner p) refl ∙ same-at (nat_eq owner p) p refl s in
      record { more = λ p t a. subst (IsAmong t) (sym (same p)) a; order = λ a p. subst (AscendsBetween 0 4294967296) (sym (same p)) (a p) }

forgotten-at : (b : Bool) (entry : Option (Vec ℕ Global)) → ids_in (cond b None entry) ≡ cond b [] (ids_in entry)
forgotten-at true entry = refl
forgotten-at false entry = refl

-- an entry is removed
pub forgotten : (before after : ℕ → Option (Vec ℕ Global)) (owner : ℕ) → ((q : ℕ) → after q ≡ cond (nat_eq owner q) None (before q)) → (p : ℕ) → ids_in (after p) ≡ cond (nat_eq owner p) [] (ids_in (before p))
forgotten before after owner updated p = ap ids_in (updated p) ∙ forgotten-at (nat_eq owner p) (before p)

module _ (owner : ℕ) (old new : Indices) (forgets : RemovesOwner owner old new) where
  order-left : (b : Bool) (ids : List ℕ) → AscendsBetween 0 4294967296 ids → AscendsBetween 0 4294967296 (cond b [] ids)
  order-left true ids order = omega arith
  order-left false ids order = order

  pub forgets-order : EachAscends (ids_under old) → EachAscends (ids_under new)
  forgets-order order p = subst (AscendsBetween 0 4294967296) (sym (forgets.gone p)) (order-left (nat_eq owner p) (ids_under old p) (order p))

  among-left : (b : Bool) (t : ℕ) (ids : List ℕ) → b ≡ false → IsAmong t ids → IsAmong t (cond b [] ids)
  among-left true t ids e a = absurd (true≢false e)
  among-left false t ids e a = a

  -- the entries of other owners stay
  pub forgets-others : (p t : ℕ) → nat_eq p owner ≡ false → IsAmong t (ids_under old p) → IsAmong t (ids_under new p)
  forgets-others p t e a = subst (IsAmong t) (sym (forgets.gone p)) (among-left (nat_eq owner p) t (ids_under old p) (other-number p owner e) a)

-- the first table under an owner
pub put-first : (id : ℕ) → InsertsInOrder [] id (id ∷ [])
put-first id = record { here = inl refl; more = λ t a. absurd a; order = λ low high l u b. (l, omega (arith, u)) }

pub adds-same : (indices : Indices) → AddsUnderOwners indices indices
adds-same indices = record { rest = refl; more = λ p t a. a; order = λ a. a }

pub adds-more : (old mid new : Indices) → AddsUnderOwners old mid → AddsUnderOwners mid new → AddsUnderOwners old new
adds-more old mid new first next = record {
  rest = next.rest ∙ ap (λ (i : Indices). record i { owned = new.owned }) first.rest;
  more = λ p t a. next.more p t (first.more p t a);
  order = λ a. next.order (first.order a);
}

-- the result of an insertion, or memory is refused
pub indexed-either : {E : Type 0} (r : Result (Unit {0}) E) (before after : ℕ → Option (Vec ℕ Global)) (owner id : ℕ) (ids : Vec ℕ Global) → ((q : ℕ) → after q ≡ cond (nat_eq owner q) (Some ids) (before q)) → id < 4294967296
    → OnOk r (InsertsInOrder (ids_in (before owner)) id ids.items) → OnErr r (ids.items ≡ ids_in (before owner)) → AddsUnder (λ p. ids_in (before p)) (λ p. ids_in (after p))
indexed-either (Ok done) before after owner id ids updated below put same = indexed before after owner id ids updated put below
indexed-either (Err error) before after owner id ids updated below put same = indexed-same before after owner id ids updated same

pub inherited-more : (old new : Indices) (processes : Processes) (tables : Tables) (ids rest : List ℕ) (id : ℕ) → AddsUnderOwners old new
    → ((table : Table) (heir : Heir) → table_at tables id ≡ Some table → living_heir processes table.metadata ≡ Some heir → IsAmong id (ids_under new heir.pid))
    → ((t : ℕ) (table : Table) (heir : Heir) → IsAmong t ids → table_at tables t ≡ Some table → living_heir processes table.metadata ≡ Some heir → IsAmong t (id ∷ rest) ⊎ IsAmong t (ids_under old heir.pid))
    → (t : ℕ) (table : Table) (heir : Heir) → IsAmong t ids → table_at tables t ≡ Some table → living_heir processes table.metadata ≡ Some heir → IsAmong t rest ⊎ IsAmong t (ids_under new heir.pid)
inherited-more old new processes tables ids rest id adds here each t table heir a at lives = by (each t table heir a at lives)
  where
    by : IsAmong t (id ∷ rest) ⊎ IsAmong t (ids_under old heir.pid) → IsAmong t rest ⊎ IsAmong t (ids_under new heir.pid)
    by (inl (inl same)) = inr (subst (λ i. IsAmong i (ids_under new heir.pid)) (sym same) (here table heir (ap (table_at tables) (sym same) ∙ at) lives))
    by (inl (inr more)) = inl more
    by (inr found) = inr (adds.more heir.pid t found)
