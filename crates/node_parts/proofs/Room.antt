-- Room of a table is moved between parts.
use Rattle.std.proofs.Common.{◌≡◌, ◌⊎◌, inl, inr, ℕ, zero, suc, ◌≤◌, List, [], ◌∷◌, ◌++◌, Option, None, Some, option_map, refl, sym, ap, subst, ◌∙◌, arith}
use Rattle.std.specs.Prelude.{slice_get}
use Rattle.std.specs.List.{AllByRecursion, AllZip, flat_map, sum_by}
use Rattle.std.specs.Option.{option_map_or}
use Rattle.std.proofs.lemmas.List.Sums.{sum_by-cons}
use Rattle.ets_term.specs.declared.term.Term.{Term}
use Rattle.bucket_table.specs.Slots.{Slot, object_count}
use Rattle.table_ops.specs.Invariants.{IsContent}
use Rattle.ownership.specs.World.{Table, Tables, table_at, with_changed}
use Rattle.node_core.specs.State.{State}
use Rattle.node_core.specs.laws.Kept.{slots_in}
use Rattle.node_parts.specs.Laws.{MovedRoomKeepsParts}
use Rattle.node_parts.specs.Parts.{replicated_table, replicated_tables, replicated, limit_in, limit_of_new, HasContents, IsPart}
use Rattle.node_parts.specs.Room.{table_with_limit, with_limit, with_limits}
use Rattle.node_parts.proofs.Lists.{same-or-not}
use Rattle.node_parts.proofs.Written.{set-other}
use Rattle.node_parts.proofs.Whole.{slots-at}

module _ (t n : ℕ) where
  same-tables : (ts : Tables) (t : ℕ) → replicated_tables (with_changed (table_with_limit n) ts t) ≡ replicated_tables ts
  same-tables [] t = refl
  same-tables (None ∷ ts) zero = refl
  same-tables (Some table ∷ ts) zero = refl
  same-tables (x ∷ ts) (suc t) = ap (λ l. option_map replicated_table x ∷ l) (same-tables ts t)

  same : (s : State) → replicated (with_limit t n s) ≡ replicated s
  same s = ap (λ (ts : Tables). record { limits = record s.limits { objects = 0 }; world = record s.world { tables = ts } }) (same-tables s.world.tables t)

  slots-one : (o : Option Table) → option_map_or (λ (table : Table). table.state.content.slots) (option_map (table_with_limit n) o) [] ≡ option_map_or (λ (table : Table). table.state.content.slots) o []
  slots-one None = refl
  slots-one (Some table) = refl

  limit-one : (o : Option Table) → option_map_or (λ (table : Table). table.state.content.limit) (option_map (table_with_limit n) o) 0 ≤ n
  limit-one None = omega arith
  limit-one (Some table) = omega arith

  pub own-at : (ts : Tables) (t : ℕ) → table_at (with_changed (table_with_limit n) ts t) t ≡ option_map (table_with_limit n) (table_at ts t)
  own-at [] t = refl
  own-at (x ∷ ts) zero = refl
  own-at (x ∷ ts) (suc t) = own-at ts t

  module _ (s : State) where
    other-at : (u : ℕ) → (u ≡ t → ⊥) → table_at (with_limit t n s).world.tables u ≡ table_at s.world.tables u
    other-at u apart = set-other s.world.tables t u (option_map (table_with_limit n) (table_at s.world.tables t)) apart

    slots-by : (u : ℕ) → (u ≡ t) ⊎ (u ≡ t → ⊥) → slots_in u (with_limit t n s) ≡ slots_in u s
    slots-by u (inl e) =
        subst (λ (v : ℕ). slots_in v (with_limit t n s) ≡ slots_in v s) (sym e)
        (ap (λ o. option_map_or (λ (own : Table). own.state.content.slots) o []) (own-at s.world.tables t) ∙ slots-one (table_at s.world.tables t))
    slots-by u (inr apart) = ap (λ o. option_map_or (λ (own : Table). own.state.content.slots) o []) (other-at u apart)

    same-slots : (u : ℕ) → slots_in u (with_limit t n s) ≡ slots_in u s
    same-slots u = slots-by u (same-or-not u t)

    limit-own : limit_in t (with_limit t n s) ≤ n
    limit-own = subst (λ (o : Option Table). option_map_or (λ (own : Table). own.state.content.limit) o 0 ≤ n) (sym (own-at s.world.tables t)) (limit-one (table_at s.world.tables t))

    pub limit-other : (u : ℕ) → (u ≡ t → ⊥) → limit_in u (with_limit t n s) ≡ limit_in u s
    limit-other u apart = ap (λ o. option_map_or (λ (own : Table). own.state.content.limit) o 0) (other-at u apart)

    content-at : HasContents s → object_count (slots_in t s) ≤ n → (o : Option Table) → table_at s.world.tables t ≡ o → (table : Table) → option_map (table_with_limit n) o ≡ Some table → IsContent table.state.content
    content-at contents fits None at table e = cc
    content-at contents fits (Some was) at table e =
        let is : table_with_limit n was ≡ table = cc in
        let old = contents t was at in
        let slots = slots-at s t was at in
        let count : object_count was.state.content.slots ≤ n = subst (λ (l : List Slot). object_count l ≤ n) slots fits in
        subst (λ (own : Table). IsContent own.state.content) is (record { distinct = old.distinct; slots = old.slots; within = count })

    contents-by : HasContents s → object_count (slots_in t s) ≤ n → (u : ℕ) (table : Table) → table_at (with_limit t n s).world.tables u ≡ Some table → (u ≡ t) ⊎ (u ≡ t → ⊥) → IsContent table.state.content
    contents-by contents fits u table at (inl e) =
        content-at contents fits (table_at s.world.tables t) refl table (sym (own-at s.world.tables t) ∙ (sym (ap (table_at (with_limit t n s).world.tables) e) ∙ at))
    contents-by contents fits u table at (inr apart) = contents u table (sym (other-at u apart) ∙ at)

-- each part with its new room
abbrev pub Fits : ℕ → ℕ → State → Type 0
Fits t room part = object_count (slots_in t part) ≤ room

module _ (t : ℕ) where
  slots-same : (u : ℕ) (rooms : List ℕ) (parts : List State) → AllZip (Fits t) rooms parts → flat_map (slots_in u) (with_limits t rooms parts) ≡ flat_map (slots_in u) parts
  slots-same u [] [] h = refl
  slots-same u [] (part ∷ parts) h = absurd h
  slots-same u (n ∷ rooms) [] h = absurd h
  slots-same u (n ∷ rooms) (part ∷ parts) h = λ i. same-slots t n part u i ++ slots-same u rooms parts h.1 i

  room-sum : (rooms : List ℕ) (parts : List State) → AllZip (Fits t) rooms parts → sum_by (limit_in t) (with_limits t rooms parts) ≤ sum_by (λ n. n) rooms
  room-sum [] [] h = omega arith
  room-sum [] (part ∷ parts) h = absurd h
  room-sum (n ∷ rooms) [] h = absurd h
  room-sum (n ∷ rooms) (part ∷ parts) h =
      let rest = room-sum rooms parts h.1 in
      let own = limit-own t n part in
      omega (arith, sum_by-cons (limit_in t) (with_limit t n part) (with_limits t rooms parts), sum_by-cons (λ (m : ℕ). m) n rooms, rest, own)

  pub sum-same : (count : State → ℕ) → ((n : ℕ) (s : State) → count (with_limit t n s) ≡ count s) → (rooms : List ℕ) (parts : List State) → AllZip (Fits t) rooms parts → sum_by count (with_limits t rooms parts) ≡ sum_by count parts
  sum-same count e [] [] h = refl
  sum-same count e [] (part ∷ parts) h = absurd h
  sum-same count e (n ∷ rooms) [] h = absurd h
  sum-same count e (n ∷ rooms) (part ∷ parts) h =
      let rest = sum-same count e rooms parts h.1 in
      omega (arith, sum_by-cons count (with_limit t n part) (with_limits t rooms parts), sum_by-cons count part parts, e n part, rest)

  each-part : (part_of : ℕ → Term → ℕ) (whole : State) (rooms : List ℕ) (parts : List State) → AllZip (Fits t) rooms parts → (j k : ℕ) (new : State) → slice_get (with_limits t rooms parts) k ≡ Some new
      → ((part : State) → slice_get parts k ≡ Some part → IsPart part_of whole j part) → IsPart part_of whole j new
  each-part part_of whole [] [] h j k new e was = cc
  each-part part_of whole [] (part ∷ parts) h j k new e was = absurd h
  each-part part_of whole (n ∷ rooms) [] h j k new e was = absurd h
  each-part part_of whole (n ∷ rooms) (part ∷ parts) h j zero new e was =
      let is : with_limit t n part ≡ new = cc in
      let old = was part refl in
      subst (IsPart part_of whole j) is (record {
        same = same t n part ∙ old.same;
        keys = λ u. subst (λ (l : List Slot). AllByRecursion (λ (slot : Slot). part_of u slot.0 ≡ j) l) (sym (same-slots t n part u)) (old.keys u);
        contents = λ u table at. contents-by t n part old.contents h.0 u table at (same-or-not u t);
      })
  each-part part_of whole (n ∷ rooms) (part ∷ parts) h j (suc k) new e was = each-part part_of whole rooms parts h.1 j k new e was

pub room-moved : MovedRoomKeepsParts
room-moved part_of parts whole t rooms are fits few = record {
  each = λ k new e. each-part t part_of whole rooms parts fits k k new e (are.each k);
  slots = λ u. are.slots u ∙ sym (slots-same t u rooms parts fits);
  limits = λ u. limits-by u (same-or-not u t);
  new_limits = let sum = sum-same t limit_of_new (λ n s. refl) rooms parts fits in let most = are.new_limits in omega (arith, sum, most);
}
  where
    limits-by : (u : ℕ) → (u ≡ t) ⊎ (u ≡ t → ⊥) → sum_by (limit_in u) (with_limits t rooms parts) ≤ limit_in u whole
    limits-by u (inl e) =
        subst (λ (v : ℕ). sum_by (limit_in v) (with_limits t rooms parts) ≤ limit_in v whole) (sym e)
        (let sum = room-sum t rooms parts fits in omega (arith, sum, few))
    limits-by u (inr apart) = let sum = sum-same t (limit_in u) (λ n s. limit-other t n s u apart) rooms parts fits in let most = are.limits u in omega (arith, sum, most)
