-- Room of a table moves from one part to another, by an event.
use Rattle.std.proofs.Common.{◌≡◌, ◌≢◌, ◌⊎◌, inl, inr, ℕ, zero, suc, ◌+◌, ◌-◌, ◌<◌, ◌≤◌, ◌==◌, ◌||◌, Bool, true, false, cond, List, [], ◌∷◌, length, MatchBool, Option, None, Some, option_map, refl, sym, ap, subst, ◌∙◌, arith}
use Rattle.std.specs.List.{AllByRecursion, AllZip, enumerate_from, sum_by}
use Rattle.std.specs.Option.{option_map_or}
use Rattle.std.proofs.lemmas.Bool.Decides.{nat_tests}
use Rattle.std.proofs.lemmas.List.Sums.{sum_by-cons}
use Rattle.ets_term.specs.declared.term.Term.{Term}
use Rattle.bucket_table.specs.Slots.{object_count}
use Rattle.ownership.specs.World.{Table, Tables, table_at, with_changed}
use Rattle.node_core.specs.State.{State}
use Rattle.node_core.specs.laws.Kept.{slots_in}
use Rattle.node_parts.specs.Events.{moved, is_of, Does}
use Rattle.node_parts.specs.Parts.{replicated_table, limit_in, limit_of_new, ArePartsOf, ShareAllRoom}
use Rattle.node_parts.specs.Room.{table_with_limit, with_limit, with_limits}
use Rattle.node_parts.proofs.Lists.{same-or-not, all-at}
use Rattle.node_parts.proofs.Places.{GoesByOne}
use Rattle.node_parts.proofs.Room.{own-at, limit-other, Fits, sum-same, room-moved}
use Rattle.node_parts.proofs.Whole.{counted, table-same}

-- the limit that a table has already changes nothing
limit-kept : (ts : Tables) (t : ℕ) → with_changed (table_with_limit (option_map_or (λ (table : Table). table.state.content.limit) (table_at ts t) 0)) ts t ≡ ts
limit-kept [] t = refl
limit-kept (None ∷ ts) zero = refl
limit-kept (Some table ∷ ts) zero = refl
limit-kept (x ∷ ts) (suc t) = ap (λ l. x ∷ l) (limit-kept ts t)

same-limit : (t : ℕ) (s : State) → with_limit t (limit_in t s) s ≡ s
same-limit t s = ap (λ (ts : Tables). record s { world = record s.world { tables = ts } }) (limit-kept s.world.tables t)

limit-there : (t n : ℕ) (s : State) (table : Table) → table_at s.world.tables t ≡ Some table → limit_in t (with_limit t n s) ≡ n
limit-there t n s table at =
    ap (λ o. option_map_or (λ (own : Table). own.state.content.limit) o 0) (own-at t n s.world.tables t)
    ∙ ap (λ o. option_map_or (λ (own : Table). own.state.content.limit) (option_map (table_with_limit n) o) 0) at

is-same : (i k : ℕ) → (i == k) ≡ true → i ≡ k
is-same i k e = grind (arith, nat_tests, e)

pub is-itself : (i k : ℕ) (b : Bool) → (i == k) ≡ b → i ≡ k → b ≡ true
is-itself i k true e f = refl
is-itself i k false e f = grind (arith, nat_tests, e, f)

not-same : (i k : ℕ) → (i == k) ≡ false → i ≡ k → ⊥
not-same i k e f = grind (arith, nat_tests, e, f)

module _ (part_of : ℕ → Term → ℕ) (t from to n : ℕ) (apart : from ≢ to) where
  abbrev MovesRoom : ℕ × State → State → Type 0
  MovesRoom = GoesByOne is_of (Does part_of) (moved t from to n)

  -- the limit of one part after that
  record OneRoom (gives takes : Bool) (part new : State) : Type 0 where
    room : ℕ
    fits : Fits t room part
    is : new ≡ with_limit t room part
    sum : room + cond gives n 0 ≡ limit_in t part + cond takes n 0

  one-room : (k : ℕ) (part new : State) → object_count (slots_in t part) ≤ limit_in t part → (gives takes : Bool) → (from == k) ≡ gives → (to == k) ≡ takes
      → MatchBool (gives || takes) (MatchBool gives
      ((object_count (slots_in t part) + n ≤ limit_in t part) × (new ≡ with_limit t (limit_in t part - n) part))
      (new ≡ with_limit t (limit_in t part + n) part)) (new ≡ part)
      → OneRoom gives takes part new
  one-room k part new within true true g e h = absurd (apart (is-same from k g ∙ sym (is-same to k e)))
  one-room k part new within true false g e h = record { room = limit_in t part - n; fits = let most = h.0 in omega (arith, most); is = h.1; sum = let most = h.0 in omega (arith, most) }
  one-room k part new within false true g e h = record { room = limit_in t part + n; fits = omega (arith, within); is = h; sum = omega arith }
  one-room k part new within false false g e h = record { room = limit_in t part; fits = within; is = h ∙ sym (same-limit t part); sum = refl }

  -- what moves to or from the parts of a list that begins with part k
  abbrev share_of : ℕ → ℕ → List State → ℕ
  share_of i k [] = 0
  share_of i k (x ∷ xs) = cond (i == k) n 0 + share_of i (k + 1) xs

  record Rooms (k : ℕ) (olds news : List State) : Type 0 where
    rooms : List ℕ
    fit : AllZip (Fits t) rooms olds
    is : news ≡ with_limits t rooms olds
    sum : sum_by (λ m. m) rooms + share_of from k olds ≡ sum_by (limit_in t) olds + share_of to k olds

  rooms-of : (k : ℕ) (olds news : List State) → AllByRecursion (λ s. object_count (slots_in t s) ≤ limit_in t s) olds → AllZip MovesRoom (enumerate_from k olds) news → Rooms k olds news
  rooms-of k [] [] w h = record { rooms = []; fit = tt; is = refl; sum = refl }
  rooms-of k [] (new ∷ news) w h = absurd h
  rooms-of k (old ∷ olds) [] w h = absurd h
  rooms-of k (old ∷ olds) (new ∷ news) w h =
      let own = one-room k old new w.0 (from == k) (to == k) refl refl h.0 in
      let others = rooms-of (k + 1) olds news w.1 h.1 in
      let one = own.sum in
      let more = others.sum in
      record {
        rooms = own.room ∷ others.rooms;
        fit = (own.fits, others.fit);
        is = λ i. own.is i ∷ others.is i;
        sum = omega (arith, sum_by-cons (λ (m : ℕ). m) own.room others.rooms, sum_by-cons (limit_in t) old olds, one, more);
      }

  share-none : (i k : ℕ) (xs : List State) → i < k → share_of i k xs ≡ 0
  share-none i k [] less = refl
  share-none i k (x ∷ xs) less =
      let rest = share-none i (k + 1) xs (omega (arith, less)) in
      by (i == k) refl rest
    where
      by : (b : Bool) → (i == k) ≡ b → share_of i (k + 1) xs ≡ 0 → cond b n 0 + share_of i (k + 1) xs ≡ 0
      by true e rest = let is = is-same i k e in absurd (omega (arith, is, less))
      by false e rest = omega (arith, rest)

  share-here : (i k : ℕ) (xs : List State) → k ≤ i → i < k + length xs → share_of i k xs ≡ n
  share-here i k [] least most = absurd (omega (arith, least, most))
  share-here i k (x ∷ xs) least most = by (i == k) refl (λ more. share-here i (k + 1) xs more (omega (arith, most)))
    where
      by : (b : Bool) → (i == k) ≡ b → (k + 1 ≤ i → share_of i (k + 1) xs ≡ n) → cond b n 0 + share_of i (k + 1) xs ≡ n
      by true e rest = let is = is-same i k e in let none = share-none i (k + 1) xs (omega (arith, is)) in omega (arith, none)
      by false e rest = let own = rest (more (same-or-not i k)) in omega (arith, own)
        where
          more : (i ≡ k) ⊎ (i ≡ k → ⊥) → k + 1 ≤ i
          more (inl is) = absurd (not-same i k e is)
          more (inr apart) = omega (arith, least, apart)

  module _ (parts news : List State) (whole : State) (are : ArePartsOf part_of parts whole) (share : ShareAllRoom parts whole) (gives : from < length parts) (takes : to < length parts) (h : AllZip MovesRoom (enumerate_from 0 parts) news) where
    moves : Rooms 0 parts news
    moves = rooms-of 0 parts news (all-at (λ s. object_count (slots_in t s) ≤ limit_in t s) parts (λ k part e. counted part t (are.each k part e).contents)) h

    sums : sum_by (λ m. m) moves.rooms ≡ sum_by (limit_in t) parts
    sums =
        let all = moves.sum in
        let one = share-here from 0 parts (omega arith) (omega (arith, gives)) in
        let other = share-here to 0 parts (omega arith) (omega (arith, takes)) in
        omega (arith, all, one, other)

    pub moved-parts : ArePartsOf part_of news whole
    moved-parts =
        let limits = are.limits t in
        subst (λ (l : List State). ArePartsOf part_of l whole) (sym moves.is) (room-moved part_of parts whole t moves.rooms are moves.fit (let all = sums in omega (arith, all, limits)))

    -- the limits are the rooms, if the parts have the table
    has-table : (part : State) (table : Table) (o : Option Table) → table_at part.world.tables t ≡ o → option_map replicated_table o ≡ Some (replicated_table table) → (own : Table) × (table_at part.world.tables t ≡ Some own)
    has-table part table None at e = cc
    has-table part table (Some own) at e = (own, at)

    limits-are : (rooms : List ℕ) (olds : List State) → AllZip (Fits t) rooms olds → AllByRecursion (λ part. (own : Table) × (table_at part.world.tables t ≡ Some own)) olds → sum_by (limit_in t) (with_limits t rooms olds) ≡ sum_by (λ m. m) rooms
    limits-are [] [] fit all = refl
    limits-are [] (part ∷ parts) fit all = absurd fit
    limits-are (m ∷ rooms) [] fit all = absurd fit
    limits-are (m ∷ rooms) (part ∷ parts) fit all =
        let own = limit-there t m part all.0.0 all.0.1 in
        let rest = limits-are rooms parts fit.1 all.1 in
        omega (arith, sum_by-cons (limit_in t) (with_limit t m part) (with_limits t rooms parts), sum_by-cons (λ (m : ℕ). m) m rooms, own, rest)

    own-table : (o : Option Table) → table_at whole.world.tables t ≡ o → sum_by (limit_in t) news ≡ limit_in t whole
    own-table None at =
        let none : limit_in t whole ≡ 0 = ap (λ o. option_map_or (λ (own : Table). own.state.content.limit) o 0) at in
        let most = moved-parts.limits t in
        omega (arith, none, most)
    own-table (Some table) at =
        let all = all-at (λ (part : State). (own : Table) × (table_at part.world.tables t ≡ Some own)) parts (λ k part e.
        has-table part table (table_at part.world.tables t) refl (table-same part whole (are.each k part e).same t ∙ ap (option_map replicated_table) at)) in
        ap (sum_by (limit_in t)) moves.is ∙ (limits-are moves.rooms parts moves.fit all ∙ (sums ∙ share.tables t))

    tables-shared : (u : ℕ) → (u ≡ t) ⊎ (u ≡ t → ⊥) → sum_by (limit_in u) news ≡ limit_in u whole
    tables-shared u (inl e) = subst (λ (v : ℕ). sum_by (limit_in v) news ≡ limit_in v whole) (sym e) (own-table (table_at whole.world.tables t) refl)
    tables-shared u (inr apart) =
        ap (sum_by (limit_in u)) moves.is
        ∙ (sum-same t (limit_in u) (λ m s. limit-other t m s u apart) moves.rooms parts moves.fit ∙ share.tables u)

    pub moved-shares : ShareAllRoom news whole
    moved-shares = record {
      tables = λ u. tables-shared u (same-or-not u t);
      new_tables = ap (sum_by limit_of_new) moves.is ∙ (sum-same t limit_of_new (λ m s. refl) moves.rooms parts moves.fit ∙ share.new_tables);
    }
