-- Steps that each part makes: what they do to one state they do to the others, and so to the whole.
use Rattle.std.proofs.Common.{◌≡◌, ◌≢◌, ℕ, zero, suc, ◌≤◌, Bool, true, false, List, [], ◌∷◌, ◌++◌, Option, None, Some, Result, Ok, Err, refl, sym, ap, subst, ◌∙◌, arith}
use Rattle.std.specs.Prelude.{slice_get, filter_map}
use Rattle.std.specs.Bool.{MatchBool}
use Rattle.std.specs.List.{AllByRecursion, AllZip, flat_map, sum_by, cons_option}
use Rattle.std.specs.Prelude.{MatchOption}
use Rattle.std.proofs.lemmas.List.Sums.{sum_by-cons}
use Rattle.ets_term.specs.declared.term.Term.{Term}
use Rattle.bucket_table.specs.Slots.{Slot}
use Rattle.table_ops.specs.Outcomes.{Outcome, gives, refuse, refuse_none}
use Rattle.ownership.specs.declared.fault.WorldFault.{WorldFault}
use Rattle.ownership.specs.declared.fault.WorldFault.TheVariants as fault
use Rattle.ownership.specs.World.{World}
use Rattle.node_core.specs.declared.step.Reply.{Reply}
use Rattle.node_core.specs.declared.step.Reply.TheVariants.{Badarg, SystemLimit, NoProcess}
use Rattle.node_core.specs.State.{State}
use Rattle.node_core.specs.Access.{WorldResultToReply, changes_world}
use Rattle.node_core.specs.laws.Kept.{slots_in}
use Rattle.node_parts.specs.Parts.{replicated, limit_in, limit_of_new, HasContents, ArePartsOf, ShareAllRoom}

-- ---- what a step does to the slots and the limit of a table
pub data LimitFate : Type 0 where
  stays : LimitFate
  made : LimitFate
  gone : LimitFate

abbrev pub limit_after : LimitFate → ℕ → ℕ → ℕ
limit_after stays old new = old
limit_after made old new = new
limit_after gone old new = 0

pub record Fate : Type 0 where
  pub slot : Slot → Option Slot
  pub own_key : (s t : Slot) → slot s ≡ Some t → t.0 ≡ s.0
  pub limit : LimitFate

-- nothing changes
pub stay : Fate
stay = record { slot = λ s. Some s; own_key = λ s t e. let is : s ≡ t = cc in ap (λ (x : Slot). x.0) (sym is); limit = stays }

pub stay-slots : (slots : List Slot) → slots ≡ filter_map stay.slot slots
unfolding stay
stay-slots [] = refl
stay-slots (s ∷ ss) = ap (λ l. s ∷ l) (stay-slots ss)

pub stay-limit : (old new : ℕ) → old ≡ limit_after stay.limit old new
unfolding stay
stay-limit old new = refl

-- a part is then this new state, as the whole is then the next
pub record Moves (fate : ℕ → Fate) (next part new : State) : Type 0 where
  pub same : replicated new ≡ replicated next
  pub slots : (t : ℕ) → slots_in t new ≡ filter_map (fate t).slot (slots_in t part)
  pub limits : (t : ℕ) → limit_in t new ≡ limit_after (fate t).limit (limit_in t part) (limit_of_new part)
  pub new_limit : limit_of_new new ≡ limit_of_new part
  pub contents : HasContents part → HasContents new

-- an outcome of the whole, which follows from that of each part
pub record ForAll (outcome : State → Outcome Reply State) (whole : State) : Type 0 where
  pub reply : Reply
  pub next : State
  pub fate : ℕ → Fate
  pub each : (part : State) → replicated part ≡ replicated whole → (r : Reply) (new : State) → outcome part r new
      → (r ≡ reply) × outcome whole reply next × Moves fate next part new

-- ---- forms of outcomes
pub moves-same : (whole part : State) → replicated part ≡ replicated whole → Moves (λ t. stay) whole part part
moves-same whole part same = record {
  same = same;
  slots = λ t. stay-slots (slots_in t part);
  limits = λ t. stay-limit (limit_in t part) (limit_of_new part);
  new_limit = refl;
  contents = λ c. c;
}

-- the reply of a refusal
abbrev pub reply_of : WorldFault → Reply
reply_of fault.Badarg = Badarg
reply_of fault.SystemLimit = SystemLimit
reply_of fault.NoProcess = NoProcess
reply_of fault.Memory = Badarg

module _ (whole : State) where
  -- the answer and the state after it are functions of the state before
  pub gives-all : (answer : State → Reply) (after : State → State) (fate : ℕ → Fate)
      → ((part : State) → replicated part ≡ replicated whole → (answer part ≡ answer whole) × Moves fate (after whole) part (after part))
      → ForAll (λ s. gives (answer s) (after s)) whole
  gives-all answer after fate moves = record {
    reply = answer whole;
    next = after whole;
    fate = fate;
    each = λ part same r new h.
        let both = moves part same in
        (h.0 ∙ both.0, (refl, refl), subst (λ (s : State). Moves fate (after whole) part s) (sym h.1) both.1);
  }

  pub tells-all : (answer : State → Reply) → ((part : State) → replicated part ≡ replicated whole → answer part ≡ answer whole) → ForAll (λ s. gives (answer s) s) whole
  tells-all answer alike = gives-all answer (λ s. s) (λ t. stay) (λ part same. (alike part same, moves-same whole part same))

  pub refuse-all : (test : State → Bool) (refusal : Reply) (outcome : State → Outcome Reply State) → ((part : State) → replicated part ≡ replicated whole → test part ≡ test whole)
      → (test whole ≡ false → ForAll outcome whole) → ForAll (λ s. refuse s (test s) refusal (outcome s)) whole
  refuse-all test refusal outcome alike all = by (test whole) refl
    where
      by : (b : Bool) → test whole ≡ b → ForAll (λ s. refuse s (test s) refusal (outcome s)) whole
      by true e = record {
        reply = refusal;
        next = whole;
        fate = λ t. stay;
        each = λ part same r new h.
            let done : gives refusal part r new = subst (λ (b : Bool). MatchBool b (gives refusal part r new) (outcome part r new)) (alike part same ∙ e) h in
            (done.0, rw e (refl, refl), subst (λ (s : State). Moves (λ t. stay) whole part s) (sym done.1) (moves-same whole part same));
      }
      by false e =
          let w = all e in
          record {
            reply = w.reply;
            next = w.next;
            fate = w.fate;
            each = λ part same r new h.
                let done : outcome part r new = subst (λ (b : Bool). MatchBool b (gives refusal part r new) (outcome part r new)) (alike part same ∙ e) h in
                let own = w.each part same r new done in
                (own.0, rw e own.1, own.2);
          }

  pub refuse_none-all : {Y : Type 0} (o : State → Option Y) (refusal : Reply) (outcome : Y → State → Outcome Reply State) → ((part : State) → replicated part ≡ replicated whole → o part ≡ o whole)
      → ((y : Y) → o whole ≡ Some y → ForAll (outcome y) whole) → ForAll (λ s. refuse_none s (o s) refusal (λ y. outcome y s)) whole
  refuse_none-all {Y = Y} o refusal outcome alike all = by (o whole) refl
    where
      by : (u : Option Y) → o whole ≡ u → ForAll (λ s. refuse_none s (o s) refusal (λ y. outcome y s)) whole
      by None e = record {
        reply = refusal;
        next = whole;
        fate = λ t. stay;
        each = λ part same r new h.
            let done : gives refusal part r new = subst (λ (u : Option Y). MatchOption u (gives refusal part r new) (λ y. outcome y part r new)) (alike part same ∙ e) h in
            (done.0, rw e (refl, refl), subst (λ (s : State). Moves (λ t. stay) whole part s) (sym done.1) (moves-same whole part same));
      }
      by (Some y) e =
          let w = all y e in
          record {
            reply = w.reply;
            next = w.next;
            fate = w.fate;
            each = λ part same r new h.
                let done : outcome y part r new = subst (λ (u : Option Y). MatchOption u (gives refusal part r new) (λ y. outcome y part r new)) (alike part same ∙ e) h in
                let own = w.each part same r new done in
                (own.0, rw e own.1, own.2);
          }

  pub either-all : (test : Bool) (one other : State → Outcome Reply State) → ForAll one whole → ForAll other whole → ForAll (λ s r new. MatchBool test (one s r new) (other s r new)) whole
  either-all true one other a b = a
  either-all false one other a b = b

  -- ---- changes of the world
  -- outcomes that are the same for each state
  pub through : (one other : State → Outcome Reply State) → ((s : State) (r : Reply) (new : State) → one s r new → other s r new) → ((s : State) (r : Reply) (new : State) → other s r new → one s r new)
      → ForAll other whole → ForAll one whole
  through one other to from w = record {
    reply = w.reply;
    next = w.next;
    fate = w.fate;
    each = λ part same r new h.
        let own = w.each part same r new (to part r new h) in
        (own.0, from whole w.reply w.next own.1, own.2);
  }

  module _ {X : Type 0} (answer : X → Reply) where
    abbrev World' : (State → Outcome (Result X WorldFault) World) → State → Outcome Reply State
    World' outcome s = changes_world s answer (outcome s)

    same-world : (s new : State) → new ≡ record s { world = new.world } → new.world ≡ s.world → new ≡ s
    same-world s new m e = m ∙ ap (λ (w : World). record s { world = w }) e

    fault-reply : (f : WorldFault) (reply : Reply) → WorldResultToReply answer (Err f) reply → reply ≡ reply_of f
    fault-reply fault.Badarg reply e = e
    fault-reply fault.SystemLimit reply e = e
    fault-reply fault.NoProcess reply e = e
    fault-reply fault.Memory reply e = absurd e

    module _ (f : WorldFault) (known : WorldResultToReply answer (Err f) (reply_of f)) where
      to-refused : (s : State) (b : Bool) (outcome : Outcome (Result X WorldFault) World) (r : Reply) (new : State)
          → changes_world s answer (refuse s.world b (Err f) outcome) r new → refuse s b (reply_of f) (changes_world s answer outcome) r new
      to-refused s true outcome r new h =
          (fault-reply f r (subst (λ (x : Result X WorldFault). WorldResultToReply answer x r) h.1.0 h.2), same-world s new h.3 h.1.1)
      to-refused s false outcome r new h = h

      from-refused : (s : State) (b : Bool) (outcome : Outcome (Result X WorldFault) World) (r : Reply) (new : State)
          → refuse s b (reply_of f) (changes_world s answer outcome) r new → changes_world s answer (refuse s.world b (Err f) outcome) r new
      from-refused s true outcome r new h =
          let world : new.world ≡ s.world = ap (λ (n : State). n.world) h.1 in
          (Err f, (refl, world), subst (λ (q : Reply). WorldResultToReply answer (Err f) q) (sym h.0) known, h.1 ∙ ap (λ (w : World). record s { world = w }) (sym world))
      from-refused s false outcome r new h = h

      pub world-refuse : (test : State → Bool) (outcome : State → Outcome (Result X WorldFault) World) → ((part : State) → replicated part ≡ replicated whole → test part ≡ test whole)
          → (test whole ≡ false → ForAll (World' outcome) whole) → ForAll (World' (λ s. refuse s.world (test s) (Err f) (outcome s))) whole
      world-refuse test outcome alike all =
          through (World' (λ s. refuse s.world (test s) (Err f) (outcome s))) (λ s. refuse s (test s) (reply_of f) (World' outcome s))
          (λ s. to-refused s (test s) (outcome s)) (λ s. from-refused s (test s) (outcome s)) (refuse-all test (reply_of f) (World' outcome) alike all)

    to-where : {Y : Type 0} (s : State) (o : Option Y) (outcome : Y → Outcome (Result X WorldFault) World) (r : Reply) (new : State)
        → changes_world s answer (refuse_none s.world o (Err fault.Badarg) outcome) r new → refuse_none s o Badarg (λ y. changes_world s answer (outcome y)) r new
    to-where s None outcome r new h =
        (fault-reply fault.Badarg r (subst (λ (x : Result X WorldFault). WorldResultToReply answer x r) h.1.0 h.2), same-world s new h.3 h.1.1)
    to-where s (Some y) outcome r new h = h

    from-where : {Y : Type 0} (s : State) (o : Option Y) (outcome : Y → Outcome (Result X WorldFault) World) (r : Reply) (new : State)
        → refuse_none s o Badarg (λ y. changes_world s answer (outcome y)) r new → changes_world s answer (refuse_none s.world o (Err fault.Badarg) outcome) r new
    from-where s None outcome r new h =
        let world : new.world ≡ s.world = ap (λ (n : State). n.world) h.1 in
        (Err fault.Badarg, (refl, world), h.0, h.1 ∙ ap (λ (w : World). record s { world = w }) (sym world))
    from-where s (Some y) outcome r new h = h

    pub world-where : {Y : Type 0} (o : State → Option Y) (outcome : Y → State → Outcome (Result X WorldFault) World) → ((part : State) → replicated part ≡ replicated whole → o part ≡ o whole)
        → ((y : Y) → o whole ≡ Some y → ForAll (World' (outcome y)) whole) → ForAll (World' (λ s. refuse_none s.world (o s) (Err fault.Badarg) (λ y. outcome y s))) whole
    world-where o outcome alike all =
        through (World' (λ s. refuse_none s.world (o s) (Err fault.Badarg) (λ y. outcome y s))) (λ s. refuse_none s (o s) Badarg (λ y. World' (outcome y) s))
        (λ s. to-where s (o s) (λ y. outcome y s)) (λ s. from-where s (o s) (λ y. outcome y s)) (refuse_none-all o Badarg (λ y. World' (outcome y)) alike all)

    pub world-gives : (x : State → X) (after : State → World) (fate : ℕ → Fate)
        → ((part : State) → replicated part ≡ replicated whole → (answer (x part) ≡ answer (x whole)) × Moves fate (record whole { world = after whole }) part (record part { world = after part }))
        → ForAll (World' (λ s. gives (Ok (x s)) (after s))) whole
    world-gives x after fate moves =
        through (World' (λ s. gives (Ok (x s)) (after s))) (λ s. gives (answer (x s)) (record s { world = after s }))
        (λ s r new h. (subst (λ (y : Result X WorldFault). WorldResultToReply answer y r) h.1.0 h.2, h.3 ∙ ap (λ (w : World). record s { world = w }) h.1.1))
        (λ s r new h. let world : new.world ≡ after s = ap (λ (n : State). n.world) h.1 in (Ok (x s), (refl, world), h.0, h.1 ∙ ap (λ (w : World). record s { world = w }) (sym world)))
        (gives-all (λ s. answer (x s)) (λ s. record s { world = after s }) fate moves)

-- ---- all parts
module _ (fate : ℕ → Fate) (next : State) where
  kept-at : (P : Term → Type 0) (f : Fate) (s : Slot) (l : List Slot) (o : Option Slot) → f.slot s ≡ o → P s.0 → AllByRecursion (λ slot. P slot.0) l → AllByRecursion (λ slot. P slot.0) (cons_option o l)
  kept-at P f s l None e own h = h
  kept-at P f s l (Some t) e own h = (subst P (sym (f.own_key s t e)) own, h)

  kept-keys : (P : Term → Type 0) (f : Fate) (slots : List Slot) → AllByRecursion (λ slot. P slot.0) slots → AllByRecursion (λ slot. P slot.0) (filter_map f.slot slots)
  kept-keys P f [] h = tt
  kept-keys P f (s ∷ ss) h = kept-at P f s (filter_map f.slot ss) (f.slot s) refl h.0 (kept-keys P f ss h.1)

  map-at : (o : Option Slot) (l xs ys : List Slot) → l ≡ xs ++ ys → cons_option o l ≡ cons_option o xs ++ ys
  map-at None l xs ys e = e
  map-at (Some t) l xs ys e = ap (λ l. t ∷ l) e

  map-parts : (f : Slot → Option Slot) (xs ys : List Slot) → filter_map f (xs ++ ys) ≡ filter_map f xs ++ filter_map f ys
  map-parts f [] ys = refl
  map-parts f (s ∷ xs) ys = map-at (f s) (filter_map f (xs ++ ys)) (filter_map f xs) (filter_map f ys) (map-parts f xs ys)

  flat-moved : (t : ℕ) (parts news : List State) → AllZip (λ part new. Moves fate next part new) parts news → flat_map (slots_in t) news ≡ filter_map (fate t).slot (flat_map (slots_in t) parts)
  flat-moved t [] [] h = refl
  flat-moved t [] (new ∷ news) h = absurd h
  flat-moved t (part ∷ parts) [] h = absurd h
  flat-moved t (part ∷ parts) (new ∷ news) h =
      ap (λ l. l ++ flat_map (slots_in t) news) (h.0.slots t)
      ∙ (ap (λ l. filter_map (fate t).slot (slots_in t part) ++ l) (flat-moved t parts news h.1)
      ∙ sym (map-parts (fate t).slot (slots_in t part) (flat_map (slots_in t) parts)))

  sum-moved : (one other : State → ℕ) → ((part new : State) → Moves fate next part new → one new ≡ other part) → (parts news : List State) → AllZip (λ part new. Moves fate next part new) parts news
      → sum_by one news ≡ sum_by other parts
  sum-moved one other same [] [] h = refl
  sum-moved one other same [] (new ∷ news) h = absurd h
  sum-moved one other same (part ∷ parts) [] h = absurd h
  sum-moved one other same (part ∷ parts) (new ∷ news) h =
      let own = same part new h.0 in
      let rest = sum-moved one other same parts news h.1 in
      omega (arith, sum_by-cons one new news, sum_by-cons other part parts, own, rest)

  sum-none : (xs : List State) → sum_by (λ (s : State). 0) xs ≡ 0
  sum-none [] = refl
  sum-none (x ∷ xs) = omega (arith, sum_by-cons (λ (s : State). 0) x xs, sum-none xs)

  -- which part a new state comes of
  pub record ComesOf (parts : List State) (k : ℕ) (new : State) : Type 0 where
    pub part : State
    pub there : slice_get parts k ≡ Some part
    pub moves : Moves fate next part new

  comes-of : (parts news : List State) → AllZip (λ part new. Moves fate next part new) parts news → (k : ℕ) (new : State) → slice_get news k ≡ Some new → ComesOf parts k new
  comes-of [] [] h k new e = cc
  comes-of [] (x ∷ news) h k new e = absurd h
  comes-of (part ∷ parts) [] h k new e = absurd h
  comes-of (part ∷ parts) (x ∷ news) h zero new e = let is : x ≡ new = cc in record { part = part; there = refl; moves = subst (Moves fate next part) is h.0 }
  comes-of (part ∷ parts) (x ∷ news) h (suc k) new e = let rest = comes-of parts news h.1 k new e in record { part = rest.part; there = rest.there; moves = rest.moves }

  module _ (part_of : ℕ → Term → ℕ) (parts news : List State) (whole : State) (are : ArePartsOf part_of parts whole) (all : AllZip (λ part new. Moves fate next part new) parts news) (own : Moves fate next whole next) where
    limits-at : (t : ℕ) (l : LimitFate) → (fate t).limit ≡ l → sum_by (limit_in t) news ≤ limit_in t next
    limits-at t l e =
        let whole_limit : limit_in t next ≡ limit_after l (limit_in t whole) (limit_of_new whole) = own.limits t ∙ ap (λ l. limit_after l (limit_in t whole) (limit_of_new whole)) e in
        let sum = sum-moved (limit_in t) (λ s. limit_after l (limit_in t s) (limit_of_new s)) (λ part new m. m.limits t ∙ ap (λ l. limit_after l (limit_in t part) (limit_of_new part)) e) parts news all in
        by l whole_limit sum
      where
        by : (l : LimitFate) → limit_in t next ≡ limit_after l (limit_in t whole) (limit_of_new whole) → sum_by (limit_in t) news ≡ sum_by (λ s. limit_after l (limit_in t s) (limit_of_new s)) parts
            → sum_by (limit_in t) news ≤ limit_in t next
        by stays w s = let most = are.limits t in omega (arith, w, s, most)
        by made w s = let most = are.new_limits in omega (arith, w, s, most)
        by gone w s = omega (arith, w, s, sum-none parts)

    pub all-shared : ShareAllRoom parts whole → ShareAllRoom news next
    all-shared share = record { tables = λ t. shared-at t (fate t).limit refl; new_tables = sum-moved limit_of_new limit_of_new (λ part new m. m.new_limit) parts news all ∙ (share.new_tables ∙ sym own.new_limit) }
      where
        shared-at : (t : ℕ) (l : LimitFate) → (fate t).limit ≡ l → sum_by (limit_in t) news ≡ limit_in t next
        shared-at t l e =
            let whole_limit : limit_in t next ≡ limit_after l (limit_in t whole) (limit_of_new whole) = own.limits t ∙ ap (λ l. limit_after l (limit_in t whole) (limit_of_new whole)) e in
            let sum = sum-moved (limit_in t) (λ s. limit_after l (limit_in t s) (limit_of_new s)) (λ part new m. m.limits t ∙ ap (λ l. limit_after l (limit_in t part) (limit_of_new part)) e) parts news all in
            by l whole_limit sum
          where
            by : (l : LimitFate) → limit_in t next ≡ limit_after l (limit_in t whole) (limit_of_new whole) → sum_by (limit_in t) news ≡ sum_by (λ s. limit_after l (limit_in t s) (limit_of_new s)) parts
                → sum_by (limit_in t) news ≡ limit_in t next
            by stays w s = s ∙ (share.tables t ∙ sym w)
            by made w s = s ∙ (share.new_tables ∙ sym w)
            by gone w s = s ∙ (sum-none parts ∙ sym w)

    pub all-moved : ArePartsOf part_of news next
    all-moved = record {
      each = λ k new e.
          let from = comes-of parts news all k new e in
          let was = are.each k from.part from.there in
          record {
            same = from.moves.same;
            keys = λ t. subst (AllByRecursion (λ (slot : Slot). part_of t slot.0 ≡ k)) (sym (from.moves.slots t)) (kept-keys (λ key. part_of t key ≡ k) (fate t) (slots_in t from.part) (was.keys t));
            contents = from.moves.contents was.contents;
          };
      slots = λ t. own.slots t ∙ (ap (filter_map (fate t).slot) (are.slots t) ∙ sym (flat-moved t parts news all));
      limits = λ t. limits-at t (fate t).limit refl;
      new_limits =
          let sum = sum-moved limit_of_new limit_of_new (λ part new m. m.new_limit) parts news all in
          let most = are.new_limits in
          let whole_limit = own.new_limit in
          omega (arith, sum, most, whole_limit);
    }

-- each part makes the step, and so does the whole
module _ (outcome : State → Outcome Reply State) (whole : State) (w : ForAll outcome whole) where
  moved : (parts news : List State) (reply : Reply) → ((k : ℕ) (part : State) → slice_get parts k ≡ Some part → replicated part ≡ replicated whole) → AllZip (λ part new. outcome part reply new) parts news
      → AllZip (λ part new. Moves w.fate w.next part new) parts news
  moved [] [] reply same h = tt
  moved [] (new ∷ news) reply same h = absurd h
  moved (part ∷ parts) [] reply same h = absurd h
  moved (part ∷ parts) (new ∷ news) reply same h = ((w.each part (same 0 part refl) reply new h.0).2, moved parts news reply (λ k q e. same (suc k) q e) h.1)

  does : (parts news : List State) (reply : Reply) → parts ≢ [] → ((k : ℕ) (part : State) → slice_get parts k ≡ Some part → replicated part ≡ replicated whole) → AllZip (λ part new. outcome part reply new) parts news
      → (reply ≡ w.reply) × outcome whole w.reply w.next
  does [] news reply some same h = absurd (some refl)
  does (part ∷ parts) [] reply some same h = absurd h
  does (part ∷ parts) (new ∷ news) reply some same h = let own = w.each part (same 0 part refl) reply new h.0 in (own.0, own.1)

  pub all-follow : (part_of : ℕ → Term → ℕ) (parts news : List State) (reply : Reply) → ArePartsOf part_of parts whole → parts ≢ [] → AllZip (λ part new. outcome part reply new) parts news
      → (next : State) × outcome whole reply next × ArePartsOf part_of news next × (ShareAllRoom parts whole → ShareAllRoom news next)
  all-follow part_of parts news reply are some h =
      let same = λ (k : ℕ) (part : State) (e : slice_get parts k ≡ Some part). (are.each k part e).same in
      let done = does parts news reply some same h in
      let own = (w.each whole refl w.reply w.next done.1).2 in
      let each = moved parts news reply same h in
      (w.next, subst (λ (r : Reply). outcome whole r w.next) (sym done.0) done.1, all-moved w.fate w.next part_of parts news whole are each own, all-shared w.fate w.next part_of parts news whole are each own)

  -- two parts give the same reply
  pub replies-same : (part other : State) (r q : Reply) (new next : State) → replicated part ≡ replicated whole → replicated other ≡ replicated whole → outcome part r new → outcome other q next → r ≡ q
  replies-same part other r q new next one two h j = (w.each part one r new h).0 ∙ sym (w.each other two q next j).0
