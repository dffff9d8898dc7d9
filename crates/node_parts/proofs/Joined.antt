-- Reads of all objects: the replies of the parts make that of the whole, and nothing changes.
use Rattle.std.proofs.Common.{◌≡◌, ℕ, ◌+◌, pos, Bool, true, false, cond, List, [], ◌∷◌, ◌++◌, map, Option, None, Some, MatchBool, fold, filter, length, option_map, option_and_then, refl, sym, ap, subst, ◌∙◌, append_assoc, append-nil, length-append, rules, true≢false}
use Rattle.std.specs.Prelude.{filter_map, flat_map}
use Rattle.std.specs.List.{AllByRecursion, AllZip, reduce}
use Rattle.std.specs.Option.{option_map_or}
use Rattle.std.proofs.lemmas.List.Concat.{flat_map-append}
use Rattle.std.proofs.lemmas.List.Elements.{filter-append, filter_map-append}
use Rattle.ets_term.specs.declared.term.Term.{Term, out-Term, the_lemmas}
use Rattle.ets_term.specs.declared.term.Term.TheVariants.{Int}
use Rattle.ets_term.specs.Data.{Data, data_of}
use Rattle.ets_term.specs.Trees.{term_of}
use Rattle.bucket_table.specs.Slots.{Slot, object_count}
use Rattle.match_spec.specs.Specifications.{is_pattern, is_spec}
use Rattle.table_ops.specs.Outcomes.{Outcome, gives, refuse_none}
use Rattle.table_ops.specs.Queries.{bound_in, is_chosen, matches, spec_result}
use Rattle.table_ops.specs.Read.{all_objects}
use Rattle.fixed_walk.specs.TableState.{TableState}
use Rattle.ownership.specs.declared.info.InfoItem.{InfoItem}
use Rattle.ownership.specs.declared.info.InfoItem.TheVariants as item
use Rattle.ownership.specs.Info.{item_of}
use Rattle.ownership.specs.World.{Table, table_at, resolve}
use Rattle.node_core.specs.declared.call_name.CallName.{CallName}
use Rattle.node_core.specs.declared.call_name.CallName.TheVariants as name
use Rattle.node_core.specs.declared.node.access.Access.{Access}
use Rattle.node_core.specs.declared.node.access.Access.TheVariants.{Read}
use Rattle.node_core.specs.declared.step.Reply.{Reply}
use Rattle.node_core.specs.declared.step.Reply.TheVariants.{Badarg}
use Rattle.node_core.specs.State.{State}
use Rattle.node_core.specs.Access.{usable}
use Rattle.node_core.specs.Calls.{call}
use Rattle.node_core.specs.Reads.{reads_only}
use Rattle.node_core.specs.laws.Kept.{slots_in}
use Rattle.node_core.specs.rules.Owning.{value_or_undefined, names_form, info_at}
use Rattle.node_core.specs.rules.Reading.{tab2list_reply}
use Rattle.node_core.specs.rules.Replies.{list_reply}
use Rattle.node_core.specs.rules.Searching.{results_reply, count_reply, match_reply, match_object_reply, select_reply, select_count_reply}
use Rattle.node_parts.specs.ForAll.{is_size}
use Rattle.node_parts.specs.Joined.{looks_at_all, join}
use Rattle.node_parts.specs.Parts.{replicated_table, replicated, ArePartsOf}
use Rattle.node_parts.proofs.Around.{count-parts}
use Rattle.node_parts.proofs.Lists.{all-at}
use Rattle.node_parts.proofs.Whole.{AreFound, FoundInBoth, usable-same, resolve-same, table-same, slots-at}

-- ---- two replies
join-lists : (xs ys : List Term) → list_reply (xs ++ ys) ≡ join (list_reply xs) (list_reply ys)
join-lists xs ys = search (rules, the_lemmas)

join-counts : (m n : ℕ) → count_reply (m + n) ≡ join (count_reply m) (count_reply n)
join-counts m n = search (rules, the_lemmas)

join-undefined : join (value_or_undefined None) (value_or_undefined None) ≡ value_or_undefined None
join-undefined = search (rules, the_lemmas)

-- ---- lists of replies
fold-alike : (r : Reply) → join r r ≡ r → (replies : List Reply) → AllByRecursion (λ q. q ≡ r) replies → fold join r replies ≡ r
fold-alike r same [] h = refl
fold-alike r same (q ∷ replies) h =
    ap (λ x. fold join (join r x) replies) h.0
    ∙ (ap (λ x. fold join x replies) same ∙ fold-alike r same replies h.1)

reduce-alike : (r : Reply) → join r r ≡ r → (replies : List Reply) (reply : Reply) → AllByRecursion (λ q. q ≡ r) replies → reduce join replies ≡ Some reply → reply ≡ r
reduce-alike r same [] reply h made = cc
reduce-alike r same (q ∷ replies) reply h made =
    let is : fold join q replies ≡ reply = cc in
    sym is ∙ (ap (λ x. fold join x replies) h.0 ∙ fold-alike r same replies h.1)

module _ (t : ℕ) (g : List Slot → Reply) (joins : (xs ys : List Slot) → g (xs ++ ys) ≡ join (g xs) (g ys)) where
  fold-slots : (before : List Slot) (parts : List State) (replies : List Reply) → AllZip (λ part q. q ≡ g (slots_in t part)) parts replies
      → fold join (g before) replies ≡ g (before ++ flat_map (slots_in t) parts)
  fold-slots before [] [] h = ap g (sym (append-nil before))
  fold-slots before [] (q ∷ replies) h = absurd h
  fold-slots before (part ∷ parts) [] h = absurd h
  fold-slots before (part ∷ parts) (q ∷ replies) h =
      ap (λ x. fold join (join (g before) x) replies) h.0
      ∙ (ap (λ x. fold join x replies) (sym (joins before (slots_in t part)))
      ∙ (fold-slots (before ++ slots_in t part) parts replies h.1
      ∙ ap g (append_assoc before (slots_in t part) (flat_map (slots_in t) parts))))

  reduce-slots : (parts : List State) (replies : List Reply) (reply : Reply) → AllZip (λ part q. q ≡ g (slots_in t part)) parts replies → reduce join replies ≡ Some reply
      → reply ≡ g (flat_map (slots_in t) parts)
  reduce-slots [] [] reply h made = cc
  reduce-slots [] (q ∷ replies) reply h made = absurd h
  reduce-slots (part ∷ parts) [] reply h made = absurd h
  reduce-slots (part ∷ parts) (q ∷ replies) reply h made =
      let is : fold join q replies ≡ reply = cc in
      sym is ∙ (ap (λ x. fold join x replies) h.0 ∙ fold-slots (slots_in t part) parts replies h.1)

-- ---- outcomes
-- a call looks at the table that a term names, and changes nothing
abbrev pub Tells : Access → ℕ → Term → (TableState → Reply) → State → Outcome Reply State
Tells access p x answer s = refuse_none s (usable access s.world.tables p x) Badarg (λ found. gives (answer found.1.state) s)

module _ {part_of : ℕ → Term → ℕ} {parts : List State} {whole : State} (are : ArePartsOf part_of parts whole) where
  abbrev pub IsSame : State → Type 0
  IsSame part = replicated part ≡ replicated whole

  pub all-same : AllByRecursion IsSame parts
  all-same = all-at IsSame parts (λ k part e. (are.each k part e).same)

  zip-map : (R Q : State → Reply → Type 0) → ((part : State) → IsSame part → (r : Reply) → R part r → Q part r) → (ps : List State) (replies : List Reply)
      → AllByRecursion IsSame ps → AllZip R ps replies → AllZip Q ps replies
  zip-map R Q to [] [] same h = tt
  zip-map R Q to [] (q ∷ replies) same h = absurd h
  zip-map R Q to (part ∷ ps) [] same h = absurd h
  zip-map R Q to (part ∷ ps) (q ∷ replies) same h = (to part same.0 q h.0, zip-map R Q to ps replies same.1 h.1)

  all-replies : (P : Reply → Type 0) (ps : List State) (replies : List Reply) → AllZip (λ part r. P r) ps replies → AllByRecursion P replies
  all-replies P [] [] h = tt
  all-replies P [] (q ∷ replies) h = absurd h
  all-replies P (part ∷ ps) [] h = absurd h
  all-replies P (part ∷ ps) (q ∷ replies) h = (h.0, all-replies P ps replies h.1)

  -- the replies of the parts, put together, are a reply of the whole
  pub record Joins (outcome : State → Outcome Reply State) : Type 0 where
    pub does : (replies : List Reply) (reply : Reply) → AllZip (λ part r. outcome part r part) parts replies → reduce join replies ≡ Some reply → outcome whole reply whole

  pub alike-joins : (outcome : State → Outcome Reply State) (r : Reply) → join r r ≡ r → ((part : State) → IsSame part → (q : Reply) → outcome part q part → q ≡ r) → outcome whole r whole → Joins outcome
  alike-joins outcome r same each done = record {
    does = λ replies reply h made.
        let all = all-replies (λ q. q ≡ r) parts replies (zip-map (λ part q. outcome part q part) (λ part q. q ≡ r) each parts replies all-same h) in
        subst (λ (q : Reply). outcome whole q whole) (sym (reduce-alike r same replies reply all made)) done;
  }

  slots-join : (outcome : State → Outcome Reply State) (t : ℕ) (g : List Slot → Reply) → ((xs ys : List Slot) → g (xs ++ ys) ≡ join (g xs) (g ys))
      → ((part : State) → IsSame part → (q : Reply) → outcome part q part → q ≡ g (slots_in t part)) → outcome whole (g (slots_in t whole)) whole → Joins outcome
  slots-join outcome t g joins each done = record {
    does = λ replies reply h made.
        let all = zip-map (λ part q. outcome part q part) (λ part q. q ≡ g (slots_in t part)) each parts replies all-same h in
        let is = reduce-slots t g joins parts replies reply all made ∙ ap g (sym (are.slots t)) in
        subst (λ (q : Reply). outcome whole q whole) (sym is) done;
  }

  refuse_none-joins : {Y : Type 0} (o : Option Y) (refusal : Reply) (outcome : Y → State → Outcome Reply State) → join refusal refusal ≡ refusal → ((y : Y) → o ≡ Some y → Joins (outcome y))
      → Joins (λ s. refuse_none s o refusal (λ y. outcome y s))
  refuse_none-joins None refusal outcome same joins = alike-joins (λ s. gives refusal s) refusal same (λ part own q h. h.0) (refl, refl)
  refuse_none-joins (Some y) refusal outcome same joins = joins y refl

  -- ---- a table
  abbrev with_slots : TableState → List Slot → TableState
  with_slots f slots = record f { content = record f.content { slots = slots } }

  abbrev with_most : TableState → ℕ → TableState
  with_most f n = record f { content = record f.content { limit = n } }

  -- the state of a table of a part, by that of the whole
  state-is : (mine all : Table) → replicated_table mine ≡ replicated_table all → mine.state ≡ with_most (with_slots all.state mine.state.content.slots) mine.state.content.limit
  state-is mine all same = λ i. record (same i).state { content = record (same i).state.content { limit = mine.state.content.limit; slots = mine.state.content.slots } }

  module _ (answer : TableState → Reply) (any_limit : (f : TableState) (n : ℕ) → answer (with_most f n) ≡ answer f)
      (joins : (f : TableState) (xs ys : List Slot) → answer (with_slots f (xs ++ ys)) ≡ join (answer (with_slots f xs)) (answer (with_slots f ys))) (access : Access) (p : ℕ) (x : Term) where
    abbrev Answers : State → Option (ℕ × Table) → Reply → Type 0
    Answers s o q = refuse_none s o Badarg (λ found. gives (answer found.1.state) s) q s

    none-at : (part : State) (o : Option (ℕ × Table)) → FoundInBoth part whole x o None → (q : Reply) → Answers part o q → q ≡ Badarg
    none-at part None found q h = h.0
    none-at part (Some mine) found q h = absurd found

    some-at : (all : ℕ × Table) (part : State) → IsSame part → (o : Option (ℕ × Table)) → FoundInBoth part whole x o (Some all) → (q : Reply) → Answers part o q → q ≡ answer (with_slots all.1.state (slots_in all.0 part))
    some-at all part own None found q h = absurd found
    some-at all part own (Some mine) found q h =
        let tables : Some (replicated_table mine.1) ≡ Some (replicated_table all.1) =
        ap (option_map replicated_table) (sym found.at) ∙ (table-same part whole own mine.0 ∙ ap (option_map replicated_table) found.there) in
        let same : replicated_table mine.1 ≡ replicated_table all.1 = cc in
        let slots : mine.1.state.content.slots ≡ slots_in all.0 part = sym (slots-at part mine.0 mine.1 found.at) ∙ ap (λ (t : ℕ). slots_in t part) (sym found.number) in
        h.0
        ∙ (ap answer (state-is mine.1 all.1 same)
        ∙ (any_limit (with_slots all.1.state mine.1.state.content.slots) mine.1.state.content.limit
        ∙ ap (λ (l : List Slot). answer (with_slots all.1.state l)) slots))

    pub tells-join : Joins (Tells access p x answer)
    tells-join = by (usable access whole.world.tables p x) refl
      where
        found-at : (u : Option (ℕ × Table)) → usable access whole.world.tables p x ≡ u → (part : State) → IsSame part → FoundInBoth part whole x (usable access part.world.tables p x) u
        found-at u e part own = subst (λ (v : Option (ℕ × Table)). FoundInBoth part whole x (usable access part.world.tables p x) v) e (usable-same part whole own access p x)

        by : (u : Option (ℕ × Table)) → usable access whole.world.tables p x ≡ u → Joins (Tells access p x answer)
        by None e =
            alike-joins (Tells access p x answer) Badarg refl
            (λ part own q h. none-at part (usable access part.world.tables p x) (found-at None e part own) q h) (rw e (refl, refl))
        by (Some all) e =
            let own : AreFound whole whole x all all = subst (λ (v : Option (ℕ × Table)). FoundInBoth whole whole x v (Some all)) e (found-at (Some all) e whole refl) in
            let slots : slots_in all.0 whole ≡ all.1.state.content.slots = slots-at whole all.0 all.1 own.at in
            slots-join (Tells access p x answer) all.0 (λ l. answer (with_slots all.1.state l)) (joins all.1.state)
            (λ part same q h. some-at all part same (usable access part.world.tables p x) (found-at (Some all) e part same) q h)
            (rw e (ap (λ (l : List Slot). answer (with_slots all.1.state l)) slots, refl))

-- ---- replies
objects-join : (xs ys : List Slot) → all_objects (xs ++ ys) ≡ all_objects xs ++ all_objects ys
objects-join xs ys = flat_map-append (λ (slot : Slot). slot.1) xs ys

map-join : {A B : Type 0} (f : A → B) (xs ys : List A) → map f (xs ++ ys) ≡ map f xs ++ map f ys
map-join f [] ys = refl
map-join f (x ∷ xs) ys = ap (λ l. f x ∷ l) (map-join f xs ys)

lists-join : (f : List Term → List Term) → ((os us : List Term) → f (os ++ us) ≡ f os ++ f us) → (xs ys : List Slot)
    → list_reply (f (all_objects (xs ++ ys))) ≡ join (list_reply (f (all_objects xs))) (list_reply (f (all_objects ys)))
lists-join f joins xs ys = ap (λ l. list_reply (f l)) (objects-join xs ys) ∙ (ap list_reply (joins (all_objects xs) (all_objects ys)) ∙ join-lists (f (all_objects xs)) (f (all_objects ys)))

results-join : (give : Term → Option Data) (os us : List Term) → map term_of (filter_map give (os ++ us)) ≡ map term_of (filter_map give os) ++ map term_of (filter_map give us)
results-join give os us = ap (map term_of) (filter_map-append give os us) ∙ map-join term_of (filter_map give os) (filter_map give us)

counts-join : (choose : Term → Bool) (xs ys : List Slot)
    → count_reply (length (filter choose (all_objects (xs ++ ys)))) ≡ join (count_reply (length (filter choose (all_objects xs)))) (count_reply (length (filter choose (all_objects ys))))
counts-join choose xs ys =
    ap (λ l. count_reply (length (filter choose l))) (objects-join xs ys)
    ∙ (ap (λ l. count_reply (length l)) (filter-append choose (all_objects xs) (all_objects ys))
    ∙ (ap count_reply (length-append (filter choose (all_objects xs)) (filter choose (all_objects ys)))
    ∙ join-counts (length (filter choose (all_objects xs))) (length (filter choose (all_objects ys)))))

-- a reply if an argument is well-formed
if-join : (good : Bool) (g : List Slot → Reply) → ((xs ys : List Slot) → g (xs ++ ys) ≡ join (g xs) (g ys)) → (xs ys : List Slot)
    → cond good (g (xs ++ ys)) Badarg ≡ join (cond good (g xs) Badarg) (cond good (g ys) Badarg)
if-join true g joins xs ys = joins xs ys
if-join false g joins xs ys = refl

-- ---- each call
module _ {part_of : ℕ → Term → ℕ} {parts : List State} {whole : State} (are : ArePartsOf part_of parts whole) where
  size-same : (t : ℕ) (part : State) (o : Option Table) → table_at part.world.tables t ≡ o → (table : Table) → option_map replicated_table o ≡ Some (replicated_table table)
      → (q : Reply) → gives (value_or_undefined (option_map (λ (own : Table). Int (pos (object_count own.state.content.slots))) o)) part q part → q ≡ count_reply (object_count (slots_in t part))
  size-same t part None at table e q h = cc
  size-same t part (Some own) at table e q h = h.0 ∙ ap (λ l. count_reply (object_count l)) (sym (slots-at part t own at))

  none-same : (part : State) (o : Option Table) → option_map replicated_table o ≡ None → (q : Reply) → gives (value_or_undefined (option_map (λ (own : Table). Int (pos (object_count own.state.content.slots))) o)) part q part → q ≡ value_or_undefined None
  none-same part None e q h = h.0
  none-same part (Some own) e q h = cc

  abbrev Sizes : Option ℕ → State → Outcome Reply State
  Sizes o s = gives (value_or_undefined (option_and_then (info_at item.Size s.world) o)) s

  sizes-join : (o : Option ℕ) → Joins are (Sizes o)
  sizes-join None = alike-joins are (Sizes None) (value_or_undefined None) join-undefined (λ part own q h. h.0) (refl, refl)
  sizes-join (Some t) = by (table_at whole.world.tables t) refl
    where
      by : (u : Option Table) → table_at whole.world.tables t ≡ u → Joins are (Sizes (Some t))
      by None e =
          alike-joins are (Sizes (Some t)) (value_or_undefined None) join-undefined
          (λ part own q h. none-same part (table_at part.world.tables t) (table-same part whole own t ∙ ap (option_map replicated_table) e) q h) (rw e (refl, refl))
      by (Some table) e =
          slots-join are (Sizes (Some t)) t (λ l. count_reply (object_count l)) (λ xs ys. ap count_reply (count-parts xs ys) ∙ join-counts (object_count xs) (object_count ys))
          (λ part own q h. size-same t part (table_at part.world.tables t) refl table (table-same part whole own t ∙ ap (option_map replicated_table) e) q h)
          (rw e (refl, refl))

  named-sizes : (x : Term) → Joins are (λ s. Sizes (resolve s.world.tables x) s)
  named-sizes x = record {
    does = λ replies reply h made.
        (sizes-join (resolve whole.world.tables x)).does replies reply
        (zip-map are (λ part q. Sizes (resolve part.world.tables x) part q part) (λ part q. Sizes (resolve whole.world.tables x) part q part)
        (λ part own q h. subst (λ (o : Option ℕ). Sizes o part q part) (sym (resolve-same part whole own x)) h) parts replies (all-same are) h) made;
  }

  info-item : (x : Term) (i : InfoItem) → is_size i ≡ true → (test : Bool)
      → Joins are (λ s reply new. MatchBool test (gives (value_or_undefined (option_and_then (info_at i s.world) (resolve s.world.tables x))) s reply new) (gives Badarg s reply new))
  info-item x item.Size e true = named-sizes x
  info-item x i e true = absurd (true≢false (sym e))
  info-item x i e false = alike-joins are (λ s. gives Badarg s) Badarg refl (λ part own q h. h.0) (refl, refl)

  size-of : (o : Option InfoItem) (i : InfoItem) → o ≡ Some i → option_map_or is_size o false ≡ true → is_size i ≡ true
  size-of None i e h = cc
  size-of (Some j) i e h = let is : j ≡ i = cc in subst (λ (k : InfoItem). is_size k ≡ true) is h

  pub chosen-join : (access : Access) (p : ℕ) (x y : Term) → Joins are (Tells access p x (select_count_reply y))
  chosen-join access p x y =
      tells-join are (select_count_reply y) (λ f n. refl)
      (λ f xs ys. if-join (is_spec (data_of y)) (λ l. count_reply (length (filter (is_chosen y) (all_objects l)))) (counts-join (is_chosen y)) xs ys) access p x

  pub call-joins : (p : ℕ) (n : CallName) (args : List Term) → looks_at_all n args ≡ true → reads_only n args ≡ true → Joins are (λ s. call s p n args)
  call-joins p name.Tab2list (x ∷ []) e only = tells-join are tab2list_reply (λ f n. refl) (λ f xs ys. lists-join (λ os. os) (λ os us. refl) xs ys) Read p x
  call-joins p name.Match (x ∷ y ∷ []) e only =
      tells-join are (match_reply y) (λ f n. refl)
      (λ f xs ys. if-join (is_pattern (data_of y)) (λ l. results_reply (filter_map (bound_in y) (all_objects l))) (lists-join (λ os. map term_of (filter_map (bound_in y) os)) (results-join (bound_in y))) xs ys) Read p x
  call-joins p name.MatchObject (x ∷ y ∷ []) e only =
      tells-join are (match_object_reply y) (λ f n. refl)
      (λ f xs ys. if-join (is_pattern (data_of y)) (λ l. list_reply (filter (matches y) (all_objects l))) (lists-join (filter (matches y)) (filter-append (matches y))) xs ys) Read p x
  call-joins p name.Select (x ∷ y ∷ []) e only =
      tells-join are (select_reply y) (λ f n. refl)
      (λ f xs ys. if-join (is_spec (data_of y)) (λ l. results_reply (filter_map (spec_result y) (all_objects l))) (lists-join (λ os. map term_of (filter_map (spec_result y) os)) (results-join (spec_result y))) xs ys) Read p x
  call-joins p name.SelectCount (x ∷ y ∷ []) e only = chosen-join Read p x y
  call-joins p name.Info (x ∷ y ∷ []) e only =
      refuse_none-joins are (item_of y) Badarg
      (λ i s reply new. MatchBool (names_form (out-Term x)) (gives (value_or_undefined (option_and_then (info_at i s.world) (resolve s.world.tables x))) s reply new) (gives Badarg s reply new))
      refl (λ i is. info-item x i (size-of (item_of y) i is e) (names_form (out-Term x)))
  call-joins p name.SelectDelete (x ∷ y ∷ []) e only = absurd (true≢false (sym only))
  call-joins p _ _ e only = absurd (true≢false (sym e))
