-- Calls on all objects, made on each part: the replies make that of the whole, and the parts are those of the whole after it.
use Rattle.std.proofs.Common.{◌≡◌, ◌≢◌, ℕ, Bool, true, false, not, cond, List, [], ◌∷◌, map, Option, None, Some, Result, Ok, Err, MatchBool, MatchOption, option_and_then, refl, sym, ap, subst, ◌∙◌, true≢false}
use Rattle.std.specs.List.{AllByRecursion, AllZip, each_same, list_any, reduce}
use Rattle.std.specs.Map.{keys_of, values_of}
use Rattle.std.specs.Option.{option_map_or}
use Rattle.ets_term.specs.declared.term.Term.{Term, out-Term}
use Rattle.ets_term.specs.Data.{data_of}
use Rattle.ets_term.specs.Depth.{is_too_deep}
use Rattle.match_spec.specs.Specifications.{is_spec}
use Rattle.table_ops.specs.declared.refusal.Refusal.{Refusal}
use Rattle.table_ops.specs.declared.refusal.Refusal.TheVariants as refusal
use Rattle.table_ops.specs.Drop.{Which}
use Rattle.table_ops.specs.Outcomes.{Outcome, gives, refuse, refuse_none}
use Rattle.table_ops.specs.Queries.{chosen_in, is_chosen}
use Rattle.fixed_walk.specs.TableState.{TableState}
use Rattle.ownership.specs.declared.info.InfoItem.{InfoItem}
use Rattle.ownership.specs.Info.{item_of}
use Rattle.ownership.specs.World.{Table, lives, resolve}
use Rattle.node_core.specs.declared.call_name.CallName.{CallName}
use Rattle.node_core.specs.declared.call_name.CallName.TheVariants as name
use Rattle.node_core.specs.declared.node.access.Access.TheVariants.{Read, Write}
use Rattle.node_core.specs.declared.step.Call.{Call}
use Rattle.node_core.specs.declared.step.Reply.{Reply}
use Rattle.node_core.specs.declared.step.Reply.TheVariants.{Badarg, SystemLimit, NoProcess}
use Rattle.node_core.specs.declared.step.Step.TheVariants.{Ask}
use Rattle.node_core.specs.State.{State}
use Rattle.node_core.specs.Access.{CallRule, ChangeResultToReply, usable, with_table, changes}
use Rattle.node_core.specs.CallName.{call_name}
use Rattle.node_core.specs.Calls.{call, call_by_text}
use Rattle.node_core.specs.Machine.{step}
use Rattle.node_core.specs.rules.Owning.{value_or_undefined, names_form, info_at, Info}
use Rattle.node_core.specs.rules.Reading.{tab2list_reply}
use Rattle.node_core.specs.rules.Replies.{true_reply}
use Rattle.node_core.specs.rules.Searching.{Deletes, SelectDelete, count_reply, match_reply, match_object_reply, select_reply, select_count_reply}
use Rattle.node_parts.specs.Joined.{looks_at_all, is_on_all_objects, join}
use Rattle.node_parts.specs.Laws.{CallsOnAllObjectsAreCalls}
use Rattle.node_parts.specs.Parts.{ArePartsOf, ShareAllRoom}
use Rattle.node_parts.proofs.ForAll.{ForAll, all-follow}
use Rattle.node_parts.proofs.ForAllRules.{DeletesQuietly, changes-all, deletes-rule}
use Rattle.node_parts.proofs.ForAllTables.{processes-same}
use Rattle.node_parts.proofs.Joined.{IsSame, all-same, Joins, alike-joins, Tells, chosen-join, call-joins}

-- ---- a deletion with a count is one without a count, and the count
module _ (which : Which) where
  -- a deletion that replies this number, if its argument is well-formed
  abbrev Counts : Bool → ℕ → CallRule
  Counts good n old reply new = (result : Result ℕ Refusal) × Deletes good n which old result new × ChangeResultToReply count_reply result reply

  parted : (good : Bool) (n : ℕ) (old new : TableState) (reply : Reply) → Counts good n old reply new
      → (q : Reply) × DeletesQuietly good which old q new × (reply ≡ cond good (count_reply n) Badarg)
  parted true n old new reply h =
      (true_reply, (Ok tt, (refl, h.1.1), refl), subst (λ (y : Result ℕ Refusal). ChangeResultToReply count_reply y reply) h.1.0 h.2)
  parted false n old new reply h =
      (Badarg, (Err refusal.Badarg, (refl, h.1.1), refl), subst (λ (y : Result ℕ Refusal). ChangeResultToReply count_reply y reply) h.1.0 h.2)

  united : (good : Bool) (n : ℕ) (old new : TableState) (q : Reply) → DeletesQuietly good which old q new → Counts good n old (cond good (count_reply n) Badarg) new
  united true n old new q h = (Ok n, (refl, h.1.1), refl)
  united false n old new q h = (Err refusal.Badarg, (refl, h.1.1), refl)

module _ (y : Term) where
  abbrev Quietly : CallRule
  Quietly = DeletesQuietly (is_spec (data_of y)) (λ _. is_chosen y)

  abbrev At : CallRule → State → Option (ℕ × Table) → Reply → State → Type 0
  At rule s o reply new = MatchOption o (gives Badarg s reply new) (λ found. (state : TableState) × rule found.1.state reply state × (new ≡ with_table s found.0 state))

  abbrev TellsAt : State → Option (ℕ × Table) → Reply → Type 0
  TellsAt s o reply = refuse_none s o Badarg (λ found. gives (select_count_reply y found.1.state) s) reply s

  parted-at : (s : State) (o : Option (ℕ × Table)) (reply : Reply) (new : State) → At (SelectDelete y) s o reply new → (q : Reply) × At Quietly s o q new × TellsAt s o reply
  parted-at s None reply new h = (Badarg, (refl, h.1), (h.0, refl))
  parted-at s (Some found) reply new h =
      let both = parted (λ _. is_chosen y) (is_spec (data_of y)) (chosen_in (is_chosen y) found.1.state.content) found.1.state h.0 reply h.1 in
      (both.0, (h.0, both.1, h.2), (both.2, refl))

  united-at : (s : State) (o : Option (ℕ × Table)) (q reply : Reply) (new : State) → At Quietly s o q new → TellsAt s o reply → At (SelectDelete y) s o reply new
  united-at s None q reply new h t = (t.0, h.1)
  united-at s (Some found) q reply new h t = (
    h.0,
    subst (λ (r : Reply). SelectDelete y found.1.state r h.0) (sym t.0) (united (λ _. is_chosen y) (is_spec (data_of y)) (chosen_in (is_chosen y) found.1.state.content) found.1.state h.0 q h.1),
    h.2,
  )

-- ---- outcomes
module _ {part_of : ℕ → Term → ℕ} {parts : List State} {whole : State} (are : ArePartsOf part_of parts whole) where
  -- the replies of the parts, put together, are a reply of the whole, and the parts are those of the whole after it
  pub record Counted (outcome : State → Outcome Reply State) : Type 0 where
    pub does :
        (made : List (Reply × State)) (reply : Reply) → AllZip (λ part m. outcome part m.0 m.1) parts made → reduce join (keys_of made) ≡ Some reply
        → (next : State) × outcome whole reply next × ArePartsOf part_of (values_of made) next × (ShareAllRoom parts whole → ShareAllRoom (values_of made) next)

  zip-made : {B : Type 0} (f : Reply × State → B) (R : State → Reply × State → Type 0) (Q : State → B → Type 0) → ((part : State) → IsSame are part → (m : Reply × State) → R part m → Q part (f m))
      → (ps : List State) (made : List (Reply × State)) → AllByRecursion (IsSame are) ps → AllZip R ps made → AllZip Q ps (map f made)
  zip-made f R Q to [] [] same h = tt
  zip-made f R Q to [] (m ∷ made) same h = absurd h
  zip-made f R Q to (part ∷ ps) [] same h = absurd h
  zip-made f R Q to (part ∷ ps) (m ∷ made) same h = (to part same.0 m h.0, zip-made f R Q to ps made same.1 h.1)

  -- an outcome that changes nothing
  keeps-counted : (outcome : State → Outcome Reply State) → Joins are outcome → ((s : State) (reply : Reply) (new : State) → outcome s reply new → new ≡ s) → Counted outcome
  keeps-counted outcome joins keeps = record {
    does = λ made reply h j.
        let R = λ (part : State) (m : Reply × State). outcome part m.0 m.1 in
        let news = zip-made (λ (m : Reply × State). m.1) (λ part m. outcome part m.0 m.1) (λ part new. new ≡ part) (λ part own m d. keeps part m.0 m.1 d) parts made (all-same are) h in
        let tells = zip-made (λ (m : Reply × State). m.0) (λ part m. outcome part m.0 m.1) (λ part r. outcome part r part) (λ part own m d. subst (λ (s : State). outcome part m.0 s) (keeps part m.0 m.1 d) d) parts made (all-same are) h in
        let same : parts ≡ values_of made = sym (each_same parts (values_of made) news) in
        (whole, joins.does (keys_of made) reply tells j, subst (λ (l : List State). ArePartsOf part_of l whole) same are, λ share. subst (λ (l : List State). ShareAllRoom l whole) same share);
  }

  gives-counted : (r : Reply) → join r r ≡ r → Counted (λ s. gives r s)
  gives-counted r same = keeps-counted (λ s. gives r s) (alike-joins are (λ s. gives r s) r same (λ part own q h. h.0) (refl, refl)) (λ s reply new h. h.1)

  through-counted : (one other : State → Outcome Reply State) → ((part : State) → IsSame are part → (r : Reply) (new : State) → one part r new → other part r new)
      → ((r : Reply) (new : State) → other whole r new → one whole r new) → Counted other → Counted one
  through-counted one other to from counted = record {
    does = λ made reply h j.
        let all = zip-made (λ (m : Reply × State). m) (λ part m. one part m.0 m.1) (λ part m. other part m.0 m.1) (λ part own m d. to part own m.0 m.1 d) parts made (all-same are) h in
        let done = counted.does made reply (subst (λ (l : List (Reply × State)). AllZip (λ part m. other part m.0 m.1) parts l) (map-same made) all) j in
        (done.0, from reply done.0 done.1, done.2, done.3);
  }
    where
      map-same : (l : List (Reply × State)) → map (λ (m : Reply × State). m) l ≡ l
      map-same [] = refl
      map-same (m ∷ l) = ap (λ k. m ∷ k) (map-same l)

  refuse-counted : (test : State → Bool) (refusal : Reply) (outcome : State → Outcome Reply State) → join refusal refusal ≡ refusal → ((part : State) → IsSame are part → test part ≡ test whole)
      → Counted outcome → Counted (λ s. refuse s (test s) refusal (outcome s))
  refuse-counted test refusal outcome same alike counted = by (test whole) refl
    where
      at : (b : Bool) → test whole ≡ b → (part : State) → IsSame are part → (r : Reply) (new : State) → refuse part (test part) refusal (outcome part) r new → refuse part b refusal (outcome part) r new
      at b e part own r new h = subst (λ (b : Bool). MatchBool b (gives refusal part r new) (outcome part r new)) (alike part own ∙ e) h

      by : (b : Bool) → test whole ≡ b → Counted (λ s. refuse s (test s) refusal (outcome s))
      by true e = through-counted (λ s. refuse s (test s) refusal (outcome s)) (λ s. gives refusal s) (at true e) (λ r new h. rw e h) (gives-counted refusal same)
      by false e = through-counted (λ s. refuse s (test s) refusal (outcome s)) outcome (at false e) (λ r new h. rw e h) counted

  refuse_none-counted : {Y : Type 0} (o : Option Y) (refusal : Reply) (outcome : Y → State → Outcome Reply State) → join refusal refusal ≡ refusal → ((y : Y) → o ≡ Some y → Counted (outcome y))
      → Counted (λ s. refuse_none s o refusal (λ y. outcome y s))
  refuse_none-counted None refusal outcome same counted = gives-counted refusal same
  refuse_none-counted (Some y) refusal outcome same counted = counted y refl

  -- ---- select_delete
  module _ (p : ℕ) (x y : Term) where
    abbrev Quiet : State → Outcome Reply State
    Quiet s = changes s p Write x (Quietly y)

    quiet : ForAll Quiet whole
    quiet = changes-all whole Write p x (Quietly y) (λ t all. deletes-rule (is_spec (data_of y)) (λ _. is_chosen y) all.state)

    some-parts : (ps : List State) (made : List (Reply × State)) (reply : Reply) → AllZip (λ part m. changes part p Write x (SelectDelete y) m.0 m.1) ps made → reduce join (keys_of made) ≡ Some reply → ps ≢ []
    some-parts [] [] reply h j = λ e. cc
    some-parts [] (m ∷ made) reply h j = absurd h
    some-parts (part ∷ ps) made reply h j = λ e. cc

    select_delete-counted : Counted (λ s. changes s p Write x (SelectDelete y))
    select_delete-counted = record {
      does = λ made reply h j.
          let part_at = λ (part : State) (m : Reply × State) (d : changes part p Write x (SelectDelete y) m.0 m.1). parted-at y part (usable Write part.world.tables p x) m.0 m.1 d in
          let news = zip-made (λ (m : Reply × State). m.1) (λ part m. changes part p Write x (SelectDelete y) m.0 m.1) (λ part new. Quiet part quiet.reply new)
          (λ part own m d. let both = part_at part m d in subst (λ (q : Reply). Quiet part q m.1) (quiet.each part own both.0 m.1 both.1).0 both.1) parts made (all-same are) h in
          let tells = zip-made (λ (m : Reply × State). m.0) (λ part m. changes part p Write x (SelectDelete y) m.0 m.1) (λ part r. Tells Write p x (select_count_reply y) part r part) (λ part own m d. (part_at part m d).2) parts made (all-same are) h in
          let done = all-follow Quiet whole quiet part_of parts (values_of made) quiet.reply are (some-parts parts made reply h j) news in
          let told = (chosen-join are Write p x y).does (keys_of made) reply tells j in
          (done.0, united-at y whole (usable Write whole.world.tables p x) quiet.reply reply done.0 done.1 told, done.2, done.3);
    }

  -- ---- each call
  tells-keep : (answer : TableState → Reply) (s : State) (o : Option (ℕ × Table)) (reply : Reply) (new : State) → refuse_none s o Badarg (λ found. gives (answer found.1.state) s) reply new → new ≡ s
  tells-keep answer s None reply new h = h.1
  tells-keep answer s (Some found) reply new h = h.1

  info-keeps : (value : InfoItem → Reply) (test : Bool) (o : Option InfoItem) (s : State) (reply : Reply) (new : State)
      → refuse_none s o Badarg (λ i reply new. MatchBool test (gives (value i) s reply new) (gives Badarg s reply new)) reply new → new ≡ s
  info-keeps value test None s reply new h = h.1
  info-keeps value true (Some i) s reply new h = h.1
  info-keeps value false (Some i) s reply new h = h.1

  reads-counted : (p : ℕ) (x : Term) (answer : TableState → Reply) → Joins are (Tells Read p x answer) → Counted (Tells Read p x answer)
  reads-counted p x answer joins = keeps-counted (Tells Read p x answer) joins (λ s. tells-keep answer s (usable Read s.world.tables p x))

  call-counted : (p : ℕ) (n : CallName) (args : List Term) → looks_at_all n args ≡ true → Counted (λ s. call s p n args)
  call-counted p name.Tab2list (x ∷ []) e = reads-counted p x tab2list_reply (call-joins are p name.Tab2list (x ∷ []) e refl)
  call-counted p name.Match (x ∷ y ∷ []) e = reads-counted p x (match_reply y) (call-joins are p name.Match (x ∷ y ∷ []) e refl)
  call-counted p name.MatchObject (x ∷ y ∷ []) e = reads-counted p x (match_object_reply y) (call-joins are p name.MatchObject (x ∷ y ∷ []) e refl)
  call-counted p name.Select (x ∷ y ∷ []) e = reads-counted p x (select_reply y) (call-joins are p name.Select (x ∷ y ∷ []) e refl)
  call-counted p name.SelectCount (x ∷ y ∷ []) e = reads-counted p x (select_count_reply y) (call-joins are p name.SelectCount (x ∷ y ∷ []) e refl)
  call-counted p name.SelectDelete (x ∷ y ∷ []) e = select_delete-counted p x y
  call-counted p name.Info (x ∷ y ∷ []) e =
      keeps-counted (λ s. Info s x y) (call-joins are p name.Info (x ∷ y ∷ []) e refl)
      (λ s. info-keeps (λ i. value_or_undefined (option_and_then (info_at i s.world) (resolve s.world.tables x))) (names_form (out-Term x)) (item_of y) s)
  call-counted p _ _ e = absurd (true≢false (sym e))

  named : (o : Option CallName) (args : List Term) (n : CallName) → o ≡ Some n → option_map_or (λ name. looks_at_all name args) o false ≡ true → looks_at_all n args ≡ true
  named None args n e h = cc
  named (Some m) args n e h = let is : m ≡ n = cc in subst (λ (c : CallName). looks_at_all c args ≡ true) is h

  pub step-counted : (p : ℕ) (asked : Call) → is_on_all_objects asked ≡ true → Counted (λ s. step s (Ask p asked))
  step-counted p asked e =
      refuse-counted (λ s. not (lives s.world.processes p)) NoProcess (λ s. refuse s (list_any is_too_deep asked.args) SystemLimit (call_by_text s p asked.name asked.args)) refl (λ part same. ap (λ ps. not (lives ps p)) (processes-same part whole same)) (
      refuse-counted (λ s. list_any is_too_deep asked.args) SystemLimit (λ s. call_by_text s p asked.name asked.args) refl (λ part same. refl) (
      refuse_none-counted (call_name asked.name) Badarg (λ n s. call s p n asked.args) refl (λ n h. call-counted p n asked.args (named (call_name asked.name) asked.args n h e))))

pub calls-join : CallsOnAllObjectsAreCalls
calls-join part_of parts whole p asked made reply are e h j =
    let done = (step-counted are p asked e).does made reply h j in
    (done.0, done.1, done.2)
