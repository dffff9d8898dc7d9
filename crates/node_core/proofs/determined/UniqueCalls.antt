-- Each step over two states that differ in the order of slots alone has replies that agree, and leaves such states.
use Rattle.std.proofs.Common.{◌≡◌, ◌⊎◌, ℕ, not, List, [], ◌∷◌, Option, None, Some, refl, inl, inr}
use Rattle.std.specs.Option.{IsSomeAnd}
use Rattle.std.specs.List.{list_any}
use Rattle.ets_term.specs.declared.term.Term.{Term}
use Rattle.ets_term.specs.declared.term.Term.TheVariants.{Pid}
use Rattle.ets_term.specs.Depth.{is_too_deep}
use Rattle.bucket_table.specs.Slots.{Slot}
use Rattle.bucket_table.specs.Rows.{HasDistinctKeys}
use Rattle.table_ops.specs.Outcomes.{Outcome, refuse_none}
use Rattle.fixed_walk.specs.TableState.{TableState}
use Rattle.ownership.specs.World.{Tables, lives, table_at}
use Rattle.node_core.specs.declared.call_name.CallName.{CallName}
use Rattle.node_core.specs.declared.call_name.CallName.TheVariants as name
use Rattle.node_core.specs.declared.node.access.Access.TheVariants.{Write}
use Rattle.node_core.specs.declared.step.Reply.{Reply}
use Rattle.node_core.specs.declared.step.Reply.TheVariants.{Value, Badarg, SystemLimit, NoProcess}
use Rattle.node_core.specs.declared.step.Step.{Step}
use Rattle.node_core.specs.declared.step.Step.TheVariants.{Enrol, End, Ask, Grow, Ready}
use Rattle.node_core.specs.State.{State}
use Rattle.node_core.specs.Access.{CallRule, reads, writes}
use Rattle.node_core.specs.CallName.{call_name}
use Rattle.node_core.specs.Calls.{call}
use Rattle.node_core.specs.Machine.{step}
use Rattle.node_core.specs.rules.Reading.{lookup_reply, member_reply, lookup_element_reply, lookup_element_or_reply, tab2list_reply}
use Rattle.node_core.specs.rules.Replies.{true_reply}
use Rattle.node_core.specs.rules.Searching.{match_reply, match_object_reply, select_reply, select_count_reply}
use Rattle.node_core.specs.rules.Walking.{first_reply, next_reply, first_lookup_reply, next_lookup_reply}
use Rattle.node_core.proofs.determined.Slots.{SameSlots}
use Rattle.node_core.proofs.determined.Alike.{AlikeTables, AlikeStates, state_with, with_tables, at-alike}
use Rattle.node_core.proofs.determined.Unique.{Unique, Same, refuse-unique, UniqueRule}
use Rattle.node_core.proofs.determined.UniqueReads.{lookup-same, member-same, element-same, element_or-same, select_count-same}
use Rattle.node_core.proofs.determined.UniqueRules.{take-unique, delete-unique, delete_all-unique, insert-unique, insert_new-unique, delete_object-unique, match_delete-unique, select_delete-unique, update_counter-unique, update_element-unique}
use Rattle.node_core.proofs.determined.UniqueWorlds.{enrol-unique, end-unique}
use Rattle.node_core.proofs.determined.UniqueInfo.{growth-at}
use Rattle.node_core.proofs.determined.UniqueStates.{HasDistinctSlots, before, tells, reads-unique, changes-unique, world-unique, new_call-unique, delete_table-unique, give_away-unique, set_options-unique, receive-unique, whereis_call-unique, info-unique, fixtable-unique}

abbrev Reading : (CallName → Reply → Reply → Type 0) → State → Tables → ℕ → CallName → Term → (TableState → Reply) → Type 0
Reading R old us p n x answer = Unique (R n) AlikeStates (reads old p x answer) (reads (with_tables old us) p x answer)

-- no call but these eight shows the order of slots; R relates the replies to them
pub record ShowsOrder (old : State) (us : Tables) (p : ℕ) (R : CallName → Reply → Reply → Type 0) : Type 0 where
  pub tab2list : (x : Term) → Reading R old us p name.Tab2list x tab2list_reply
  pub first : (x : Term) → Reading R old us p name.First x first_reply
  pub first_lookup : (x : Term) → Reading R old us p name.FirstLookup x first_lookup_reply
  pub next : (x y : Term) → Reading R old us p name.Next x (next_reply y)
  pub next_lookup : (x y : Term) → Reading R old us p name.NextLookup x (next_lookup_reply y)
  pub match : (x y : Term) → Reading R old us p name.Match x (match_reply y)
  pub match_object : (x y : Term) → Reading R old us p name.MatchObject x (match_object_reply y)
  pub select : (x y : Term) → Reading R old us p name.Select x (select_reply y)

module _ (old : State) (us : Tables) (a : AlikeTables old.world.tables us) (distinct : HasDistinctSlots old) where
  abbrev next : State
  next = with_tables old us

  abbrev By : (Reply → Reply → Type 0) → Outcome Reply State → Outcome Reply State → Type 0
  By R one other = Unique R AlikeStates one other

  -- ---- each call
  module _ (p : ℕ) (R : CallName → Reply → Reply → Type 0) (weaken : (n : CallName) (r q : Reply) → r ≡ q → R n r q) (shown : ShowsOrder old us p R) where
    exactly : (n : CallName) {one other : Outcome Reply State} → By Same one other → By (R n) one other
    exactly n u r q new after h k = let both = u r q new after h k in (weaken n r q both.0, both.1)

    same-read : (n : CallName) (x : Term) (answer : TableState → Reply)
        → ((f : TableState) (ss : List Slot) → SameSlots f.content.slots ss → HasDistinctKeys f.content.slots → answer f ≡ answer (state_with f ss))
        → By (R n) (reads old p x answer) (reads next p x answer)
    same-read n x answer each = exactly n (reads-unique old us a distinct Same refl p x answer each)

    write : (n : CallName) (x : Term) {rule : CallRule} → UniqueRule rule → By (R n) (writes old p x rule) (writes next p x rule)
    write n x unique = exactly n (changes-unique old us a distinct p Write x unique)

    call-unique : (n : CallName) (args : List Term) → By (R n) (call old p n args) (call next p n args)
    call-unique name.Receive [] = exactly name.Receive (receive-unique old us a distinct p)
    call-unique name.Tab2list (x ∷ []) = shown.tab2list x
    call-unique name.DeleteAllObjects (x ∷ []) = write name.DeleteAllObjects x delete_all-unique
    call-unique name.Delete (x ∷ []) = exactly name.Delete (delete_table-unique old us a distinct p x)
    call-unique name.First (x ∷ []) = shown.first x
    call-unique name.FirstLookup (x ∷ []) = shown.first_lookup x
    call-unique name.Whereis (x ∷ []) = exactly name.Whereis (whereis_call-unique old us a distinct x)
    call-unique name.Insert (x ∷ y ∷ []) = write name.Insert x (insert-unique y)
    call-unique name.InsertNew (x ∷ y ∷ []) = write name.InsertNew x (insert_new-unique y)
    call-unique name.Lookup (x ∷ y ∷ []) = same-read name.Lookup x (lookup_reply y) (λ f ss h d. lookup-same f ss h d y)
    call-unique name.Member (x ∷ y ∷ []) = same-read name.Member x (member_reply y) (λ f ss h d. member-same f ss h d y)
    call-unique name.Take (x ∷ y ∷ []) = write name.Take x (take-unique y)
    call-unique name.Delete (x ∷ y ∷ []) = write name.Delete x (delete-unique y)
    call-unique name.DeleteObject (x ∷ y ∷ []) = write name.DeleteObject x (delete_object-unique y)
    call-unique name.Match (x ∷ y ∷ []) = shown.match x y
    call-unique name.MatchObject (x ∷ y ∷ []) = shown.match_object x y
    call-unique name.MatchDelete (x ∷ y ∷ []) = write name.MatchDelete x (match_delete-unique y)
    call-unique name.Select (x ∷ y ∷ []) = shown.select x y
    call-unique name.SelectCount (x ∷ y ∷ []) = same-read name.SelectCount x (select_count_reply y) (λ f ss h d. select_count-same f ss h d y)
    call-unique name.SelectDelete (x ∷ y ∷ []) = write name.SelectDelete x (select_delete-unique y)
    call-unique name.New (x ∷ y ∷ []) = exactly name.New (new_call-unique old us a distinct p x y)
    call-unique name.Next (x ∷ y ∷ []) = shown.next x y
    call-unique name.NextLookup (x ∷ y ∷ []) = shown.next_lookup x y
    call-unique name.SafeFixtable (x ∷ y ∷ []) = exactly name.SafeFixtable (fixtable-unique old us a distinct p x y)
    call-unique name.SetOptions (x ∷ y ∷ []) = exactly name.SetOptions (set_options-unique old us a distinct p x y)
    call-unique name.Info (x ∷ y ∷ []) = exactly name.Info (info-unique old us a distinct x y)
    call-unique name.LookupElement (x ∷ y ∷ z ∷ []) = same-read name.LookupElement x (lookup_element_reply y z) (λ f ss h d. element-same f ss h d y z)
    call-unique name.UpdateCounter (x ∷ y ∷ z ∷ []) = write name.UpdateCounter x (update_counter-unique y z None)
    call-unique name.UpdateElement (x ∷ y ∷ z ∷ []) = write name.UpdateElement x (update_element-unique y z None)
    call-unique name.GiveAway (x ∷ y ∷ z ∷ []) = exactly name.GiveAway (give_away-unique old us a distinct p x y z)
    call-unique name.LookupElement (x ∷ y ∷ z ∷ w ∷ []) = same-read name.LookupElement x (lookup_element_or_reply y z w) (λ f ss h d. element_or-same f ss h d y z w)
    call-unique name.UpdateCounter (x ∷ y ∷ z ∷ w ∷ []) = write name.UpdateCounter x (update_counter-unique y z (Some w))
    call-unique name.UpdateElement (x ∷ y ∷ z ∷ w ∷ []) = write name.UpdateElement x (update_element-unique y z (Some w))
    call-unique n _ = exactly n (tells old us a distinct Badarg Badarg refl)

    named-unique : (found : Option CallName) (args : List Term)
        → By (λ r q. (r ≡ q) ⊎ IsSomeAnd found (λ n. R n r q)) (refuse_none old found Badarg (λ n. call old p n args)) (refuse_none next found Badarg (λ n. call next p n args))
    named-unique None args = λ r q new after h k. let both = tells old us a distinct Badarg Badarg refl r q new after h k in (inl both.0, both.1)
    named-unique (Some n) args = λ r q new after h k. let both = call-unique n args r q new after h k in (inr both.0, both.1)

  -- ---- each step, where R relates the replies to calls
  abbrev pub Told : (CallName → Reply → Reply → Type 0) → Step → Reply → Reply → Type 0
  Told R (Ask p asked) r q = (r ≡ q) ⊎ IsSomeAnd (call_name asked.name) (λ n. R n r q)
  Told R _ r q = r ≡ q

  pub step-unique : (R : CallName → Reply → Reply → Type 0) → ((n : CallName) (r q : Reply) → r ≡ q → R n r q) → ((p : ℕ) → ShowsOrder old us p R) → (s : Step) → By (Told R s) (step old s) (step next s)
  step-unique R weaken shown (Enrol p) = world-unique old us a distinct (λ _. Value (Pid p)) (enrol-unique old.world us a p)
  step-unique R weaken shown (End p) = world-unique old us a distinct (λ _. true_reply) (end-unique old.world us a p)
  step-unique R weaken shown (Ask p asked) =
      refuse-unique (Told R (Ask p asked)) AlikeStates old next (before old us a distinct) NoProcess (inl refl) (not (lives old.world.processes p)) (
      refuse-unique (Told R (Ask p asked)) AlikeStates old next (before old us a distinct) SystemLimit (inl refl) (list_any is_too_deep asked.args) (
      named-unique p R weaken (shown p) (call_name asked.name) asked.args))
  step-unique R weaken shown (Grow t) = tells old us a distinct _ _ (growth-at (table_at old.world.tables t) (table_at us t) (at-alike old.world.tables us a t))
  step-unique R weaken shown (Ready t bucket) = tells old us a distinct _ _ (growth-at (table_at old.world.tables t) (table_at us t) (at-alike old.world.tables us a t))
