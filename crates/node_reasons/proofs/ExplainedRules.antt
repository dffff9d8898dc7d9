-- What the rules of calls on objects say comes true.
use Rattle.std.proofs.Common.{◌≡◌, ℕ, ◌⊎◌, inl, inr, Bool, true, false, List, [], ◌∷◌, Option, None, Some, option_map, option_and_then, Result, Ok, Err, refl, ap}
use Rattle.std.specs.Prelude.{◌==◌, if◌then◌else◌, is_some, MatchOption, nat_lt, filter, filter_map}
use Rattle.std.specs.Bool.{MatchBool}
use Rattle.std.specs.List.{list_any, list_all}
use Rattle.std.specs.Option.{option_map_or}
use Rattle.ets_term.specs.declared.term.Term.{Term}
use Rattle.ets_term.specs.Depth.{is_too_deep}
use Rattle.ets_term.specs.Data.{Data, data_of}
use Rattle.bucket_table.specs.Slots.{Slot, object_count, slots_behind}
use Rattle.match_spec.specs.Specifications.{is_pattern, is_spec}
use Rattle.table_ops.specs.declared.refusal.Refusal.{Refusal}
use Rattle.table_ops.specs.declared.refusal.Refusal.TheVariants as refusal
use Rattle.table_ops.specs.declared.kind.Kind.{Kind}
use Rattle.table_ops.specs.declared.kind.Kind.TheVariants.{Set, Bag, DuplicateBag}
use Rattle.table_ops.specs.Content.{Content, key_of, is_object, objects_under}
use Rattle.table_ops.specs.Put.{PutsAll, InsertsWithinLimit, is_taken}
use Rattle.table_ops.specs.Drop.{Which, without_those, equal_to}
use Rattle.table_ops.specs.Queries.{bound_in, matches, spec_result, is_chosen}
use Rattle.table_ops.specs.Results.{chosen_count}
use Rattle.table_ops.specs.Read.{lookup_element, lookup_element_or, all_objects}
use Rattle.table_ops.specs.Outcomes.{gives}
use Rattle.fixed_walk.specs.declared.fault.FixFault.TheVariants as fix
use Rattle.fixed_walk.specs.Fixes.{is_fixed}
use Rattle.fixed_walk.specs.TableState.{TableState}
use Rattle.fixed_walk.specs.Walk.{first_key, first_slot}
use Rattle.node_core.specs.declared.step.Reply.{Reply}
use Rattle.node_core.specs.declared.step.Reply.TheVariants.{Badarg}
use Rattle.node_core.specs.Access.{ChangeResultToReply}
use Rattle.ets_term.specs.Views.{as_natural}
use Rattle.node_core.specs.rules.Replies.{true_reply, truth_reply, list_reply, term_reply}
use Rattle.node_core.specs.Values.{is_value}
use Rattle.node_core.specs.rules.Insertion.{objects_in, Insert, InsertNew}
use Rattle.node_core.specs.rules.Reading.{lookup_element_reply, lookup_element_or_reply}
use Rattle.node_core.specs.rules.Removal.{DeleteObject}
use Rattle.node_core.specs.rules.Searching.{Deletes, match_reply, match_object_reply, MatchDelete, select_reply, select_count_reply, SelectDelete, results_reply, count_reply}
use Rattle.node_core.specs.rules.Walking.{FixResultToReply, Fixes, key_reply, slot_reply, next_reply, next_lookup_reply}
use Rattle.node_reasons.specs.declared.reason.Rule.TheVariants as rule
use Rattle.node_reasons.specs.declared.reason.Reason.{Reason}
use Rattle.node_reasons.specs.Reasons.{argument}
use Rattle.node_reasons.specs.Objects.{why_insert, why_delete_object, why_next, why_match, why_select, element, why_element_of_key, why_element_at, why_lookup_element, why_lookup_element_or}
use Rattle.node_reasons.proofs.Explained.{ReasonExplains, value-of, badarg-of, limit-of}

-- ---- insert
-- where each term is an object, they are stored, or a limit refuses it
stored : {X : Type 0} (done : X) (objects : List Term) (old new : Content) (r : Result X Refusal) → InsertsWithinLimit done objects old r new → (r ≡ Ok done) ⊎ (r ≡ Err refusal.SystemLimit)
stored {X = X} done objects old new r = by (list_any is_too_deep objects)
  where
    within : (slots : List Slot) (b : Bool) → MatchBool b (gives (Err refusal.SystemLimit) old r new) (gives (Ok done) (record old { slots = slots }) r new) → (r ≡ Ok done) ⊎ (r ≡ Err refusal.SystemLimit)
    within slots true h = inr h.0
    within slots false h = inl h.0

    by : (b : Bool) → MatchBool b (gives (Err refusal.SystemLimit) old r new) ((slots : List Slot) × PutsAll old.kind old.keypos old.slots objects slots
        × MatchBool (nat_lt old.limit (object_count slots)) (gives (Err refusal.SystemLimit) old r new) (gives (Ok done) (record old { slots = slots }) r new)) → (r ≡ Ok done) ⊎ (r ≡ Err refusal.SystemLimit)
    by true h = inr h.0
    by false h = within h.0 (nat_lt old.limit (object_count h.0)) h.2

limited-of : {X : Type 0} (answer : X → Reply) (result : Result X Refusal) (done : X) (reply : Reply) → is_value (answer done) ≡ true → (result ≡ Ok done) ⊎ (result ≡ Err refusal.SystemLimit) → ChangeResultToReply answer result reply → ReasonExplains None reply
limited-of answer result done reply v (inl e) h = inl (value-of answer result done reply v e h)
limited-of answer result done reply v (inr e) h = inr (limit-of answer result reply e h)

pub insert-explained : (given : Term) (f g : TableState) (reply : Reply) → Insert given f reply g → ReasonExplains (why_insert given f.content) reply
insert-explained given f g reply h = by (list_all (is_object f.content.keypos) (objects_in given)) h.1.0
  where
    by : (b : Bool) → MatchBool b (InsertsWithinLimit tt (objects_in given) f.content h.0 g.content) (gives (Err refusal.Badarg) f.content h.0 g.content) → ReasonExplains (if b then None else Some (argument 2 rule.NotAnObject)) reply
    by true s = limited-of (λ _. true_reply) h.0 tt reply refl (stored tt (objects_in given) f.content g.content h.0 s) h.2
    by false s = (badarg-of (λ _. true_reply) h.0 reply s.0 h.2, refl)

pub insert_new-explained : (given : Term) (f g : TableState) (reply : Reply) → InsertNew given f reply g → ReasonExplains (why_insert given f.content) reply
insert_new-explained given f g reply h = by (list_all (is_object f.content.keypos) (objects_in given)) h.1.0
  where
    taken : (b : Bool) → MatchBool b (gives (Ok false) f.content h.0 g.content) (InsertsWithinLimit true (objects_in given) f.content h.0 g.content) → ReasonExplains None reply
    taken true s = inl (value-of truth_reply h.0 false reply refl s.0 h.2)
    taken false s = limited-of truth_reply h.0 true reply refl (stored true (objects_in given) f.content g.content h.0 s) h.2

    by : (b : Bool) → MatchBool b (MatchBool (list_any (is_taken f.content.keypos f.content.slots) (objects_in given)) (gives (Ok false) f.content h.0 g.content) (InsertsWithinLimit true (objects_in given) f.content h.0 g.content)) (gives (Err refusal.Badarg) f.content h.0 g.content)
        → ReasonExplains (if b then None else Some (argument 2 rule.NotAnObject)) reply
    by true s = taken (list_any (is_taken f.content.keypos f.content.slots) (objects_in given)) s
    by false s = (badarg-of truth_reply h.0 reply s.0 h.2, refl)

-- ---- delete_object
pub deletion-explained : (object : Term) (f g : TableState) (reply : Reply) → DeleteObject object f reply g → ReasonExplains (why_delete_object object f.content) reply
deletion-explained object f g reply h = by (without_those (is_fixed f.fixes) (equal_to object) f.content) (key_of f.content.keypos object) h.1.0
  where
    by : (after : Content) (o : Option Term) → MatchOption o (gives (Err refusal.Badarg) f.content h.0 g.content) (λ _. gives (Ok tt) after h.0 g.content) → ReasonExplains (if is_some o then None else Some (argument 2 rule.NotAnObject)) reply
    by after None s = (badarg-of (λ _. true_reply) h.0 reply s.0 h.2, refl)
    by after (Some key) s = inl (value-of (λ _. true_reply) h.0 tt reply refl s.0 h.2)

-- ---- walks
pub key-value : (o : Option Term) → is_value (key_reply o) ≡ true
key-value None = refl
key-value (Some key) = refl

pub slot-value : (o : Option Slot) → is_value (slot_reply o) ≡ true
slot-value None = refl
slot-value (Some slot) = refl

pub next-explained : (key : Term) (f : TableState) → ReasonExplains (why_next key f.content) (next_reply key f)
next-explained key f = by (slots_behind f.content.slots key)
  where
    by : (o : Option (List Slot)) → ReasonExplains (if is_some (option_map first_key o) then None else Some (argument 2 rule.NoKey)) (option_map_or key_reply (option_map first_key o) Badarg)
    by None = (refl, refl)
    by (Some slots) = inl (key-value (first_key slots))

pub next_lookup-explained : (key : Term) (f : TableState) → ReasonExplains (why_next key f.content) (next_lookup_reply key f)
next_lookup-explained key f = by (slots_behind f.content.slots key)
  where
    by : (o : Option (List Slot)) → ReasonExplains (if is_some (option_map first_key o) then None else Some (argument 2 rule.NoKey)) (option_map_or slot_reply (option_map first_slot o) Badarg)
    by None = (refl, refl)
    by (Some slots) = inl (slot-value (first_slot slots))

pub fixes-explained : (p : ℕ) (f g : TableState) (reply : Reply) → Fixes p f reply g → ReasonExplains None reply
fixes-explained p f g reply h = by h.0 h.2
  where
    by : (r : Result (Unit {0}) _) → FixResultToReply r reply → ReasonExplains None reply
    by (Ok done) e = inl (ap is_value e)
    by (Err fix.SystemLimit) e = inr e
    by (Err fix.Memory) e = absurd e

-- ---- searches
pub match-explained : (pattern : Term) (f : TableState) → ReasonExplains (why_match pattern f.content) (match_reply pattern f)
match-explained pattern f = by (is_pattern (data_of pattern)) (filter_map (bound_in pattern) (all_objects f.content.slots))
  where
    by : (b : Bool) (found : List Data) → ReasonExplains (if b then None else Some (argument 2 rule.NotAPattern)) (if b then results_reply found else Badarg)
    by true found = inl refl
    by false found = (refl, refl)

pub match_object-explained : (pattern : Term) (f : TableState) → ReasonExplains (why_match pattern f.content) (match_object_reply pattern f)
match_object-explained pattern f = by (is_pattern (data_of pattern)) (filter (matches pattern) (all_objects f.content.slots))
  where
    by : (b : Bool) (found : List Term) → ReasonExplains (if b then None else Some (argument 2 rule.NotAPattern)) (if b then list_reply found else Badarg)
    by true found = inl refl
    by false found = (refl, refl)

pub match_delete-explained : (pattern : Term) (f g : TableState) (reply : Reply) → MatchDelete pattern f reply g → ReasonExplains (why_match pattern f.content) reply
match_delete-explained pattern f g reply h = by (λ _. matches pattern) (is_pattern (data_of pattern)) h.1
  where
    by : (which : Which) (b : Bool) → Deletes b tt which f h.0 g → ReasonExplains (if b then None else Some (argument 2 rule.NotAPattern)) reply
    by which true s = inl (value-of (λ _. true_reply) h.0 tt reply refl s.0 h.2)
    by which false s = (badarg-of (λ _. true_reply) h.0 reply s.0 h.2, refl)

-- by whether the argument is a specification
selected : (b : Bool) (value : Reply) → is_value value ≡ true → ReasonExplains (if b then None else Some (argument 2 rule.NotASpecification)) (if b then value else Badarg)
selected true value v = inl v
selected false value v = (refl, refl)

pub select-explained : (spec : Term) (f : TableState) → ReasonExplains (why_select spec f.content) (select_reply spec f)
select-explained spec f = selected (is_spec (data_of spec)) (results_reply (filter_map (spec_result spec) (all_objects f.content.slots))) refl

pub select_count-explained : (spec : Term) (f : TableState) → ReasonExplains (why_select spec f.content) (select_count_reply spec f)
select_count-explained spec f = selected (is_spec (data_of spec)) (count_reply (chosen_count (is_chosen spec) (all_objects f.content.slots))) refl

pub select_delete-explained : (spec : Term) (f g : TableState) (reply : Reply) → SelectDelete spec f reply g → ReasonExplains (why_select spec f.content) reply
select_delete-explained spec f g reply h = by (λ _. is_chosen spec) (chosen_count (is_chosen spec) (all_objects f.content.slots)) (is_spec (data_of spec)) h.1
  where
    by : (which : Which) (count : ℕ) (b : Bool) → Deletes b count which f h.0 g → ReasonExplains (if b then None else Some (argument 2 rule.NotASpecification)) reply
    by which count true s = inl (value-of count_reply h.0 count reply refl s.0 h.2)
    by which count false s = (badarg-of count_reply h.0 reply s.0 h.2, refl)

-- ---- elements
-- no object has an element 0
zero-explained : (kind : Kind) (n : ℕ) (object : Term) (objects : List Term) → (n == 0) ≡ true → lookup_element kind n (object ∷ objects) ≡ None
zero-explained Set n object objects e = rw e refl
zero-explained Bag n object objects e = rw e refl
zero-explained DuplicateBag n object objects e = rw e refl

element-explained-of : (o : Option Term) → ReasonExplains (if is_some o then None else Some (argument 3 rule.NoElement)) (term_reply o)
element-explained-of None = (refl, refl)
element-explained-of (Some element) = inl refl

module _ (kind : Kind) (n : ℕ) where
  -- by whether the position is 0
  under : (object : Term) (objects : List Term) (missing : Option Reason) (b : Bool) → (n == 0) ≡ b
      → ReasonExplains (if b then Some (argument 3 rule.NotAPosition) else why_element_of_key missing kind n (object ∷ objects)) (term_reply (lookup_element kind n (object ∷ objects)))
  under object objects missing true e = (ap term_reply (zero-explained kind n object objects e), refl)
  under object objects missing false e = element-explained-of (lookup_element kind n (object ∷ objects))

  none-under : (b : Bool) → ReasonExplains (if b then Some (argument 3 rule.NotAPosition) else Some (argument 2 rule.NoKey)) Badarg
  none-under true = (refl, refl)
  none-under false = (refl, refl)

  default-under : (default : Term) (b : Bool) → ReasonExplains (if b then Some (argument 3 rule.NotAPosition) else None) (term_reply (if b then None else Some default))
  default-under default true = (refl, refl)
  default-under default false = inl refl

  element-explained-at : (objects : List Term) → ReasonExplains (why_element_at (Some (argument 2 rule.NoKey)) objects kind (Some n)) (term_reply (lookup_element kind n objects))
  element-explained-at [] = none-under (n == 0)
  element-explained-at (object ∷ objects) = under object objects (Some (argument 2 rule.NoKey)) (n == 0) refl

  or-at : (default : Term) (objects : List Term) → ReasonExplains (why_element_at None objects kind (Some n)) (term_reply (lookup_element_or kind n default objects))
  or-at default [] = default-under default (n == 0)
  or-at default (object ∷ objects) = under object objects None (n == 0) refl

pub element-explained : (key position : Term) (f : TableState) → ReasonExplains (why_lookup_element key position f.content) (lookup_element_reply key position f)
element-explained key position f = by (as_natural position)
  where
    by : (o : Option ℕ) → ReasonExplains (why_element_at (Some (argument 2 rule.NoKey)) (objects_under f.content.slots key) f.content.kind o) (term_reply (option_and_then (λ n. lookup_element f.content.kind n (objects_under f.content.slots key)) o))
    by None = (refl, refl)
    by (Some n) = element-explained-at f.content.kind n (objects_under f.content.slots key)

pub element-or-explained : (key position default : Term) (f : TableState) → ReasonExplains (why_lookup_element_or key position f.content) (lookup_element_or_reply key position default f)
element-or-explained key position default f = by (as_natural position)
  where
    by : (o : Option ℕ) → ReasonExplains (why_element_at None (objects_under f.content.slots key) f.content.kind o) (term_reply (option_and_then (λ n. lookup_element_or f.content.kind n default (objects_under f.content.slots key)) o))
    by None = (refl, refl)
    by (Some n) = or-at f.content.kind n default (objects_under f.content.slots key)
