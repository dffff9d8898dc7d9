-- The laws of each rule that changes a table: it does not see buckets, preserves the invariants of the table, and its reply takes no memory, but where a
-- call needs some. A new rule has one lemma here.
use Rattle.std.proofs.Common.{◌≡◌, ℕ, ◌==◌, Bool, true, false, Option, None, Some, Result, Ok, Err, refl, sym, subst, ap, ◌∙◌, true≢false}
use Rattle.std.specs.Prelude.{MatchOption}
use Rattle.ets_term.specs.declared.term.Term.{Term, out-Term}
use Rattle.ets_term.specs.Data.{data_of}
use Rattle.match_spec.specs.Specifications.{is_pattern, is_spec}
use Rattle.counters.specs.Ops.{ops_of}
use Rattle.counters.specs.Elements.{element_specs_of}
use Rattle.table_ops.specs.declared.refusal.Refusal.{Refusal}
use Rattle.table_ops.specs.declared.refusal.Refusal.TheVariants.{Badarg, SystemLimit, Memory}
use Rattle.table_ops.specs.Content.{Content, key_of}
use Rattle.table_ops.specs.Refusals.{RefinesChange}
use Rattle.table_ops.specs.Outcomes.{Change, gives}
use Rattle.table_ops.specs.Drop.{Which, has_key, every_object, equal_to, without_those, DeletesObject}
use Rattle.table_ops.specs.Put.{Inserts, InsertsNew}
use Rattle.table_ops.specs.Queries.{matches, is_chosen}
use Rattle.table_ops.specs.Results.{chosen_count}
use Rattle.table_ops.specs.Read.{all_objects}
use Rattle.table_ops.specs.Update.{UpdatesCounter, UpdatesElement}
use Rattle.fixed_walk.specs.declared.fault.FixFault.{FixFault}
use Rattle.fixed_walk.specs.declared.fault.FixFault.TheVariants as fault
use Rattle.fixed_walk.specs.Fixes.{is_fixed}
use Rattle.fixed_walk.specs.TableState.{TableState, on_content, after_delete}
use Rattle.fixed_walk.specs.laws.Kept.{AlwaysKeepsKeys}
use Rattle.fixed_walk.proofs.KeptLaws.{insert-keeps, insert_new-keeps, update_counter-keeps, update_element-keeps, delete_object-keeps}
use Rattle.node_core.specs.declared.step.Reply.{Reply}
use Rattle.node_core.specs.Observable.{observable_table_state}
use Rattle.node_core.specs.Access.{CallRule, ChangeResultToReply, replies}
use Rattle.node_core.specs.rules.Insertion.{objects_in, Insert, InsertNew}
use Rattle.node_core.specs.rules.Removal.{Take, Delete, DeleteObject, DeleteAllObjects}
use Rattle.node_core.specs.rules.Replies.{true_reply, truth_reply}
use Rattle.node_core.specs.rules.Searching.{Deletes, DeletesMatching, DeletesChosen, MatchDelete, SelectDelete, count_reply}
use Rattle.node_core.specs.rules.Updates.{Counts, WritesElements, UpdateCounter, UpdateElement}
use Rattle.node_core.specs.rules.Walking.{FixResultToReply, Fixes, Releases}
use Rattle.node_core.specs.inside.ReplyReserve.{is_flat}
use Rattle.node_core.proofs.moves.EndKeys.{StaysFree, unchanged-free, dropped-free, inserts-free, news-free, counter-free, element-free}
use Rattle.node_core.proofs.moves.Preserves.{Preserves, preserves-content, preserves-same, preserves-without, fixes-observable, fixes-preserves, released-observable, released-preserves}

-- what is shown of each rule, where `needs` says that its reply may take memory
pub record IsLawful (own : ℕ → Bool) (needs : Bool) (rule : CallRule) : Type 0 where
  pub unobservable : (old new : TableState) (reply : Reply) → rule old reply new → rule (observable_table_state old) reply (observable_table_state new)
  pub preserves : (old new : TableState) (reply : Reply) → rule old reply new → Preserves own old new
  pub flat : needs ≡ false → (old new : TableState) (reply : Reply) → rule old reply new → is_flat reply ≡ true

-- and of each change
record IsLawfulChange (own : ℕ → Bool) (X : Type 0) (change : TableState → Change X TableState) : Type 0 where
  unobservable : (old new : TableState) (r : Result X Refusal) → change old r new → change (observable_table_state old) r (observable_table_state new)
  preserves : (old new : TableState) (r : Result X Refusal) → RefinesChange (change old) old r new → Preserves own old new

-- a reply that needs memory is not one that takes none
pub contrary : {X : Type 0} {needs : Bool} → needs ≡ true → needs ≡ false → X
contrary needed n = absurd (true≢false (sym needed ∙ n))

-- ---- replies
pub true-flat : is_flat true_reply ≡ true
unfolding out-Term denote.Hole.Carrier.out
true-flat = refl

truth-flat : (b : Bool) → is_flat (truth_reply b) ≡ true
unfolding out-Term denote.Hole.Carrier.out
truth-flat true = refl
truth-flat false = refl

count-flat : (n : ℕ) → is_flat (count_reply n) ≡ true
unfolding out-Term denote.Hole.Carrier.out
count-flat n = refl

reply-flat : {X : Type 0} (answer : X → Reply) → ((x : X) → is_flat (answer x) ≡ true)
    → (r : Result X Refusal) (reply : Reply) → ChangeResultToReply answer r reply → is_flat reply ≡ true
reply-flat answer flat (Ok x) reply e = ap is_flat e ∙ flat x
reply-flat answer flat (Err Badarg) reply e = ap is_flat e
reply-flat answer flat (Err SystemLimit) reply e = ap is_flat e
reply-flat answer flat (Err Memory) reply e = absurd e

fix-flat : (r : Result (Unit {0}) FixFault) (reply : Reply) → FixResultToReply r reply → is_flat reply ≡ true
fix-flat (Ok done) reply e = ap is_flat e ∙ true-flat
fix-flat (Err fault.SystemLimit) reply e = ap is_flat e
fix-flat (Err fault.Memory) reply e = absurd e

-- ---- a change of the content
module _ {X : Type 0} (change : Content → Change X Content) where
  content-unobservable : (old new : TableState) (r : Result X Refusal) → on_content change old r new
      → on_content change (observable_table_state old) r (observable_table_state new)
  content-unobservable old new r h = (h.0, ap observable_table_state h.1)

  -- no slot gets the key '$end_of_table' by the change
  abbrev NeverEnds : Type 0
  NeverEnds = (old new : Content) (r : Result X Refusal) → change old r new → StaysFree old.slots new.slots

module _ (own : ℕ → Bool) where
  content-preserves : {X : Type 0} (change : Content → Change X Content) → AlwaysKeepsKeys (λ hold. change) → NeverEnds change
      → (old new : TableState) (r : Result X Refusal) → RefinesChange (on_content change old) old r new → Preserves own old new
  content-preserves change keeps never old new (Ok x) h =
      preserves-content own old new h.1 (keeps old new (Ok x) h) (never old.content new.content (Ok x) h.0)
  content-preserves change keeps never old new (Err Badarg) h =
      preserves-content own old new h.1 (keeps old new (Err Badarg) h) (never old.content new.content (Err Badarg) h.0)
  content-preserves change keeps never old new (Err SystemLimit) h =
      preserves-content own old new h.1 (keeps old new (Err SystemLimit) h) (never old.content new.content (Err SystemLimit) h.0)
  content-preserves change keeps never old new (Err Memory) h = preserves-same own old new h

  on-content : {X : Type 0} (change : Content → Change X Content) → AlwaysKeepsKeys (λ hold. change) → NeverEnds change
      → IsLawfulChange own X (on_content change)
  on-content change keeps never = record { unobservable = content-unobservable change; preserves = content-preserves change keeps never }

  gave-preserves : {X : Type 0} (answer : Result X Refusal) (after old new : TableState) (r : Result X Refusal)
      → Preserves own old after → RefinesChange (gives answer after) old r new → Preserves own old new
  gave-preserves answer after old new (Ok x) t h = subst (Preserves own old) (sym h.1) t
  gave-preserves answer after old new (Err Badarg) t h = subst (Preserves own old) (sym h.1) t
  gave-preserves answer after old new (Err SystemLimit) t h = subst (Preserves own old) (sym h.1) t
  gave-preserves answer after old new (Err Memory) t h = preserves-same own old new h

  -- what the argument says is done; badarg where it says nothing
  module _ {X Y : Type 0} (change : Y → TableState → Change X TableState) (lawful : (y : Y) → IsLawfulChange own X (change y)) where
    abbrev By : Option Y → TableState → Change X TableState
    By o old r new = MatchOption o (gives (Err Badarg) old r new) (λ y. change y old r new)

    by-unobservable : (o : Option Y) (old new : TableState) (r : Result X Refusal) → By o old r new
        → By o (observable_table_state old) r (observable_table_state new)
    by-unobservable None old new r h = (h.0, ap observable_table_state h.1)
    by-unobservable (Some y) old new r h = (lawful y).unobservable old new r h

    by-preserves : (o : Option Y) (old new : TableState) (r : Result X Refusal) → RefinesChange (By o old) old r new → Preserves own old new
    by-preserves None old new r h = gave-preserves (Err Badarg) old old new r (preserves-same own old old refl) h
    by-preserves (Some y) old new r h = (lawful y).preserves old new r h

  module _ (needs : Bool) where
    comes-of : {X : Type 0} (answer : X → Reply) (change : Change X TableState) (old new : TableState) (r : Result X Refusal) (reply : Reply)
        → change r new → ChangeResultToReply answer r reply → RefinesChange change old r new
    comes-of answer change old new (Ok x) reply h e = h
    comes-of answer change old new (Err Badarg) reply h e = h
    comes-of answer change old new (Err SystemLimit) reply h e = h
    comes-of answer change old new (Err Memory) reply h e = absurd e

    replied : {X : Type 0} (answer : X → Reply) (change : TableState → Change X TableState)
        → (needs ≡ false → (x : X) → is_flat (answer x) ≡ true) → IsLawfulChange own X change
        → IsLawful own needs (replies answer change)
    replied answer change flat lawful = record {
      unobservable = λ old new reply h. (h.0, lawful.unobservable old new h.0 h.1, h.2);
      preserves = λ old new reply h. lawful.preserves old new h.0 (comes-of answer (change old) old new h.0 reply h.1 h.2);
      flat = λ n old new reply h. reply-flat answer (flat n) h.0 reply h.2;
    }

    -- ---- insertion
    pub insert-lawful : (argument : Term) → IsLawful own needs (Insert argument)
    insert-lawful argument =
        replied _ (on_content (Inserts (objects_in argument))) (λ n x. true-flat)
        (on-content (Inserts (objects_in argument)) (insert-keeps (objects_in argument)) (inserts-free (objects_in argument)))

    pub insert_new-lawful : (argument : Term) → IsLawful own needs (InsertNew argument)
    insert_new-lawful argument =
        replied _ (on_content (InsertsNew (objects_in argument))) (λ n. truth-flat)
        (on-content (InsertsNew (objects_in argument)) (insert_new-keeps (objects_in argument)) (news-free (objects_in argument)))

    -- ---- removal
    -- these objects are removed, with this answer
    drops : (answer : TableState → Reply) (which : Which) → ((old : TableState) → answer (observable_table_state old) ≡ answer old)
        → (needs ≡ false → (old : TableState) → is_flat (answer old) ≡ true)
        → IsLawful own needs (λ old reply new. (reply ≡ answer old) × (new ≡ after_delete which old))
    drops answer which same flat = record {
      unobservable = λ old new reply h. (h.0 ∙ sym (same old), ap observable_table_state h.1);
      preserves = λ old new reply h. subst (Preserves own old) (sym h.1) (preserves-without own which old);
      flat = λ n old new reply h. ap is_flat h.0 ∙ flat n old;
    }

    pub take-lawful : needs ≡ true → (key : Term) → IsLawful own needs (Take key)
    take-lawful needed key = drops _ (has_key key) (λ old. refl) (λ n. contrary needed n)

    pub delete-lawful : (key : Term) → IsLawful own needs (Delete key)
    delete-lawful key = drops _ (has_key key) (λ old. refl) (λ n old. true-flat)

    pub delete_all-lawful : IsLawful own needs DeleteAllObjects
    delete_all-lawful = drops _ every_object (λ old. refl) (λ n old. true-flat)

    abbrev deletes : Term → TableState → Change (Unit {0}) TableState
    deletes object table = on_content (DeletesObject (is_fixed table.fixes) object) table

    -- every instance of the object is removed
    object-at : (hold : Bool) (o : Option Term) (object : Term) (old new : Content) (r : Result (Unit {0}) Refusal)
        → MatchOption o (gives (Err Badarg) old r new) (λ _. gives (Ok tt) (without_those hold (equal_to object) old) r new)
        → StaysFree old.slots new.slots
    object-at hold None object old new r h = unchanged-free old new h.1
    object-at hold (Some key) object old new r h =
        subst (λ (c : Content). StaysFree old.slots c.slots) (sym h.1) (dropped-free hold (equal_to object) old.slots)

    object-done : (object : Term) (old new : TableState) (r : Result (Unit {0}) Refusal) → deletes object old r new
        → Preserves own old new
    object-done object old new r h =
        preserves-content own old new h.1 (delete_object-keeps object old new r h)
        (object-at (is_fixed old.fixes) (key_of old.content.keypos object) object old.content new.content r h.0)

    object-preserves : (object : Term) (old new : TableState) (r : Result (Unit {0}) Refusal)
        → RefinesChange (deletes object old) old r new → Preserves own old new
    object-preserves object old new (Ok x) h = object-done object old new (Ok x) h
    object-preserves object old new (Err Badarg) h = object-done object old new (Err Badarg) h
    object-preserves object old new (Err SystemLimit) h = object-done object old new (Err SystemLimit) h
    object-preserves object old new (Err Memory) h = preserves-same own old new h

    pub delete_object-lawful : (object : Term) → IsLawful own needs (DeleteObject object)
    delete_object-lawful object =
        replied _ (deletes object) (λ n x. true-flat) (record { unobservable = λ old new r h. (h.0, ap observable_table_state h.1); preserves = object-preserves object })

    -- ---- searching
    deletes-unobservable : {X : Type 0} (good : Bool) (answer : X) (which : Which) (old new : TableState) (r : Result X Refusal)
        → Deletes good answer which old r new → Deletes good answer which (observable_table_state old) r (observable_table_state new)
    deletes-unobservable true answer which old new r h = (h.0, ap observable_table_state h.1)
    deletes-unobservable false answer which old new r h = (h.0, ap observable_table_state h.1)

    deletes-preserves : {X : Type 0} (good : Bool) (answer : X) (which : Which) (old new : TableState) (r : Result X Refusal)
        → RefinesChange (Deletes good answer which old) old r new → Preserves own old new
    deletes-preserves true answer which old new r h =
        gave-preserves (Ok answer) (after_delete which old) old new r (preserves-without own which old) h
    deletes-preserves false answer which old new r h = gave-preserves (Err Badarg) old old new r (preserves-same own old old refl) h

    pub match_delete-lawful : (pattern : Term) → IsLawful own needs (MatchDelete pattern)
    match_delete-lawful pattern = replied _ (DeletesMatching pattern) (λ n x. true-flat) (record {
      unobservable = deletes-unobservable (is_pattern (data_of pattern)) tt (λ _. matches pattern);
      preserves = deletes-preserves (is_pattern (data_of pattern)) tt (λ _. matches pattern);
    })

    pub select_delete-lawful : (spec : Term) → IsLawful own needs (SelectDelete spec)
    select_delete-lawful spec = replied _ (DeletesChosen spec) (λ n. count-flat) (record {
      unobservable =
          λ old. deletes-unobservable (is_spec (data_of spec)) (chosen_count (is_chosen spec) (all_objects old.content.slots)) (λ _. is_chosen spec) old;
      preserves =
          λ old. deletes-preserves (is_spec (data_of spec)) (chosen_count (is_chosen spec) (all_objects old.content.slots)) (λ _. is_chosen spec) old;
    })

    -- ---- updates
    pub update_counter-lawful : needs ≡ true → (key updates : Term) (default : Option Term)
        → IsLawful own needs (UpdateCounter key updates default)
    update_counter-lawful needed key updates default =
        replied _ (Counts key updates default) (λ n. contrary needed n) (record {
          unobservable =
              λ old. by-unobservable (λ ops. on_content (UpdatesCounter key ops default)) lawful (ops_of old.content.keypos updates) old;
          preserves =
              λ old. by-preserves (λ ops. on_content (UpdatesCounter key ops default)) lawful (ops_of old.content.keypos updates) old;
        })
      where
        lawful : (ops : _) → IsLawfulChange own Term (on_content (UpdatesCounter key ops default))
        lawful ops =
            on-content (UpdatesCounter key ops default) (update_counter-keeps key ops default) (counter-free key ops default)

    pub update_element-lawful : (key updates : Term) (default : Option Term)
        → IsLawful own needs (UpdateElement key updates default)
    update_element-lawful key updates default = replied _ (WritesElements key updates default) (λ n. truth-flat) (record {
      unobservable =
          λ old. by-unobservable (λ specs. on_content (UpdatesElement key specs default)) lawful (element_specs_of old.content.keypos updates) old;
      preserves =
          λ old. by-preserves (λ specs. on_content (UpdatesElement key specs default)) lawful (element_specs_of old.content.keypos updates) old;
    })
      where
        lawful : (specs : _) → IsLawfulChange own Bool (on_content (UpdatesElement key specs default))
        lawful specs =
            on-content (UpdatesElement key specs default) (update_element-keeps key specs default) (element-free key specs default)

-- ---- fixes
module _ (p : ℕ) (needs : Bool) where
  pub fixes-lawful : IsLawful (λ w. p == w) needs (Fixes p)
  fixes-lawful = record {
    unobservable = λ old new reply h. (h.0, fixes-observable p old new h.0 h.1, h.2);
    preserves = λ old new reply h. fixes-preserves p old new h.0 h.1;
    flat = λ n old new reply h. fix-flat h.0 reply h.2;
  }

  pub releases-lawful : IsLawful (λ w. p == w) needs (Releases p)
  releases-lawful = record {
    unobservable = λ old new reply h. (h.0, ap observable_table_state h.1 ∙ sym (released-observable p old));
    preserves = λ old new reply h. subst (Preserves (λ w. p == w) old) (sym h.1) (released-preserves p old);
    flat = λ n old new reply h. ap is_flat h.0 ∙ true-flat;
  }
