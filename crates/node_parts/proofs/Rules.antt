-- The rules of calls on keys: what a rule does to the table of a part, it does to the whole table.
use Rattle.std.proofs.Common.{◌≡◌, ◌⊎◌, inl, inr, Option, None, Some, option_and_then, Result, Err, refl, sym, ap, subst, ◌∙◌}
use Rattle.ets_term.specs.declared.term.Term.{Term}
use Rattle.ets_term.specs.Views.{as_natural}
use Rattle.counters.specs.Ops.{ops_of}
use Rattle.counters.specs.Elements.{element_specs_of}
use Rattle.table_ops.specs.declared.refusal.Refusal.{Refusal}
use Rattle.table_ops.specs.declared.refusal.Refusal.TheVariants as refusal
use Rattle.table_ops.specs.Content.{Content, key_of, objects_under}
use Rattle.table_ops.specs.Drop.{DeletesObject, has_key}
use Rattle.table_ops.specs.Invariants.{AreSlots}
use Rattle.table_ops.specs.Outcomes.{Change, refuse_none}
use Rattle.table_ops.specs.Put.{Inserts, InsertsNew}
use Rattle.table_ops.specs.Read.{lookup_element, lookup_element_or}
use Rattle.table_ops.specs.Update.{UpdatesCounter, UpdatesElement}
use Rattle.fixed_walk.specs.Fixes.{is_fixed}
use Rattle.fixed_walk.specs.TableState.{TableState, on_content, after_delete}
use Rattle.node_core.specs.declared.step.Reply.{Reply}
use Rattle.node_core.specs.declared.step.Reply.TheVariants.{Value, SystemLimit}
use Rattle.node_core.specs.Access.{CallRule, ChangeResultToReply, replies}
use Rattle.node_core.specs.rules.Insertion.{objects_in, Insert, InsertNew}
use Rattle.node_core.specs.rules.Reading.{lookup_reply, member_reply, lookup_element_reply, lookup_element_or_reply}
use Rattle.node_core.specs.rules.Removal.{Take, Delete, DeleteObject}
use Rattle.node_core.specs.rules.Replies.{true_reply, truth_reply, list_reply, term_reply}
use Rattle.node_core.specs.rules.Updates.{Counts, WritesElements, UpdateCounter, UpdateElement}
use Rattle.node_parts.proofs.Around.{under-around, present-around}
use Rattle.node_parts.proofs.AroundContents.{Rest, StaysMine, stays-itself, around_content, HasRoom, HasAllRoom, IsMine, AreMine, Mirrors, inserts-mirrors, news-mirrors, counter-mirrors, element-mirrors, dropped-stays, key-dropped, object-mirrors}

module _ (rest : Rest) where
  -- the whole table
  abbrev pub around_state : TableState → TableState
  around_state f = record f { content = around_content rest f.content }

  -- only the slots of the table change, and all keys still belong to this part
  pub record StaysTable (old new : TableState) : Type 0 where
    pub content_only : new ≡ record old { content = new.content }
    pub content : StaysMine rest.Belongs old.content new.content

  stays-table : (old : TableState) → StaysTable old old
  stays-table old = record { content_only = refl; content = stays-itself rest.Belongs old.content }

  -- the same as `Mirrors`, for a table
  pub record MirrorsTable {X : Type 0} (old : TableState) (one other : Change X TableState) : Type 0 where
    pub at :
        (r : Result X Refusal) (new : TableState) → one r new
        → StaysTable old new × (HasRoom rest new.content → ((r ≡ Err refusal.SystemLimit) × (HasAllRoom rest old.content → ⊥)) ⊎ other r (around_state new))

  -- and for the rule of a call
  pub record MirrorsRule (rule : CallRule) (old : TableState) : Type 0 where
    pub at :
        (reply : Reply) (new : TableState) → rule old reply new
        → StaysTable old new × (HasRoom rest new.content → ((reply ≡ SystemLimit) × (HasAllRoom rest old.content → ⊥)) ⊎ rule (around_state old) reply (around_state new))

  module _ {X : Type 0} where
    content-mirrors : (change : Content → Change X Content) (old : TableState)
        → Mirrors rest old.content (change old.content) (change (around_content rest old.content))
        → MirrorsTable old (on_content change old) (on_content change (around_state old))
    content-mirrors change old m = record { at = λ r new h. let both = m.at r new.content h.0 in (record { content_only = h.1; content = both.0 }, λ room. by r new h.1 (both.1 room)) }
      where
        by : (r : Result X Refusal) (new : TableState) → new ≡ record old { content = new.content }
            → ((r ≡ Err refusal.SystemLimit) × (HasAllRoom rest old.content → ⊥)) ⊎ change (around_content rest old.content) r (around_content rest new.content)
            → ((r ≡ Err refusal.SystemLimit) × (HasAllRoom rest old.content → ⊥)) ⊎ on_content change (around_state old) r (around_state new)
        by r new e (inl k) = inl k
        by r new e (inr k) = inr (k, ap around_state e)

    -- the change that an argument gives; badarg if it gives none
    argument-mirrors : {Y : Type 0} (old : TableState) (o : Option Y) (change : Y → TableState → Change X TableState)
        → ((y : Y) → MirrorsTable old (change y old) (change y (around_state old)))
        → MirrorsTable old (refuse_none old o (Err refusal.Badarg) (λ y. change y old)) (refuse_none (around_state old) o (Err refusal.Badarg) (λ y. change y (around_state old)))
    argument-mirrors old None change m = record { at = λ r new h. (subst (StaysTable old) (sym h.1) (stays-table old), λ room. inr (h.0, ap around_state h.1)) }
    argument-mirrors old (Some y) change m = m y

    replied-mirrors : (answer : X → Reply) (change : TableState → Change X TableState) (old : TableState) → MirrorsTable old (change old) (change (around_state old))
        → MirrorsRule (replies answer change) old
    replied-mirrors answer change old m = record { at = λ reply new h. let both = m.at h.0 new h.1 in (both.0, λ room. by h.0 reply new h.2 (both.1 room)) }
      where
        by : (r : Result X Refusal) (reply : Reply) (new : TableState) → ChangeResultToReply answer r reply
            → ((r ≡ Err refusal.SystemLimit) × (HasAllRoom rest old.content → ⊥)) ⊎ change (around_state old) r (around_state new)
            → ((reply ≡ SystemLimit) × (HasAllRoom rest old.content → ⊥)) ⊎ replies answer change (around_state old) reply (around_state new)
        by r reply new k (inl e) = inl (subst (λ (x : Result X Refusal). ChangeResultToReply answer x reply) e.0 k, e.1)
        by r reply new k (inr c) = inr (r, c, k)

  -- ---- insertion
  pub insert-mirrors : (argument : Term) (old : TableState) → AreMine rest old.content.keypos (objects_in argument) → MirrorsRule (Insert argument) old
  insert-mirrors argument old mine =
      replied-mirrors (λ _. true_reply) (on_content (Inserts (objects_in argument))) old
      (content-mirrors (Inserts (objects_in argument)) old (inserts-mirrors rest (objects_in argument) old.content mine))

  pub insert_new-mirrors : (argument : Term) (old : TableState) → AreMine rest old.content.keypos (objects_in argument) → MirrorsRule (InsertNew argument) old
  insert_new-mirrors argument old mine =
      replied-mirrors truth_reply (on_content (InsertsNew (objects_in argument))) old
      (content-mirrors (InsertsNew (objects_in argument)) old (news-mirrors rest (objects_in argument) old.content mine))

  -- ---- updates and removal
  module _ (key : Term) (mine : IsMine rest key) where
    pub update_counter-mirrors : (updates : Term) (default : Option Term) (old : TableState) → MirrorsRule (UpdateCounter key updates default) old
    update_counter-mirrors updates default old =
        replied-mirrors Value (Counts key updates default) old
        (argument-mirrors old (ops_of old.content.keypos updates) (λ ops. on_content (UpdatesCounter key ops default)) (λ ops.
        content-mirrors (UpdatesCounter key ops default) old (counter-mirrors rest key mine default old.content ops)))

    pub update_element-mirrors : (updates : Term) (default : Option Term) (old : TableState) → MirrorsRule (UpdateElement key updates default) old
    update_element-mirrors updates default old =
        replied-mirrors truth_reply (WritesElements key updates default) old
        (argument-mirrors old (element_specs_of old.content.keypos updates) (λ specs. on_content (UpdatesElement key specs default)) (λ specs.
        content-mirrors (UpdatesElement key specs default) old (element-mirrors rest key mine default old.content specs)))

    deleted-stays : (old : TableState) → StaysTable old (after_delete (has_key key) old)
    deleted-stays old = record { content_only = refl; content = dropped-stays rest (is_fixed old.fixes) (has_key key) old.content }

    deleted-around : (old : TableState) → around_state (after_delete (has_key key) old) ≡ after_delete (has_key key) (around_state old)
    deleted-around old = ap (λ (c : Content). record old { content = c }) (sym (key-dropped rest (is_fixed old.fixes) key mine old.content))

    -- the objects of the key go, with this answer
    gone-mirrors : (answer : TableState → Reply) (old : TableState) → answer (around_state old) ≡ answer old
        → MirrorsRule (λ f reply new. (reply ≡ answer f) × (new ≡ after_delete (has_key key) f)) old
    gone-mirrors answer old same = record {
      at = λ reply new h.
          (subst (StaysTable old) (sym h.1) (deleted-stays old), λ room. inr (h.0 ∙ sym same, ap around_state h.1 ∙ deleted-around old));
    }

    pub delete-mirrors : (old : TableState) → MirrorsRule (Delete key) old
    delete-mirrors old = gone-mirrors (λ f. true_reply) old refl

    -- ---- reading
    under : (f : TableState) → objects_under (around_state f).content.slots key ≡ objects_under f.content.slots key
    under f = under-around rest.front rest.back key mine.apart f.content.slots

    pub lookup-same : (f : TableState) → lookup_reply key (around_state f) ≡ lookup_reply key f
    lookup-same f = ap list_reply (under f)

    pub member-same : (f : TableState) → member_reply key (around_state f) ≡ member_reply key f
    member-same f = ap truth_reply (present-around rest.front rest.back key mine.apart f.content.slots)

    pub element-same : (position : Term) (f : TableState) → lookup_element_reply key position (around_state f) ≡ lookup_element_reply key position f
    element-same position f = ap (λ os. term_reply (option_and_then (λ n. lookup_element f.content.kind n os) (as_natural position))) (under f)

    pub element_or-same : (position default : Term) (f : TableState) → lookup_element_or_reply key position default (around_state f) ≡ lookup_element_or_reply key position default f
    element_or-same position default f = ap (λ os. term_reply (option_and_then (λ n. lookup_element_or f.content.kind n default os) (as_natural position))) (under f)

    pub take-mirrors : (old : TableState) → MirrorsRule (Take key) old
    take-mirrors old = gone-mirrors (λ f. list_reply (objects_under f.content.slots key)) old (lookup-same old)

  pub delete_object-mirrors : (object : Term) (old : TableState) → AreSlots old.content.kind old.content.keypos rest.front → AreSlots old.content.kind old.content.keypos rest.back
      → ((key : Term) → key_of old.content.keypos object ≡ Some key → IsMine rest key) → MirrorsRule (DeleteObject object) old
  delete_object-mirrors object old before behind mine =
      replied-mirrors (λ _. true_reply) (λ table. on_content (DeletesObject (is_fixed table.fixes) object) table) old
      (content-mirrors (DeletesObject (is_fixed old.fixes) object) old (object-mirrors rest (is_fixed old.fixes) object old.content before behind mine))
