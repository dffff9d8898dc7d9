-- Each rule of a call has one reply, and one table after it but for the order of slots.
use Rattle.std.proofs.Common.{◌≡◌, ℕ, ◌-◌, Bool, true, false, not, cond, List, Option, Result, Ok, Err, refl, sym, ap, subst, subst₂, ◌∙◌, length, filter, arith}
use Rattle.ets_term.specs.declared.term.Term.{Term}
use Rattle.ets_term.specs.Data.{data_of}
use Rattle.bucket_table.specs.Slots.{Slot, without_tombstones}
use Rattle.bucket_table.specs.Rows.{HasDistinctKeys}
use Rattle.counters.specs.Ops.{ops_of}
use Rattle.counters.specs.Elements.{element_specs_of}
use Rattle.match_spec.specs.Specifications.{is_pattern, is_spec}
use Rattle.table_ops.specs.declared.refusal.Refusal.TheVariants as refusal
use Rattle.table_ops.specs.Content.{objects_under}
use Rattle.table_ops.specs.Drop.{Which, has_key, every_object, DeletesObject}
use Rattle.table_ops.specs.Outcomes.{Change, gives, refuse_none}
use Rattle.table_ops.specs.Put.{Inserts, InsertsNew}
use Rattle.table_ops.specs.Queries.{matches, is_chosen, chosen_in}
use Rattle.table_ops.specs.Read.{all_objects}
use Rattle.table_ops.specs.Update.{UpdatesCounter, UpdatesElement}
use Rattle.fixed_walk.specs.declared.fault.FixFault.{FixFault}
use Rattle.fixed_walk.specs.declared.fault.FixFault.TheVariants as fix
use Rattle.fixed_walk.specs.Fixes.{fix_count, is_fixed, with_count}
use Rattle.fixed_walk.specs.TableState.{TableState, on_content, after_delete, after_release, after_release_all, without_tombstones_if_unfixed, IncrementsFix}
use Rattle.node_core.specs.declared.step.Reply.{Reply}
use Rattle.node_core.specs.declared.step.Reply.TheVariants.{Value}
use Rattle.node_core.specs.rules.Insertion.{objects_in, Insert, InsertNew}
use Rattle.node_core.specs.rules.Removal.{Take, Delete, DeleteObject, DeleteAllObjects}
use Rattle.node_core.specs.rules.Replies.{true_reply, truth_reply, list_reply}
use Rattle.node_core.specs.rules.Searching.{Deletes, DeletesMatching, DeletesChosen, MatchDelete, SelectDelete, count_reply}
use Rattle.node_core.specs.rules.Updates.{Counts, WritesElements, UpdateCounter, UpdateElement}
use Rattle.node_core.specs.rules.Walking.{FixResultToReply, Fixes, Releases}
use Rattle.node_core.proofs.determined.Shuffles.{filter-shuffled, length-shuffled}
use Rattle.node_core.proofs.determined.Slots.{SameSlots, objects-shuffled, under-same, dropped-same, without_tombstones-same}
use Rattle.node_core.proofs.determined.Alike.{Alike, state_with}
use Rattle.node_core.proofs.determined.Unique.{Unique, Same, gives-unique, refuse-unique, refuse_none-unique, UniqueRule, UniqueChange, replies-unique, content-unique}
use Rattle.node_core.proofs.determined.UniqueContents.{inserts-unique, news-unique, counter-unique, element-unique, object-unique}

-- it is enough to show a thing of a table with other slots
pub by-slots : (P : TableState → TableState → Type 0) → ((f : TableState) (ss : List Slot) → SameSlots f.content.slots ss → HasDistinctKeys f.content.slots → P f (state_with f ss))
    → (f g : TableState) → Alike f g → HasDistinctKeys f.content.slots → P f g
by-slots P all f g alike d = subst (P f) (sym alike.rest) (all f g.content.slots alike.slots d)

-- ---- fixes are released
purged-at : (b : Bool) (f : TableState) (ss : List Slot) → SameSlots f.content.slots ss
    → Alike (cond b f (state_with f (without_tombstones f.content.slots))) (cond b (state_with f ss) (state_with f (without_tombstones ss)))
purged-at true f ss h = record { slots = h; rest = refl }
purged-at false f ss h = record { slots = without_tombstones-same f.content.slots ss h; rest = refl }

-- with this number of fixes of a process
module _ (p : ℕ) (n : TableState → ℕ) (same : (f : TableState) (ss : List Slot) → n (state_with f ss) ≡ n f) where
  abbrev freed : TableState → TableState
  freed f = without_tombstones_if_unfixed (record f { fixes = with_count f.fixes p (n f) })

  freed-at : (f : TableState) (ss : List Slot) → SameSlots f.content.slots ss → Alike (freed f) (freed (state_with f ss))
  freed-at f ss h =
      subst (λ (k : ℕ). Alike (freed f) (without_tombstones_if_unfixed (record (state_with f ss) { fixes = with_count f.fixes p k }))) (sym (same f ss))
      (purged-at (is_fixed (with_count f.fixes p (n f))) (record f { fixes = with_count f.fixes p (n f) }) ss h)

pub released-alike : (p : ℕ) (f : TableState) (ss : List Slot) → SameSlots f.content.slots ss → Alike (after_release p f) (after_release p (state_with f ss))
released-alike p f ss h = freed-at p (λ f. fix_count f.fixes p - 1) (λ f ss. refl) f ss h

pub all_released-alike : (p : ℕ) (f g : TableState) → Alike f g → Alike (after_release_all p f) (after_release_all p g)
all_released-alike p f g alike =
    subst (λ (x : TableState). Alike (after_release_all p f) (after_release_all p x)) (sym alike.rest) (freed-at p (λ f. 0) (λ f ss. refl) f g.content.slots alike.slots)

-- ---- rules that give a value
gives-rule : (answer : TableState → Reply) (after : TableState → TableState)
    → ((f : TableState) (ss : List Slot) → SameSlots f.content.slots ss → HasDistinctKeys f.content.slots → answer f ≡ answer (state_with f ss))
    → ((f : TableState) (ss : List Slot) → SameSlots f.content.slots ss → Alike (after f) (after (state_with f ss))) → UniqueRule (λ f. gives (answer f) (after f))
gives-rule answer after same alike =
    by-slots (λ f g. Unique Same Alike (gives (answer f) (after f)) (gives (answer g) (after g))) (λ f ss h d.
    gives-unique Same Alike (answer f) (answer (state_with f ss)) (after f) (after (state_with f ss)) (same f ss h d) (alike f ss h))

deleted-alike : (which : Which) (f : TableState) (ss : List Slot) → SameSlots f.content.slots ss → Alike (after_delete which f) (after_delete which (state_with f ss))
deleted-alike which f ss h = record { slots = dropped-same (is_fixed f.fixes) which f.content.slots ss h; rest = refl }

pub take-unique : (key : Term) → UniqueRule (Take key)
take-unique key =
    gives-rule (λ f. list_reply (objects_under f.content.slots key)) (after_delete (has_key key)) (λ f ss h d. ap list_reply (under-same f.content.slots ss h d key)) (deleted-alike (has_key key))

pub delete-unique : (key : Term) → UniqueRule (Delete key)
delete-unique key = gives-rule (λ f. true_reply) (after_delete (has_key key)) (λ f ss h d. refl) (deleted-alike (has_key key))

pub delete_all-unique : UniqueRule DeleteAllObjects
delete_all-unique = gives-rule (λ f. true_reply) (after_delete every_object) (λ f ss h d. refl) (deleted-alike every_object)

pub releases-unique : (p : ℕ) → UniqueRule (Releases p)
releases-unique p = gives-rule (λ f. true_reply) (after_release p) (λ f ss h d. refl) (released-alike p)

-- ---- changes
pub insert-unique : (argument : Term) → UniqueRule (Insert argument)
insert-unique argument = replies-unique (λ _. true_reply) (on_content (Inserts (objects_in argument))) (content-unique (Inserts (objects_in argument)) (inserts-unique (objects_in argument)))

pub insert_new-unique : (argument : Term) → UniqueRule (InsertNew argument)
insert_new-unique argument = replies-unique truth_reply (on_content (InsertsNew (objects_in argument))) (content-unique (InsertsNew (objects_in argument)) (news-unique (objects_in argument)))

pub delete_object-unique : (object : Term) → UniqueRule (DeleteObject object)
delete_object-unique object =
    replies-unique (λ _. true_reply) (λ table. on_content (DeletesObject (is_fixed table.fixes) object) table) (λ f g alike d.
    subst (λ (hold : Bool). Unique Same Alike (on_content (DeletesObject (is_fixed f.fixes) object) f) (on_content (DeletesObject hold object) g)) (sym (ap (λ (x : TableState). is_fixed x.fixes) alike.rest))
    (content-unique (DeletesObject (is_fixed f.fixes) object) (object-unique (is_fixed f.fixes) object) f g alike d))

deletes-unique : {X : Type 0} (good : Bool) (answer : X) (which : Which) (f : TableState) (ss : List Slot) → SameSlots f.content.slots ss
    → Unique Same Alike (Deletes good answer which f) (Deletes good answer which (state_with f ss))
deletes-unique good answer which f ss h =
    refuse-unique Same Alike f (state_with f ss) (record { slots = h; rest = refl }) (Err refusal.Badarg) refl (not good)
    (gives-unique Same Alike (Ok answer) (Ok answer) (after_delete which f) (after_delete which (state_with f ss)) refl (deleted-alike which f ss h))

pub match_delete-unique : (pattern : Term) → UniqueRule (MatchDelete pattern)
match_delete-unique pattern =
    replies-unique (λ _. true_reply) (DeletesMatching pattern)
    (by-slots (λ f g. Unique Same Alike (DeletesMatching pattern f) (DeletesMatching pattern g)) (λ f ss h d. deletes-unique (is_pattern (data_of pattern)) tt (λ _. matches pattern) f ss h))

pub chosen-same : (choose : Term → Bool) (xs ys : List Slot) → SameSlots xs ys → length (filter choose (all_objects xs)) ≡ length (filter choose (all_objects ys))
chosen-same choose xs ys h = length-shuffled _ _ (filter-shuffled choose _ _ (objects-shuffled xs ys h))

pub select_delete-unique : (spec : Term) → UniqueRule (SelectDelete spec)
select_delete-unique spec =
    replies-unique count_reply (DeletesChosen spec)
    (by-slots (λ f g. Unique Same Alike (DeletesChosen spec f) (DeletesChosen spec g)) (λ f ss h d.
    subst (λ (n : ℕ). Unique Same Alike (DeletesChosen spec f) (Deletes (is_spec (data_of spec)) n (λ _. is_chosen spec) (state_with f ss))) (chosen-same (is_chosen spec) f.content.slots ss h)
    (deletes-unique (is_spec (data_of spec)) (chosen_in (is_chosen spec) f.content) (λ _. is_chosen spec) f ss h)))

-- the change that an argument gives, if it gives one
by-argument : {X Y : Type 0} (read : ℕ → Option Y) (change : Y → TableState → Change X TableState) → ((y : Y) → UniqueChange (change y))
    → UniqueChange (λ f. refuse_none f (read f.content.keypos) (Err refusal.Badarg) (λ y. change y f))
by-argument read change unique =
    by-slots (λ f g. Unique Same Alike (refuse_none f (read f.content.keypos) (Err refusal.Badarg) (λ y. change y f)) (refuse_none g (read g.content.keypos) (Err refusal.Badarg) (λ y. change y g))) (λ f ss h d.
    let alike : Alike f (state_with f ss) = record { slots = h; rest = refl } in
    refuse_none-unique Same Alike f (state_with f ss) alike (Err refusal.Badarg) refl (read f.content.keypos) (λ y. unique y f (state_with f ss) alike d))

pub update_counter-unique : (key updates : Term) (default : Option Term) → UniqueRule (UpdateCounter key updates default)
update_counter-unique key updates default =
    replies-unique Value (Counts key updates default)
    (by-argument (λ keypos. ops_of keypos updates) (λ ops. on_content (UpdatesCounter key ops default)) (λ ops. content-unique (UpdatesCounter key ops default) (counter-unique key ops default)))

pub update_element-unique : (key updates : Term) (default : Option Term) → UniqueRule (UpdateElement key updates default)
update_element-unique key updates default =
    replies-unique truth_reply (WritesElements key updates default)
    (by-argument (λ keypos. element_specs_of keypos updates) (λ specs. on_content (UpdatesElement key specs default)) (λ specs. content-unique (UpdatesElement key specs default) (element-unique key specs default)))

-- ---- fixes
fixed-at : (p : ℕ) (f : TableState) (ss : List Slot) → SameSlots f.content.slots ss → (x y : Result (Unit {0}) FixFault) (r q : Reply) (new next : TableState)
    → IncrementsFix p f x new → FixResultToReply x r → IncrementsFix p (state_with f ss) y next → FixResultToReply y q → (r ≡ q) × Alike new next
fixed-at p f ss h (Ok a) (Ok b) r q new next i e j k = (e ∙ sym k, subst₂ Alike (sym i.1) (sym j.1) (record { slots = h; rest = refl }))
fixed-at p f ss h (Err fix.SystemLimit) (Err fix.SystemLimit) r q new next i e j k = (e ∙ sym k, subst₂ Alike (sym i.1) (sym j.1) (record { slots = h; rest = refl }))
fixed-at p f ss h (Ok a) (Err fix.SystemLimit) r q new next i e j k = let below = i.0 in let most = j.0 in absurd (omega (arith, below, most))
fixed-at p f ss h (Err fix.SystemLimit) (Ok b) r q new next i e j k = let below = j.0 in let most = i.0 in absurd (omega (arith, below, most))
fixed-at p f ss h (Err fix.Memory) y r q new next i e j k = absurd e
fixed-at p f ss h (Ok a) (Err fix.Memory) r q new next i e j k = absurd k
fixed-at p f ss h (Err fix.SystemLimit) (Err fix.Memory) r q new next i e j k = absurd k

pub fixes-unique : (p : ℕ) → UniqueRule (Fixes p)
fixes-unique p =
    by-slots (λ f g. Unique Same Alike (Fixes p f) (Fixes p g)) (λ f ss h d r q new next i j.
    fixed-at p f ss h i.0 j.0 r q new next i.1 i.2 j.1 j.2)
