-- Calls keep keys distinct, and the keys of a fixed table in order.
use Rattle.std.proofs.Common.{◌≡◌, inl, ℕ, ◌-◌, Bool, true, false, ◌||◌, not, cond, List, [], ◌∷◌, ◌++◌, Option, None, Some, refl, sym, subst, ap, ◌∙◌, true≢false}
use Rattle.std.specs.Prelude.{MatchOption, Ok, Err, Result}
use Rattle.std.specs.List.{IsDistinct}
use Rattle.std.specs.Map.{keys_of}
use Rattle.std.proofs.lemmas.Map.{keys-set_value}
use Rattle.ets_term.specs.declared.term.Term.{Term}
use Rattle.ets_term.specs.Order.{same}
use Rattle.bucket_table.specs.Slots.{Slot, objects_of, has_objects, with_objects, Enters, without_tombstones}
use Rattle.bucket_table.specs.Rows.{HasDistinctKeys}
use Rattle.bucket_table.proofs.slots.Distinct.{distinct-added}
use Rattle.counters.specs.declared.elements.ElementSpecs.{ElementSpecs}
use Rattle.counters.specs.declared.ops.Ops.{Ops}
use Rattle.table_ops.specs.declared.refusal.Refusal.{Refusal}
use Rattle.table_ops.specs.declared.refusal.Refusal.TheVariants.{Badarg, SystemLimit, Memory}
use Rattle.table_ops.specs.Content.{Content, key_of}
use Rattle.table_ops.specs.Put.{Inserts, InsertsNew}
use Rattle.table_ops.specs.Drop.{Which, objects_left, after_drop, without_those, equal_to, DeletesObject}
use Rattle.table_ops.specs.Outcomes.{Change, gives}
use Rattle.table_ops.specs.Update.{UpdatesCounter, UpdatesElement}
use Rattle.fixed_walk.specs.declared.fault.FixFault.{FixFault}
use Rattle.fixed_walk.specs.declared.fault.FixFault.TheVariants.{SystemLimit as FixLimit, Memory as FixMemory}
use Rattle.fixed_walk.specs.Fixes.{FixCounts, is_fixed, with_count, fix_count}
use Rattle.fixed_walk.specs.TableState.{TableState, on_content, IncrementsFix, after_release, after_release_all}
use Rattle.fixed_walk.specs.laws.Kept.{IsSubsequence, KeepsKeys, AlwaysKeepsKeys}
use Rattle.fixed_walk.proofs.Subsequences.{sub-same, sub-on, sub-further, sub-distinct}
use Rattle.fixed_walk.proofs.ChangeLaws.{Keeping, is_end, unchanged, inserts-keep, news-keep, counter-keeps, element-keeps}

-- the old slots are among the new ones, in the same order
abbrev pub KeysStay : List Slot → List Slot → Type 0
KeysStay old new = IsSubsequence (keys_of old) (keys_of new)

pub equal-keys : (old new : List Slot) → keys_of new ≡ keys_of old → KeysStay old new
equal-keys old new e = subst (IsSubsequence (keys_of old)) (sym e) (sub-same (keys_of old))

between : (front back : List Slot) (s : Slot) → KeysStay (front ++ back) (front ++ s ∷ back)
between [] back s = sub-on (keys_of back) (keys_of back) s.0 (sub-same (keys_of back))
between (f ∷ front) back s = inl (refl, between front back s)

enters-stay : (old new : List Slot) (key : Term) (os : List Term) → is_end key ≡ false → has_objects os ≡ true → objects_of old key ≡ None → Enters old key os new → KeysStay old new
enters-stay old new key os own h absent w = subst (KeysStay old) (sym w.after) (subst (λ (zs : List Slot). KeysStay zs (w.front ++ (key, os) ∷ w.back)) (sym w.before) (between w.front w.back (key, os)))

pub keeping : Keeping KeysStay
keeping = record {
  staying = λ slots. sub-same (keys_of slots);
  further = λ slots next last s t. sub-further (keys_of slots) (keys_of next) (keys_of last) s t;
  enters = enters-stay;
  filled = λ old key os h. equal-keys old (with_objects old key os) (keys-set_value (same key) old os);
}

-- a deletion that leaves tombstones keeps the slot of each key
pub tombstones-keep-keys : (which : Which) (slots : List Slot) → keys_of (after_drop true which slots) ≡ keys_of slots
tombstones-keep-keys which [] = refl
tombstones-keep-keys which (s ∷ ss) = ap (λ (ks : List Term). s.0 ∷ ks) (tombstones-keep-keys which ss)

pub dropped-stay : (hold : Bool) (which : Which) (slots : List Slot) → hold ≡ true → KeysStay slots (after_drop hold which slots)
dropped-stay true which slots e = equal-keys slots (after_drop true which slots) (tombstones-keep-keys which slots)
dropped-stay false which slots e = absurd (true≢false (sym e))

-- ---- no key has two slots
abbrev pub StayApart : List Slot → List Slot → Type 0
StayApart old new = HasDistinctKeys old → HasDistinctKeys new

pub apart : Keeping StayApart
apart = record {
  staying = λ slots d. d;
  further = λ slots next last p q d. q (p d);
  enters = λ old new key os own h absent w d. distinct-added old new key os w absent d;
  filled = λ old key os h d. subst (IsDistinct same) (sym (keys-set_value (same key) old os)) d;
}

one-fewer : (b : Bool) (s new : Slot) (ss rest : List Slot) → new.0 ≡ s.0 → KeysStay rest ss → KeysStay (cond b (new ∷ rest) rest) (s ∷ ss)
one-fewer true s new ss rest e k = inl (e, k)
one-fewer false s new ss rest e k = sub-on (keys_of rest) (keys_of ss) s.0 k

dropped-among : (hold : Bool) (which : Which) (slots : List Slot) → KeysStay (after_drop hold which slots) slots
dropped-among hold which [] = tt
dropped-among hold which (s ∷ ss) = one-fewer (hold || has_objects (objects_left which s) || not (has_objects s.1)) s (s.0, objects_left which s) ss (after_drop hold which ss) refl (dropped-among hold which ss)

without_tombstones-among : (slots : List Slot) → KeysStay (without_tombstones slots) slots
without_tombstones-among [] = tt
without_tombstones-among (s ∷ ss) = one-fewer (has_objects s.1) s s ss (without_tombstones ss) refl (without_tombstones-among ss)

dropped-apart : (hold : Bool) (which : Which) (slots : List Slot) → StayApart slots (after_drop hold which slots)
dropped-apart hold which slots d = sub-distinct (keys_of (after_drop hold which slots)) (keys_of slots) (dropped-among hold which slots) d

without_tombstones-apart : (slots : List Slot) → StayApart slots (without_tombstones slots)
without_tombstones-apart slots d = sub-distinct (keys_of (without_tombstones slots)) (keys_of slots) (without_tombstones-among slots) d

-- ---- the state of a table
same-content : (old new : TableState) → new.content ≡ old.content → KeepsKeys old new
same-content old new e = record {
  distinct = subst (λ (t : Content). StayApart old.content.slots t.slots) (sym e) (λ d. d);
  order = λ fixed still. subst (λ (t : Content). KeysStay old.content.slots t.slots) (sym e) (sub-same (keys_of old.content.slots));
}

-- a change of the content that keeps keys distinct, and keeps slots if it leaves tombstones
on-content : {X : Type 0} (change : Bool → Content → Change X Content) → ((old new : Content) (r : Result X Refusal) → change true old r new → KeysStay old.slots new.slots)
    → ((hold : Bool) (old new : Content) (r : Result X Refusal) → change hold old r new → StayApart old.slots new.slots) → (old new : TableState) (r : Result X Refusal) → on_content (change (is_fixed old.fixes)) old r new → KeepsKeys old new
on-content change stays parts old new r c = record {
  distinct = parts (is_fixed old.fixes) old.content new.content r c.0;
  order = λ fixed still. stays old.content new.content r (subst (λ (b : Bool). change b old.content r new.content) fixed c.0);
}

pub changes-keep : {X : Type 0} (change : Bool → Content → Change X Content) → ((old new : Content) (r : Result X Refusal) → change true old r new → KeysStay old.slots new.slots)
    → ((hold : Bool) (old new : Content) (r : Result X Refusal) → change hold old r new → StayApart old.slots new.slots) → AlwaysKeepsKeys change
changes-keep change stays parts old new (Ok x) c = on-content change stays parts old new (Ok x) c
changes-keep change stays parts old new (Err Badarg) c = on-content change stays parts old new (Err Badarg) c
changes-keep change stays parts old new (Err SystemLimit) c = on-content change stays parts old new (Err SystemLimit) c
changes-keep change stays parts old new (Err Memory) c = same-content old new (ap (λ (t : TableState). t.content) c)

pub insert-keeps : (objects : List Term) → AlwaysKeepsKeys (λ hold. Inserts objects)
insert-keeps objects = changes-keep (λ hold. Inserts objects) (inserts-keep KeysStay keeping objects) (λ hold. inserts-keep StayApart apart objects)

pub insert_new-keeps : (objects : List Term) → AlwaysKeepsKeys (λ hold. InsertsNew objects)
insert_new-keeps objects = changes-keep (λ hold. InsertsNew objects) (news-keep KeysStay keeping objects) (λ hold. news-keep StayApart apart objects)

pub update_counter-keeps : (key : Term) (ops : Ops) (default : Option Term) → AlwaysKeepsKeys (λ hold. UpdatesCounter key ops default)
update_counter-keeps key ops default = changes-keep (λ hold. UpdatesCounter key ops default) (counter-keeps KeysStay keeping key ops default) (λ hold. counter-keeps StayApart apart key ops default)

pub update_element-keeps : (key : Term) (specs : ElementSpecs) (default : Option Term) → AlwaysKeepsKeys (λ hold. UpdatesElement key specs default)
update_element-keeps key specs default = changes-keep (λ hold. UpdatesElement key specs default) (element-keeps KeysStay keeping key specs default) (λ hold. element-keeps StayApart apart key specs default)

module _ (Q : List Slot → List Slot → Type 0) (keeps : Keeping Q) where
  object_at : (hold : Bool) (o : Option Term) (object : Term) (old new : Content) (r : Result (Unit {0}) Refusal) → Q old.slots (after_drop hold (equal_to object) old.slots)
      → MatchOption o (gives (Err Badarg) old r new) (λ _. gives (Ok tt) (without_those hold (equal_to object) old) r new) → Q old.slots new.slots
  object_at hold None object old new r q c = unchanged Q keeps old new c.1
  object_at hold (Some key) object old new r q c = subst (λ (t : Content). Q old.slots t.slots) (sym c.1) q

pub delete_object-keeps : (object : Term) (old new : TableState) (r : Result (Unit {0}) Refusal) → on_content (DeletesObject (is_fixed old.fixes) object) old r new → KeepsKeys old new
delete_object-keeps object =
    on-content (λ hold. DeletesObject hold object)
    (λ old new r c. object_at KeysStay keeping true (key_of old.keypos object) object old new r (dropped-stay true (equal_to object) old.slots refl) c)
    (λ hold old new r c. object_at StayApart apart hold (key_of old.keypos object) object old new r (dropped-apart hold (equal_to object) old.slots) c)

pub delete-keeps : (which : Which) (old : TableState) → KeepsKeys old (record old { content = without_those (is_fixed old.fixes) which old.content })
delete-keeps which old = record {
  distinct = dropped-apart (is_fixed old.fixes) which old.content.slots;
  order = λ fixed still. dropped-stay (is_fixed old.fixes) which old.content.slots fixed;
}

pub fix-keeps : (pid : ℕ) (old new : TableState) (r : Result (Unit {0}) FixFault) → IncrementsFix pid old r new → KeepsKeys old new
fix-keeps pid old new (Ok x) c = same-content old new (ap (λ (t : TableState). t.content) c.1)
fix-keeps pid old new (Err FixLimit) c = same-content old new (ap (λ (t : TableState). t.content) c.1)
fix-keeps pid old new (Err FixMemory) c = same-content old new (ap (λ (t : TableState). t.content) c.1)

purge-keeps : (old : TableState) (fixes : FixCounts) (b : Bool) → is_fixed fixes ≡ b → KeepsKeys old (cond b (record old { fixes = fixes }) (record old { content = record old.content { slots = without_tombstones old.content.slots }; fixes = fixes }))
purge-keeps old fixes true e = record { distinct = λ d. d; order = λ fixed still. sub-same (keys_of old.content.slots) }
purge-keeps old fixes false e = record { distinct = without_tombstones-apart old.content.slots; order = λ fixed still. absurd (true≢false (sym still ∙ e)) }

pub release-keeps : (pid : ℕ) (old : TableState) → KeepsKeys old (after_release pid old)
release-keeps pid old = purge-keeps old (with_count old.fixes pid (fix_count old.fixes pid - 1)) (is_fixed (with_count old.fixes pid (fix_count old.fixes pid - 1))) refl

pub release_all-keeps : (pid : ℕ) (old : TableState) → KeepsKeys old (after_release_all pid old)
release_all-keeps pid old = purge-keeps old (with_count old.fixes pid 0) (is_fixed (with_count old.fixes pid 0)) refl

pub rows-keep : (old new : TableState) → new.content ≡ old.content → KeepsKeys old new
rows-keep old new e = same-content old new e
