-- Two runs with the same steps, but for growth, have replies that agree, and end in states that differ in the order of slots alone.
use Rattle.std.proofs.Common.{◌≡◌, ◌⊎◌, inl, inr, List, [], ◌∷◌, Option, None, Some, refl, sym, ap, subst, subst₂, ◌∙◌}
use Rattle.std.specs.Prelude.{IsPermutation, map, option_map}
use Rattle.std.specs.List.{AllZip}
use Rattle.std.specs.Map.{keys_of, values_of}
use Rattle.std.specs.Option.{option_map_or, IsSomeAnd}
use Rattle.bucket_table.specs.Slots.{Slot}
use Rattle.fixed_walk.specs.TableState.{TableState}
use Rattle.ownership.specs.World.{Table, Tables, table_at}
use Rattle.node_core.specs.declared.step.Reply.{Reply}
use Rattle.node_core.specs.declared.call_name.CallName.{CallName}
use Rattle.node_core.specs.declared.step.Step.{Step}
use Rattle.node_core.specs.declared.step.Step.TheVariants.{Enrol, End, Ask, Grow, Ready}
use Rattle.node_core.specs.CallName.{call_name}
use Rattle.node_core.specs.State.{State}
use Rattle.node_core.specs.Machine.{step, run}
use Rattle.node_core.specs.laws.Agreement.{Agree, table_without_slots, without_slots, AreSameButOrder, StepsAreUnique, RunsAgree}
use Rattle.node_core.specs.laws.Erasing.{without_growth}
use Rattle.node_core.specs.laws.Reached.{IsSound}
use Rattle.node_core.proofs.moves.Reached.{sound-step}
use Rattle.node_core.proofs.determined.Erasing.{growth-erases}
use Rattle.node_core.proofs.determined.Shuffles.{permuted, same as same-list}
use Rattle.node_core.proofs.determined.Alike.{AlikePlace, AlikeTables, AlikeStates, tables-itself, at-alike}
use Rattle.node_core.proofs.determined.Unique.{Unique}
use Rattle.node_core.proofs.determined.UniqueCalls.{Told, step-unique}
use Rattle.node_core.proofs.determined.UniqueReads.{Shown, AgreeByName}
use Rattle.node_core.proofs.determined.UniqueShown.{Alone, agreeing, equal}
use Rattle.node_core.proofs.determined.UniqueStates.{HasDistinctSlots}

-- two replies that agree as those to a step
agreed : (old : State) (us : Tables) (a : AlikeTables old.world.tables us) (distinct : HasDistinctSlots old) (s : Step) (r q : Reply) → Told old us a distinct AgreeByName s r q → Agree s r q
agreed old us a distinct (Enrol p) r q t = t
agreed old us a distinct (End p) r q t = t
agreed old us a distinct (Ask p asked) r q t = by (call_name asked.name) t
  where
    by : (found : Option CallName) → (r ≡ q) ⊎ IsSomeAnd found (λ n. AgreeByName n r q) → (r ≡ q) ⊎ IsSomeAnd found (λ n. Shown n r q)
    by found (inl e) = inl e
    by None (inr t) = absurd t
    by (Some n) (inr t) = t
agreed old us a distinct (Grow t) r q e = e
agreed old us a distinct (Ready t bucket) r q e = e

-- a step from states that are alike
steps-agree : (old old' : State) → AlikeStates old old' → IsSound old → (s : Step) → Unique (Agree s) AlikeStates (step old s) (step old' s)
steps-agree old old' alike sound s =
    let us = old'.world.tables in
    subst (λ (x : State). Unique (Agree s) AlikeStates (step old s) (step x s)) (sym alike.rest) (λ r q new next h k.
    let both = step-unique old us alike.tables sound.keys AgreeByName (λ n r q e. inl e) (λ p. agreeing old us alike.tables sound.keys sound.ends p) s r q new next h k in
    (agreed old us alike.tables sound.keys s r q both.0, both.1))

abbrev Pairs : Type 0
Pairs = List (Step × Reply)

abbrev AgreeAll : Pairs → Pairs → Type 0
AgreeAll ps qs = AllZip (λ a b. Agree a.0 a.1 b.1) ps qs

head-same : (p q : Step × Reply) (ps qs : Pairs) → keys_of (p ∷ ps) ≡ keys_of (q ∷ qs) → p.0 ≡ q.0
head-same p q ps qs e = cc

tail-same : (p q : Step × Reply) (ps qs : Pairs) → keys_of (p ∷ ps) ≡ keys_of (q ∷ qs) → keys_of ps ≡ keys_of qs
tail-same p q ps qs e = cc

pairs-agree : (ps qs : Pairs) (old old' one other : State) → keys_of ps ≡ keys_of qs → AlikeStates old old' → IsSound old
    → run old (keys_of ps) (values_of ps) one → run old' (keys_of qs) (values_of qs) other → AgreeAll ps qs × AlikeStates one other
pairs-agree [] [] old old' one other e alike sound h k = (tt, subst₂ AlikeStates (sym h) (sym k) alike)
pairs-agree [] (q ∷ qs) old old' one other e alike sound h k = cc
pairs-agree (p ∷ ps) [] old old' one other e alike sound h k = cc
pairs-agree (p ∷ ps) (q ∷ qs) old old' one other e alike sound h k =
    let stepped : step old' p.0 q.1 k.0 = subst (λ (s : Step). step old' s q.1 k.0) (sym (head-same p q ps qs e)) k.1 in
    let both = steps-agree old old' alike sound p.0 p.1 q.1 h.0 k.0 h.1 stepped in
    let rest = pairs-agree ps qs h.0 k.0 one other (tail-same p q ps qs e) both.1 (sound-step old h.0 p.0 p.1 h.1 sound) h.2 k.2 in
    ((both.0, rest.0), rest.1)

-- ---- states that are alike
bare-place : (o u : Option Table) → AlikePlace o u → option_map table_without_slots o ≡ option_map table_without_slots u
bare-place None None a = refl
bare-place None (Some u) a = absurd a
bare-place (Some t) None a = absurd a
bare-place (Some t) (Some u) a =
    let empty = ap (λ (f : TableState). record f { content = record f.content { slots = [] } }) (sym a.state.rest) in
    λ i. Some (record { metadata = sym a.metadata i; state = empty i })

bare-tables : (ts us : Tables) → AlikeTables ts us → map (option_map table_without_slots) ts ≡ map (option_map table_without_slots) us
bare-tables [] [] a = refl
bare-tables [] (u ∷ us) a = absurd a
bare-tables (o ∷ ts) [] a = absurd a
bare-tables (o ∷ ts) (u ∷ us) a = λ i. bare-place o u a.0 i ∷ bare-tables ts us a.1 i

slots-place : (o u : Option Table) → AlikePlace o u
    → IsPermutation (option_map_or (λ table. table.state.content.slots) o []) (option_map_or (λ table. table.state.content.slots) u [])
slots-place None None a = permuted Slot [] [] (same-list [])
slots-place None (Some u) a = absurd a
slots-place (Some t) None a = absurd a
slots-place (Some t) (Some u) a = permuted Slot _ _ a.state.slots

are-same : (one other : State) → AlikeStates one other → AreSameButOrder one other
are-same one other alike = record {
  rest = ap (λ (ts : Tables). record one { world = record one.world { tables = ts } }) (bare-tables one.world.tables other.world.tables alike.tables) ∙ sym (ap without_slots alike.rest);
  slots = λ t. slots-place (table_at one.world.tables t) (table_at other.world.tables t) (at-alike one.world.tables other.world.tables alike.tables t);
}

pub runs-agree : RunsAgree
runs-agree old one other steps others replies answers sound e h k =
    let both = pairs-agree (without_growth steps replies) (without_growth others answers) old old one other e
    (record { tables = tables-itself old.world.tables; rest = refl }) sound (growth-erases old steps replies one h) (growth-erases old others answers other k) in
    (both.0, are-same one other both.1)

-- ---- one step from one state
equal-told : (old : State) (us : Tables) (a : AlikeTables old.world.tables us) (distinct : HasDistinctSlots old) (s : Step) (r q : Reply) → Told old us a distinct Alone s r q → r ≡ q
equal-told old us a distinct (Enrol p) r q t = t
equal-told old us a distinct (End p) r q t = t
equal-told old us a distinct (Ask p asked) r q t = by (call_name asked.name) t
  where
    by : (found : Option CallName) → (r ≡ q) ⊎ IsSomeAnd found (λ n. r ≡ q) → r ≡ q
    by found (inl e) = e
    by None (inr t) = absurd t
    by (Some n) (inr t) = t
equal-told old us a distinct (Grow t) r q e = e
equal-told old us a distinct (Ready t bucket) r q e = e

pub steps-unique : StepsAreUnique
steps-unique old one other s r q sound h k =
    let ts = old.world.tables in
    let a = tables-itself ts in
    let both = step-unique old ts a sound.keys Alone (λ n r q e. e) (λ p. equal old p) s r q one other h k in
    (equal-told old ts a sound.keys s r q both.0, are-same one other both.1)
