-- The last rule of a call is the first broken rule, call by call. It does not depend on buckets.
use Rattle.std.proofs.Common.{◌≡◌, ℕ, Bool, true, false, List, [], ◌∷◌, Option, None, Some, option_map, option_and_then, refl, ap, ◌∙◌}
use Rattle.std.specs.Prelude.{◌+◌, if◌then◌else◌, position}
use Rattle.std.specs.Option.{option_map_or}
use Rattle.ets_term.specs.declared.term.Term.{Term}
use Rattle.ets_term.specs.Depth.{is_too_deep}
use Rattle.ownership.specs.World.{Table, Tables, World, table_at, resolve, metadata_of, lives}
use Rattle.node_core.specs.CallName.{call_name}
use Rattle.node_core.specs.declared.call_name.CallName.{CallName}
use Rattle.node_core.specs.declared.call_name.CallName.TheVariants as name
use Rattle.node_core.specs.declared.node.access.Access.TheVariants.{Read, Write}
use Rattle.node_core.specs.declared.step.Step.{Step}
use Rattle.node_core.specs.declared.step.Step.TheVariants.{Enrol, End, Ask, Grow, Ready}
use Rattle.node_core.specs.Observable.{observable_table, observable_tables}
use Rattle.node_core.proofs.buckets.ObservableTables.{observable_world, at-observable, resolve-observable}
use Rattle.node_reasons.specs.declared.reason.Rule.TheVariants as rule
use Rattle.node_reasons.specs.declared.reason.Reason.{Reason}
use Rattle.node_reasons.specs.Reasons.{argument, about_whole_call, table_of_term}
use Rattle.node_reasons.specs.Objects.{why_insert, why_delete_object, why_next, why_match, why_select, why_lookup_element, why_lookup_element_or}
use Rattle.node_reasons.specs.Updates.{why_update_counter, why_update_element}
use Rattle.node_reasons.specs.Calls.{why_call}
use Rattle.node_reasons.specs.Why.{limit_of}
use Rattle.node_reasons.specs.inside.RefusalReasons.{NamesReason, refusal_reason_of_lookup_element, refusal_reason_of_update_counter, refusal_reason_of_update_element}
use Rattle.node_reasons.specs.inside.RefusalReasonsOfCalls.{state_of, content_in, table_of_first, refusal_reason_by_name, refusal_reason_of_call, refusal_reason_of_named_call, refusal_reason}
use Rattle.node_reasons.proofs.NamedRules.{last, on-named, content-named, use-named, fixing-named, informing-named, making-named, setting-named, giving-named, element-named, element-or-named, counting-named, counting-or-named, writing-named}

module _ (w : World) (p : ℕ) where
  pub call-named : (name : CallName) (args : List Term) → NamesReason (why_call w p name args) (refusal_reason_of_call w p name args)
  call-named name.Receive [] = tt {0}
  call-named name.Tab2list (x ∷ []) = use-named Read p (table_of_term w.tables x)
  call-named name.DeleteAllObjects (x ∷ []) = use-named Write p (table_of_term w.tables x)
  call-named name.Delete (x ∷ []) = use-named Write p (table_of_term w.tables x)
  call-named name.First (x ∷ []) = use-named Read p (table_of_term w.tables x)
  call-named name.FirstLookup (x ∷ []) = use-named Read p (table_of_term w.tables x)
  call-named name.Whereis (x ∷ []) = last _ (argument 1 rule.NotAnAtom)
  call-named name.Insert (x ∷ y ∷ []) = on-named Write p (why_insert y) (table_of_term w.tables x) (argument 2 rule.NotAnObject) (λ c. last _ _)
  call-named name.InsertNew (x ∷ y ∷ []) = on-named Write p (why_insert y) (table_of_term w.tables x) (argument 2 rule.NotAnObject) (λ c. last _ _)
  call-named name.Lookup (x ∷ y ∷ []) = use-named Read p (table_of_term w.tables x)
  call-named name.Member (x ∷ y ∷ []) = use-named Read p (table_of_term w.tables x)
  call-named name.Take (x ∷ y ∷ []) = use-named Write p (table_of_term w.tables x)
  call-named name.Delete (x ∷ y ∷ []) = use-named Write p (table_of_term w.tables x)
  call-named name.DeleteObject (x ∷ y ∷ []) = on-named Write p (why_delete_object y) (table_of_term w.tables x) (argument 2 rule.NotAnObject) (λ c. last _ _)
  call-named name.Match (x ∷ y ∷ []) = on-named Read p (why_match y) (table_of_term w.tables x) (argument 2 rule.NotAPattern) (λ c. last _ _)
  call-named name.MatchObject (x ∷ y ∷ []) = on-named Read p (why_match y) (table_of_term w.tables x) (argument 2 rule.NotAPattern) (λ c. last _ _)
  call-named name.MatchDelete (x ∷ y ∷ []) = on-named Write p (why_match y) (table_of_term w.tables x) (argument 2 rule.NotAPattern) (λ c. last _ _)
  call-named name.Select (x ∷ y ∷ []) = on-named Read p (why_select y) (table_of_term w.tables x) (argument 2 rule.NotASpecification) (λ c. last _ _)
  call-named name.SelectCount (x ∷ y ∷ []) = on-named Read p (why_select y) (table_of_term w.tables x) (argument 2 rule.NotASpecification) (λ c. last _ _)
  call-named name.SelectDelete (x ∷ y ∷ []) = on-named Write p (why_select y) (table_of_term w.tables x) (argument 2 rule.NotASpecification) (λ c. last _ _)
  call-named name.New (x ∷ y ∷ []) = making-named w.tables x y
  call-named name.Next (x ∷ y ∷ []) = on-named Read p (why_next y) (table_of_term w.tables x) (argument 2 rule.NoKey) (λ c. last _ _)
  call-named name.NextLookup (x ∷ y ∷ []) = on-named Read p (why_next y) (table_of_term w.tables x) (argument 2 rule.NoKey) (λ c. last _ _)
  call-named name.SafeFixtable (x ∷ y ∷ []) = fixing-named p (table_of_term w.tables x) y
  call-named name.SetOptions (x ∷ y ∷ []) = setting-named p (table_of_term w.tables x) y
  call-named name.Info (x ∷ y ∷ []) = informing-named x y
  call-named name.LookupElement (x ∷ y ∷ z ∷ []) = content-named Read p (why_lookup_element y z) (table_of_term w.tables x) (refusal_reason_of_lookup_element y z true) (element-named y z)
  call-named name.UpdateCounter (x ∷ y ∷ z ∷ []) = content-named Write p (why_update_counter y z None) (table_of_term w.tables x) (refusal_reason_of_update_counter y z None) (counting-named y z)
  call-named name.UpdateElement (x ∷ y ∷ z ∷ []) = content-named Write p (why_update_element y z None) (table_of_term w.tables x) (refusal_reason_of_update_element y z None) (writing-named y z None)
  call-named name.GiveAway (x ∷ y ∷ z ∷ []) = giving-named w.processes p (table_of_term w.tables x) y
  call-named name.LookupElement (x ∷ y ∷ z ∷ default ∷ []) = content-named Read p (why_lookup_element_or y z) (table_of_term w.tables x) (refusal_reason_of_lookup_element y z false) (element-or-named y z)
  call-named name.UpdateCounter (x ∷ y ∷ z ∷ default ∷ []) = content-named Write p (why_update_counter y z (Some default)) (table_of_term w.tables x) (refusal_reason_of_update_counter y z (Some default)) (counting-or-named y z default)
  call-named name.UpdateElement (x ∷ y ∷ z ∷ default ∷ []) = content-named Write p (why_update_element y z (Some default)) (table_of_term w.tables x) (refusal_reason_of_update_element y z (Some default)) (writing-named y z (Some default))
  call-named _ _ = refl

-- ---- without the buckets
at-named : (ts : Tables) (o : Option ℕ) → option_and_then (table_at (observable_tables ts)) o ≡ option_map observable_table (option_and_then (table_at ts) o)
at-named ts None = refl
at-named ts (Some t) = at-observable ts t

named-seen : (ts : Tables) (term : Term) → table_of_term (observable_tables ts) term ≡ option_map observable_table (table_of_term ts term)
named-seen ts term = ap (option_and_then (table_at (observable_tables ts))) (resolve-observable ts term) ∙ at-named ts (resolve ts term)

named-first : (ts : Tables) (args : List Term) → table_of_first (observable_tables ts) args ≡ option_map observable_table (table_of_first ts args)
named-first ts [] = refl
named-first ts (x ∷ args) = named-seen ts x

call-seen : (w : World) (p : ℕ) (name : CallName) (args : List Term) → refusal_reason_of_call (observable_world w) p name args ≡ refusal_reason_of_call w p name args
call-seen w p name args = ap (λ o. refusal_reason_by_name p (metadata_of o) (content_in (state_of o)) name args) (named-first w.tables args) ∙ by (table_of_first w.tables args)
  where
    by : (o : Option Table) → refusal_reason_by_name p (metadata_of (option_map observable_table o)) (content_in (state_of (option_map observable_table o))) name args ≡ refusal_reason_by_name p (metadata_of o) (content_in (state_of o)) name args
    by None = refl
    by (Some table) = refl

refused-seen : (w : World) (p : ℕ) (args : List Term) (limited : Bool) (o : Option CallName) → option_map_or (refusal_reason_of_named_call (observable_world w) p args limited) o (about_whole_call rule.NoCall) ≡ option_map_or (refusal_reason_of_named_call w p args limited) o (about_whole_call rule.NoCall)
refused-seen w p args limited None = refl
refused-seen w p args limited (Some name) = ap (λ (r : Reason). if limited then about_whole_call (limit_of name) else r) (call-seen w p name args)

pub refusal_reason-seen : (w : World) (event : Step) (limited : Bool) → refusal_reason (observable_world w) event limited ≡ refusal_reason w event limited
refusal_reason-seen w (Enrol p) limited = refl
refusal_reason-seen w (End p) limited = refl
refusal_reason-seen w (Ask p asked) limited =
    ap (λ (r : Reason). if lives w.processes p then option_map_or (λ index. argument (index + 1) rule.TooDeep) (position is_too_deep asked.args) r else about_whole_call rule.NoProcess)
    (refused-seen w p asked.args limited (call_name asked.name))
refusal_reason-seen w (Grow t) limited = refl
refusal_reason-seen w (Ready t bucket) limited = refl
