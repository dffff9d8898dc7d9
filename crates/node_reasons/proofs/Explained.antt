-- The reason of a call explains each of its replies: the cases of the machine's calls, with those of reasons.
use Rattle.std.proofs.Common.{◌≡◌, ℕ, ◌⊎◌, Bool, true, false, Option, None, Some, option_and_then, Result, Ok, Err, refl, sym, subst, ap, ◌∙◌}
use Rattle.std.specs.Prelude.{if◌then◌else◌, MatchOption}
use Rattle.std.specs.Bool.{MatchBool}
use Rattle.ets_term.specs.declared.term.Term.{Term}
use Rattle.table_ops.specs.declared.refusal.Refusal.{Refusal}
use Rattle.table_ops.specs.declared.refusal.Refusal.TheVariants as refusal
use Rattle.table_ops.specs.Content.{Content}
use Rattle.table_ops.specs.Outcomes.{Outcome, gives}
use Rattle.fixed_walk.specs.TableState.{TableState}
use Rattle.ownership.specs.declared.fault.WorldFault.{WorldFault}
use Rattle.ownership.specs.declared.fault.WorldFault.TheVariants as fault
use Rattle.ownership.specs.World.{Table, table_at, resolve}
use Rattle.node_core.specs.declared.node.access.Access.{Access}
use Rattle.node_core.specs.declared.node.access.Access.TheVariants.{Read, Write}
use Rattle.node_core.specs.declared.step.Reply.{Reply}
use Rattle.node_core.specs.declared.step.Reply.TheVariants.{Badarg, SystemLimit}
use Rattle.node_core.specs.State.{State}
use Rattle.node_core.specs.Access.{may_access, table_if_allowed, usable, with_table, CallRule, ChangeResultToReply, WorldResultToReply, reads, changes}
use Rattle.node_core.specs.rules.Replies.{truth_reply}
use Rattle.node_core.specs.Values.{is_value}
use Rattle.node_reasons.specs.declared.reason.Reason.{Reason}
use Rattle.node_reasons.specs.Reasons.{refusal_of, argument, table_of_term, on_table, rule_of_access}

-- badarg, by a rule whose refusal that is; or, where no rule is broken, an answer or a limit
abbrev pub ReasonExplains : Option Reason → Reply → Type 0
ReasonExplains None reply = (is_value reply ≡ true) ⊎ (reply ≡ SystemLimit)
ReasonExplains (Some reason) reply = (reply ≡ Badarg) × (refusal_of reason.rule ≡ Badarg)

-- that is so of each reply of the outcome
abbrev pub ReasonExplainsAll : Option Reason → Outcome Reply State → Type 0
ReasonExplainsAll v outcome = (reply : Reply) (new : State) → outcome reply new → ReasonExplains v reply

abbrev pub Either : Bool → Outcome Reply State → Outcome Reply State → Outcome Reply State
Either test own otherwise reply new = MatchBool test (own reply new) (otherwise reply new)

pub either-explained : (test : Bool) (v w : Option Reason) (own otherwise : Outcome Reply State) → ReasonExplainsAll v own → ReasonExplainsAll w otherwise → ReasonExplainsAll (if test then v else w) (Either test own otherwise)
either-explained true v w own otherwise a b = a
either-explained false v w own otherwise a b = b

pub gives-explained : (v : Option Reason) (answer : Reply) (after : State) → ReasonExplains v answer → ReasonExplainsAll v (gives answer after)
gives-explained v answer after f reply new h = subst (ReasonExplains v) (sym h.0) f

-- ---- on the table that a term names
abbrev pub Where : {X : Type 0} → Option X → State → (X → Outcome Reply State) → Outcome Reply State
Where o old outcome reply new = MatchOption o (gives Badarg old reply new) (λ x. outcome x reply new)

lacks-explained : (access : Access) (old : State) → ReasonExplainsAll (Some (argument 1 (rule_of_access access))) (gives Badarg old)
lacks-explained Read old reply new h = (h.0, refl)
lacks-explained Write old reply new h = (h.0, refl)

module _ (old : State) (p : ℕ) (access : Access) (rest : Content → Option Reason) (outcome : ℕ × Table → Outcome Reply State) (explains : (found : ℕ × Table) → ReasonExplainsAll (rest found.1.state.content) (outcome found)) where
  may_access-explained : (t : ℕ) (table : Table) (b : Bool) → ReasonExplainsAll (if b then rest table.state.content else Some (argument 1 (rule_of_access access))) (Where (if b then Some (t, table) else None) old outcome)
  may_access-explained t table true = explains (t, table)
  may_access-explained t table false = lacks-explained access old

  at-explained : (t : ℕ) (o : Option Table) → ReasonExplainsAll (on_table access p o rest) (Where (option_and_then (table_if_allowed access p t) o) old outcome)
  at-explained t None = λ reply new h. (h.0, refl)
  at-explained t (Some table) = may_access-explained t table (may_access access table.metadata p)

  resolved-explained : (o : Option ℕ) → ReasonExplainsAll (on_table access p (option_and_then (table_at old.world.tables) o) rest) (Where (option_and_then (λ t. option_and_then (table_if_allowed access p t) (table_at old.world.tables t)) o) old outcome)
  resolved-explained None = λ reply new h. (h.0, refl)
  resolved-explained (Some t) = at-explained t (table_at old.world.tables t)

  pub used-explained : (term : Term) → ReasonExplainsAll (on_table access p (table_of_term old.world.tables term) rest) (Where (usable access old.world.tables p term) old outcome)
  used-explained term = resolved-explained (resolve old.world.tables term)

module _ (old : State) (p : ℕ) (term : Term) where
  pub reads-explained : (rest : Content → Option Reason) (answer : TableState → Reply) → ((f : TableState) → ReasonExplains (rest f.content) (answer f)) → ReasonExplainsAll (on_table Read p (table_of_term old.world.tables term) rest) (reads old p term answer)
  reads-explained rest answer explains = used-explained old p Read rest (λ found. gives (answer found.1.state) old) (λ found. gives-explained (rest found.1.state.content) (answer found.1.state) old (explains found.1.state)) term

  pub changes-explained : (access : Access) (rest : Content → Option Reason) (rule : CallRule) → ((f g : TableState) (reply : Reply) → rule f reply g → ReasonExplains (rest f.content) reply)
      → ReasonExplainsAll (on_table access p (table_of_term old.world.tables term) rest) (changes old p access term rule)
  changes-explained access rest rule explains = used-explained old p access rest (λ found reply new. (fixed : TableState) × rule found.1.state reply fixed × (new ≡ with_table old found.0 fixed)) (λ found reply new h. explains found.1.state h.0 reply h.1) term

-- ---- replies to changes
pub value-of : {X : Type 0} (answer : X → Reply) (result : Result X Refusal) (x : X) (reply : Reply) → is_value (answer x) ≡ true → result ≡ Ok x → ChangeResultToReply answer result reply → is_value reply ≡ true
value-of answer result x reply v e h = let r : reply ≡ answer x = subst (λ r. ChangeResultToReply answer r reply) e h in ap is_value r ∙ v

pub badarg-of : {X : Type 0} (answer : X → Reply) (result : Result X Refusal) (reply : Reply) → result ≡ Err refusal.Badarg → ChangeResultToReply answer result reply → reply ≡ Badarg
badarg-of answer result reply e h = subst (λ r. ChangeResultToReply answer r reply) e h

pub limit-of : {X : Type 0} (answer : X → Reply) (result : Result X Refusal) (reply : Reply) → result ≡ Err refusal.SystemLimit → ChangeResultToReply answer result reply → reply ≡ SystemLimit
limit-of answer result reply e h = subst (λ r. ChangeResultToReply answer r reply) e h

pub memory-of : {X : Type 0} (answer : X → Reply) (result : Result X Refusal) (reply : Reply) → result ≡ Err refusal.Memory → ChangeResultToReply answer result reply → ⊥
memory-of answer result reply e h = subst (λ r. ChangeResultToReply answer r reply) e h

pub truth-value : (b : Bool) → is_value (truth_reply b) ≡ true
truth-value true = refl
truth-value false = refl

-- ---- the world's refusals
pub world-badarg : {X : Type 0} (answer : X → Reply) (result : Result X WorldFault) (reply : Reply) → result ≡ Err fault.Badarg → WorldResultToReply answer result reply → reply ≡ Badarg
world-badarg answer result reply e h = subst (λ r. WorldResultToReply answer r reply) e h

pub world-limit : {X : Type 0} (answer : X → Reply) (result : Result X WorldFault) (reply : Reply) → result ≡ Err fault.SystemLimit → WorldResultToReply answer result reply → reply ≡ SystemLimit
world-limit answer result reply e h = subst (λ r. WorldResultToReply answer r reply) e h

pub world-value : {X : Type 0} (answer : X → Reply) (result : Result X WorldFault) (x : X) (reply : Reply) → is_value (answer x) ≡ true → result ≡ Ok x → WorldResultToReply answer result reply → is_value reply ≡ true
world-value answer result x reply v e h = let r : reply ≡ answer x = subst (λ r. WorldResultToReply answer r reply) e h in ap is_value r ∙ v
