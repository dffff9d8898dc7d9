-- Each rule of a call has an outcome, if no process has more fixes than it may have, and changes nothing if it is refused.
use Rattle.std.proofs.Common.{◌≡◌, ℕ, nat_lt, Bool, true, false, not, Option, Result, Ok, Err, refl, ap, ◌∙◌, arith}
use Rattle.std.proofs.lemmas.Bool.Decides.{nat_tests}
use Rattle.ets_term.specs.declared.term.Term.{Term}
use Rattle.ets_term.specs.Data.{data_of}
use Rattle.counters.specs.Ops.{ops_of}
use Rattle.counters.specs.Elements.{element_specs_of}
use Rattle.match_spec.specs.Specifications.{is_pattern, is_spec}
use Rattle.table_ops.specs.declared.refusal.Refusal.TheVariants as refusal
use Rattle.table_ops.specs.Content.{Content}
use Rattle.table_ops.specs.Drop.{Which, DeletesObject}
use Rattle.table_ops.specs.Put.{Inserts, InsertsNew}
use Rattle.table_ops.specs.Update.{UpdatesCounter, UpdatesElement}
use Rattle.table_ops.specs.Queries.{matches, is_chosen, chosen_in}
use Rattle.table_ops.specs.Outcomes.{Change}
use Rattle.fixed_walk.specs.declared.fault.FixFault.{FixFault}
use Rattle.fixed_walk.specs.declared.fault.FixFault.TheVariants as fix
use Rattle.fixed_walk.specs.Fixes.{fix_count, max_fixes, is_fixed}
use Rattle.fixed_walk.specs.TableState.{TableState, on_content, after_delete, IncrementsFix}
use Rattle.node_core.specs.declared.step.Reply.{Reply}
use Rattle.node_core.specs.declared.step.Reply.TheVariants.{Value, SystemLimit}
use Rattle.node_core.specs.Access.{CallRule, replies}
use Rattle.node_core.specs.Values.{is_value}
use Rattle.node_core.specs.rules.Insertion.{objects_in, Insert, InsertNew}
use Rattle.node_core.specs.rules.Removal.{DeleteObject}
use Rattle.node_core.specs.rules.Replies.{true_reply, truth_reply}
use Rattle.node_core.specs.rules.Searching.{Deletes, DeletesMatching, DeletesChosen, MatchDelete, SelectDelete, count_reply}
use Rattle.node_core.specs.rules.Updates.{Counts, WritesElements, UpdateCounter, UpdateElement}
use Rattle.node_core.specs.rules.Walking.{FixResultToReply, Fixes}
use Rattle.node_core.proofs.moves.Preserves.{AreBounded}
use Rattle.node_core.proofs.determined.Contents.{inserts-fair, news-fair, counter-fair, element-fair, object-fair}
use Rattle.node_core.proofs.determined.Forms.{IsWhole, contrary, IsFair, ok-fair, refuse-fair, refuse_none-fair, of_table, replies-whole}

abbrev pub IsWholeRule : CallRule → Type 0
IsWholeRule rule = (old : TableState) → IsWhole old (AreBounded old.fixes) (rule old)

truth-value : (b : Bool) → is_value (truth_reply b) ≡ true
truth-value true = refl
truth-value false = refl

-- a change of the content is one of the table
content-fair : {X : Type 0} (change : Content → Change X Content) (old : TableState) → IsFair of_table old.content (change old.content)
    → IsFair of_table old (on_content change old)
content-fair change old fair = record {
  some = let s = fair.some in (s.0, record old { content = s.1 }, (s.2, refl), s.3);
  refused = λ why new h. h.1 ∙ ap (λ (c : Content). record old { content = c }) (fair.refused why new.content h.0);
}

replied-whole : {X : Type 0} (answer : X → Reply) → ((x : X) → is_value (answer x) ≡ true) → (change : TableState → Change X TableState)
    → ((old : TableState) → IsFair of_table old (change old)) → IsWholeRule (replies answer change)
replied-whole answer valued change fair old = replies-whole answer valued change old (fair old) (AreBounded old.fixes)

pub insert-whole : (argument : Term) → IsWholeRule (Insert argument)
insert-whole argument =
    replied-whole (λ _. true_reply) (λ x. refl) (on_content (Inserts (objects_in argument))) (λ old.
    content-fair (Inserts (objects_in argument)) old (inserts-fair (objects_in argument) old.content))

pub insert_new-whole : (argument : Term) → IsWholeRule (InsertNew argument)
insert_new-whole argument =
    replied-whole truth_reply truth-value (on_content (InsertsNew (objects_in argument))) (λ old.
    content-fair (InsertsNew (objects_in argument)) old (news-fair (objects_in argument) old.content))

pub delete_object-whole : (object : Term) → IsWholeRule (DeleteObject object)
delete_object-whole object =
    replied-whole (λ _. true_reply) (λ x. refl) (λ table. on_content (DeletesObject (is_fixed table.fixes) object) table) (λ old.
    content-fair (DeletesObject (is_fixed old.fixes) object) old (object-fair (is_fixed old.fixes) object old.content))

deletes-fair : {X : Type 0} (good : Bool) (answer : X) (which : Which) (old : TableState) → IsFair of_table old (Deletes good answer which old)
deletes-fair good answer which old = refuse-fair of_table old (not good) refusal.Badarg tt (ok-fair of_table old answer (after_delete which old))

pub match_delete-whole : (pattern : Term) → IsWholeRule (MatchDelete pattern)
match_delete-whole pattern =
    replied-whole (λ _. true_reply) (λ x. refl) (DeletesMatching pattern) (λ old. deletes-fair (is_pattern (data_of pattern)) tt (λ _. matches pattern) old)

pub select_delete-whole : (spec : Term) → IsWholeRule (SelectDelete spec)
select_delete-whole spec =
    replied-whole count_reply (λ x. refl) (DeletesChosen spec) (λ old. deletes-fair (is_spec (data_of spec)) (chosen_in (is_chosen spec) old.content) (λ _. is_chosen spec) old)

pub update_counter-whole : (key updates : Term) (default : Option Term) → IsWholeRule (UpdateCounter key updates default)
update_counter-whole key updates default =
    replied-whole Value (λ x. refl) (Counts key updates default) (λ old.
    refuse_none-fair of_table old (ops_of old.content.keypos updates) refusal.Badarg tt (λ ops.
    content-fair (UpdatesCounter key ops default) old (counter-fair key ops default old.content)))

pub update_element-whole : (key updates : Term) (default : Option Term) → IsWholeRule (UpdateElement key updates default)
update_element-whole key updates default =
    replied-whole truth_reply truth-value (WritesElements key updates default) (λ old.
    refuse_none-fair of_table old (element_specs_of old.content.keypos updates) refusal.Badarg tt (λ specs.
    content-fair (UpdatesElement key specs default) old (element-fair key specs default old.content)))

-- ---- fixes
fix-some : (p : ℕ) (old : TableState) → AreBounded old.fixes → (reply : Reply) × (new : TableState) × Fixes p old reply new
fix-some p old bounded = by (nat_lt (fix_count old.fixes p) max_fixes) refl
  where
    by : (b : Bool) → nat_lt (fix_count old.fixes p) max_fixes ≡ b → (reply : Reply) × (new : TableState) × Fixes p old reply new
    by true e = (true_reply, _, (Ok tt, (grind (arith, nat_tests, e), refl), refl))
    by false e = (SystemLimit, old, (Err fix.SystemLimit, (let most = bounded p in grind (arith, nat_tests, e, most), refl), refl))

fix-refused : (p : ℕ) (old : TableState) (result : Result (Unit {0}) FixFault) (reply : Reply) (new : TableState) → IncrementsFix p old result new → FixResultToReply result reply
    → is_value reply ≡ false → new ≡ old
fix-refused p old (Ok done) reply new h e f = contrary reply true_reply e refl f
fix-refused p old (Err fix.SystemLimit) reply new h e f = h.1
fix-refused p old (Err fix.Memory) reply new h e f = absurd e

pub fixes-whole : (p : ℕ) → IsWholeRule (Fixes p)
fixes-whole p old = record { some = fix-some p old; refused = λ reply new h f. fix-refused p old h.0 reply new h.1 h.2 f }
