-- What a caller saw, after a step and after it learns.
use Rattle.std.proofs.Common.{◌≡◌, ◌≢◌, ◌≤◌, ◌^◌, ◌-◌, Bool, true, if◌then◌else◌, List, [], ◌∷◌, ◌++◌, filter, length, arith, ap, subst, sym, ◌∙◌, append_assoc, append-nil}
use mathlib.Core.List.{IsPrefix}
use Rattle.std.proofs.lemmas.Grind.{common_steps}
use Rattle.std.proofs.lemmas.List.Elements.{filter-append}
use Rattle.node_core.specs.declared.limits.Limits.{Limits}
use Rattle.node_core.specs.declared.step.Step.{Step}
use Rattle.node_core.specs.declared.step.Reply.{Reply}
use Rattle.node_core.specs.State.{State}
use Rattle.node_core.specs.Woven.{is_step_of}
use Rattle.node_shared.specs.declared.entry.Entry.{Entry}
use Rattle.node_shared.specs.Journal.{entry, IsRun, is_entry_of, entries_of}
use Rattle.node_shared.specs.Records.{RecordState, with_entry}
use Rattle.node_shared.specs.Serving.{ServedState, CallerState, SeesMore, Continues, ContinuesBy}
use Rattle.node_shared.specs.inside.Steps.{ServesStep, entry_count}
use Rattle.node_shared.proofs.Prefixes.{prefix_self, prefix_trans, prefix_length}

-- the step of a caller is the last of the history
pub continues : (limits : Limits) (old new : CallerState) (served now : ServedState) (s : Step) (r : Reply) → ServesStep served s r now → IsRun limits now.history now.state
    → new.own ≡ with_entry old.own s r → new.seen ≡ now.history → IsPrefix old.seen served.history → entries_of old.own.pid served.history ≡ old.own.entries
    → ContinuesBy limits old s r new
continues limits old new served now s r does run own seen saw exact =
    record { own = own; before = served.history; saw = saw; exact = exact; last = seen ∙ does.1; state = now.state; run = subst (λ (es : List Entry). IsRun limits es now.state) (sym seen) run }

-- after its step the caller saw all of its own entries
pub own-last : (own now : RecordState) (old seen : List Entry) (s : Step) (r : Reply) → is_step_of own.pid s ≡ true → entries_of own.pid old ≡ own.entries → now ≡ with_entry own s r
    → seen ≡ old ++ entry s r ∷ [] → IsPrefix now.entries (entries_of now.pid seen)
own-last own now old seen s r is exact made all =
    let p = own.pid in
    let e : Entry = entry s r in
    let one : filter (is_entry_of p) (e ∷ []) ≡ e ∷ [] = ap (λ (b : Bool). if b then e ∷ [] else []) is in
    let last : entries_of p (old ++ e ∷ []) ≡ own.entries ++ e ∷ [] = filter-append (is_entry_of p) old (e ∷ []) ∙ (λ i. exact i ++ one i) in
    let same : entries_of now.pid seen ≡ now.entries = ap (λ (o : RecordState). entries_of o.pid seen) made ∙ (ap (entries_of p) all ∙ (last ∙ ap (λ (o : RecordState). o.entries) (sym made))) in
    ([], append-nil now.entries ∙ sym same)

-- a caller that saw the whole history, before it adds an entry
pub continues-none : (limits : Limits) (c : CallerState) (state : State) → IsRun limits c.seen state → entries_of c.own.pid c.seen ≡ c.own.entries → Continues limits c [] c
continues-none limits c state run exact = record {
  own = ap (λ (es : List Entry). record { pid = c.own.pid; entries = es }) (sym (append-nil c.own.entries));
  before = c.seen;
  saw = prefix_self c.seen;
  exact = exact;
  last = sym (append-nil c.seen);
  state = state;
  run = run;
}

-- a caller that saw more adds nothing yet
pub continues-seen : (limits : Limits) (old now : CallerState) (state : State) → SeesMore old now → IsRun limits now.seen state → Continues limits now [] now
continues-seen limits old now state more run =
    continues-none limits now state run (ap (λ (o : RecordState). entries_of o.pid now.seen) more.own ∙ (more.exact ∙ ap (λ (o : RecordState). o.entries) (sym more.own)))

-- what it adds after it saw more
pub continues-after : (limits : Limits) (old now new : CallerState) (es : List Entry) → SeesMore old now → Continues limits now es new → Continues limits old es new
continues-after limits old now new es more did = record {
  own = did.own ∙ ap (λ (o : RecordState). record { pid = o.pid; entries = o.entries ++ es }) more.own;
  before = did.before;
  saw = prefix_trans old.seen now.seen did.before more.saw did.saw;
  exact = ap (λ (o : RecordState). entries_of o.pid did.before) (sym more.own) ∙ (did.exact ∙ ap (λ (o : RecordState). o.entries) more.own);
  last = did.last;
  state = did.state;
  run = did.run;
}

-- one more entry right after those that it added
pub continues-next : (limits : Limits) (old now new : CallerState) (es : List Entry) (s : Step) (r : Reply) → Continues limits old es now → ContinuesBy limits now s r new
    → new.seen ≡ now.seen ++ entry s r ∷ [] → Continues limits old (es ++ entry s r ∷ []) new
continues-next limits old now new es s r did last seen = record {
  own =
      last.own
      ∙ (ap (λ (o : RecordState). record { pid = o.pid; entries = o.entries ++ entry s r ∷ [] }) did.own
      ∙ ap (λ (l : List Entry). record { pid = old.own.pid; entries = l }) (append_assoc old.own.entries es (entry s r ∷ [])));
  before = did.before;
  saw = did.saw;
  exact = did.exact;
  last = seen ∙ (ap (λ (l : List Entry). l ++ entry s r ∷ []) did.last ∙ append_assoc did.before es (entry s r ∷ []));
  state = last.state;
  run = last.run;
}

-- a count that is exact, and not greater than that of other entries
pub count-shorter : (xs ys : List Entry) → entry_count xs ≤ entry_count ys → entry_count xs ≢ 2 ^ 64 - 1 → length xs ≤ length ys
count-shorter xs ys le exact = grind (arith, common_steps)

-- a count that is the greatest stays so for more entries
pub count-most : (xs ys : List Entry) → IsPrefix xs ys → entry_count xs ≡ 2 ^ 64 - 1 → entry_count ys ≡ 2 ^ 64 - 1
count-most xs ys pre most = let longer = prefix_length xs ys pre in grind (arith, common_steps, longer)
