-- The lines of a script make a run.
use Rattle.std.proofs.Common.{◌≡◌, ◌≢◌, ◌⊎◌, inl, inr, ℕ, zero, suc, Bool, true, false, List, [], ◌∷◌, ◌++◌, length, Option, Some, None, refl, sym, ap, ◌∙◌, subst, zip, filter_map}
use Rattle.std.specs.List.{cons_option}
use Rattle.ets_term.specs.declared.term.Term.{Term}
use Rattle.node_core.specs.declared.step.Step.{Step}
use Rattle.node_core.specs.declared.step.Step.TheVariants.{Enrol, End, Ask, Grow, Ready}
use Rattle.node_core.specs.declared.step.Reply.{Reply}
use Rattle.node_core.specs.declared.step.Reply.TheVariants.{Value, Badarg, NoProcess}
use Rattle.node_core.specs.State.{State}
use Rattle.node_core.specs.Machine.{step, run}
use Rattle.node_core.proofs.moves.Reached.{sound-reached}
use Rattle.node_core.proofs.walks.WholeWalks.{walks-whole, sound-keys}
use Rattle.ets_script.specs.Lines.{Line, text, too_long}
use Rattle.ets_script.specs.Commands.{Command, faulty, spawn, exit, ask, grow, ready, command, is_silent}
use Rattle.ets_script.specs.Replies.{answer_text}
use Rattle.ets_script.specs.Script.{ScriptState, pid_of, table_of, KeepsState, Steps, StepsOf, Spawns, Executes, AnswersText, AnswersLine, ScriptText, at_start}
use Rattle.ets_script.specs.Runs.{Asks, Makes, IsTextOfRun, LinesAreRuns, ScriptWalksAreWhole}
use Rattle.ets_script.specs.declared.answer.Answer.{Answer}
use Rattle.ets_script.specs.declared.answer.Answer.TheVariants.{Silent, Replied, NoMemory, Syntax, TooLong}
use Rattle.ets_script.proofs.BufferedLines.{weaker-line}

-- an answer that is no value
abbrev IsNoValue : Answer → Type 0
IsNoValue (Replied (Value t)) = ⊥
IsNoValue _ = Unit {0}

-- a command made the step that it asks for
record Stepped (c : Command) (old : ScriptState) (answer : Answer) (new : ScriptState) : Type 0 where
  event : Step
  reply : Reply
  replied : answer ≡ Replied reply
  asked : Asks old c event
  stepped : step old.node event reply new.node

-- or it made none
abbrev Kept : ScriptState → Answer → ScriptState → Type 0
Kept old answer new = (new ≡ old) × ((t : Term) → answer ≢ Replied (Value t))

no-value : (old new : ScriptState) (fixed answer : Answer) → IsNoValue fixed → KeepsState old fixed answer new → Kept old answer new
no-value old new fixed answer p (is, same) = (same, λ t e. subst IsNoValue (sym is ∙ e) p)

made-step : (c : Command) (s : Step) (old : ScriptState) (answer : Answer) (new : ScriptState) → Asks old c s → Steps old s answer new → Stepped c old answer new
made-step c s old answer new asks (r, is, did, same) = record { event = s; reply = r; replied = is; asked = asks; stepped = did }

-- a step of the process that has the name, if any
named-step : (o : Option ℕ) (c : Command) (s : ℕ → Step) (old : ScriptState) (answer : Answer) (new : ScriptState) → ((p : ℕ) → o ≡ Some p → Asks old c (s p)) → StepsOf o s old answer new
    → Stepped c old answer new ⊎ Kept old answer new
named-step None c s old answer new asks h = inr (no-value old new (Replied NoProcess) answer tt h)
named-step (Some p) c s old answer new asks h = inl (made-step c (s p) old answer new (asks p refl) h)

spawned : (o : Option ℕ) (name : List ℕ) (old : ScriptState) (answer : Answer) (new : ScriptState) → Spawns o old name answer new → Stepped (spawn name) old answer new ⊎ Kept old answer new
spawned (Some p) name old answer new h = inr (no-value old new (Replied Badarg) answer tt h)
spawned None name old answer new (r, is, did, after) = inl (record { event = Enrol (length old.names); reply = r; replied = is; asked = (name, refl, refl); stepped = did })

executed : (c : Command) (old : ScriptState) (answer : Answer) (new : ScriptState) → Executes c old answer new → Stepped c old answer new ⊎ Kept old answer new
executed (faulty at) old answer new h = inr (no-value old new (Syntax at) answer tt h)
executed (spawn name) old answer new h = spawned (pid_of old name) name old answer new h
executed (exit name) old answer new h = named-step (pid_of old name) (exit name) (λ p. End p) old answer new (λ p has. (name, refl, has)) h
executed (ask name word terms) old answer new h =
    named-step (pid_of old name) (ask name word terms) (λ p. Ask p (record { name = word; args = terms })) old answer new (λ p has. (name, refl, has)) h
executed (grow t) old answer new h = inl (made-step (grow t) (Grow (table_of old t)) old answer new (t, refl, refl) h)
executed (ready t bucket) old answer new h = inl (made-step (ready t bucket) (Ready (table_of old t) bucket) old answer new (t, refl, refl) h)

-- a run of at most one step
abbrev Runs : State → Option (Step × Reply) → State → Type 0
Runs old None new = new ≡ old
Runs old (Some made) new = step old made.0 made.1 new

-- what a line did
record Did (old : ScriptState) (line : Line) (answer : Answer) (new : ScriptState) : Type 0 where
  made : Option (Step × Reply)
  makes : Makes old line answer made
  runs : Runs old.node made new.node

kept-line : (line : Line) (old : ScriptState) (answer : Answer) (new : ScriptState) → Kept old answer new → Did old line answer new
kept-line line old answer new (same, free) = record { made = None; makes = free; runs = ap (λ (s : ScriptState). s.node) same }

did-line : (line : Line) (old : ScriptState) (answer : Answer) (new : ScriptState) → AnswersLine old line answer new → Did old line answer new
did-line too_long old answer new h = kept-line too_long old answer new (no-value old new TooLong answer tt h)
did-line (text t) old answer new h = did-text (is_silent t) h
  where
    did-command : Stepped (command t) old answer new ⊎ Kept old answer new → Did old (text t) answer new
    did-command (inl s) = record { made = Some (s.event, s.reply); makes = (s.replied, s.asked); runs = s.stepped }
    did-command (inr k) = kept-line (text t) old answer new k

    did-text : (b : Bool) → AnswersText b old t answer new → Did old (text t) answer new
    did-text true a = kept-line (text t) old answer new (no-value old new Silent answer tt a)
    did-text false (inl x) = did-command (executed (command t) old answer new x)
    did-text false (inr k) = kept-line (text t) old answer new (no-value old new NoMemory answer tt k)

-- a run goes on after at most one step
record Front (first : Option (Step × Reply)) (old new : State) (rest : List (Step × Reply)) : Type 0 where
  steps : List Step
  replies : List Reply
  made : cons_option first rest ≡ zip steps replies
  runs : run old steps replies new

front : (made : Option (Step × Reply)) (old mid new : State) (steps : List Step) (replies : List Reply) (rest : List (Step × Reply)) → Runs old made mid → rest ≡ zip steps replies → run mid steps replies new → Front made old new rest
front None old mid new steps replies rest same is done = record { steps = steps; replies = replies; made = is; runs = subst (λ (s : State). run s steps replies new) same done }
front (Some made) old mid new steps replies rest did is done = record { steps = made.0 ∷ steps; replies = made.1 ∷ replies; made = ap (λ k. made ∷ k) is; runs = (mid, did, done) }

lines-run : (n : ℕ) (last : Type 0) (old : ScriptState) (input output : List ℕ) (new : ScriptState) → ScriptText n last old input output new → IsTextOfRun old input output new
lines-run zero last old input output new (i, o, same) =
    record { lines = []; answers = []; steps = []; replies = []; cut = i; each = same; prints = o; made = refl; runs = ap (λ (s : ScriptState). s.node) same }
lines-run (suc n) last old input output new (mid, bytes, rest, first, others, i, o, x, more) =
    let tail = lines-run n last mid rest others new more in
    let did = did-line x.line old x.answer mid x.answers in
    let joined = front did.made old.node mid.node new.node tail.steps tail.replies (filter_map (λ a. a.1) tail.answers) did.runs tail.made tail.runs in
    record {
      lines = x.line ∷ tail.lines;
      answers = (x.answer, did.made) ∷ tail.answers;
      steps = joined.steps;
      replies = joined.replies;
      cut = (bytes, rest, i, weaker-line bytes x.line ((rest ≡ []) × last) (rest ≡ []) (λ p. p.0) x.is_line, tail.cut);
      each = (mid, x.answers, did.makes, tail.each);
      prints = o ∙ ap (λ k. k ++ others) x.prints ∙ ap (λ k. answer_text x.answer ++ k) tail.prints;
      made = joined.made;
      runs = joined.runs;
    }

pub lines-are-runs : (last : Type 0) → LinesAreRuns last
lines-are-runs last old input output new (n, lines) = lines-run n last old input output new lines

-- the lines before end in a sound state, by their own run
pub script-walks-are-whole : ScriptWalksAreWhole
script-walks-are-whole limits before said input output old new p t keys lines told fixed walks =
    let begun = lines-are-runs ⊥ (at_start limits) before said old lines in
    walks-whole old.node told.steps told.replies new.node told.runs p t keys (sound-keys old.node t (sound-reached limits begun.steps begun.replies old.node begun.runs)) fixed walks
