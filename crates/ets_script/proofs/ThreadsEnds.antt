-- What has been read and written when a script ends whose processes ran in threads.
use Rattle.std.proofs.Common.{ℕ, List, ap, ◌∙◌, subst, Option}
use Rattle.std.specs.Io.KnownBytes.{Appends}
use Rattle.node_core.specs.declared.limits.Limits.{Limits}
use Rattle.ets_packets.specs.Traffic.{traffic}
use Rattle.ets_packets.specs.Output.{Breaks}
use Rattle.ets_packets.proofs.KnownBytes.{between, appends-same}
use Rattle.ets_script.specs.Threads.{ThreadsText, ThreadsEnd, ThreadsStop, threads_text}
use Rattle.ets_script.specs.inside.Journal.{out_text}
use Rattle.ets_script.specs.inside.Processes.{RunsInput, StopsBeforeOutput}
use Rattle.ets_script.specs.declared.fault.ScriptFault.{ScriptFault}
use Rattle.ets_script.specs.declared.fault.ScriptFault.TheVariants.{Read, Write, Memory, Differs, Missing}
use Rattle.ets_script.specs.declared.plan.PlannedAnswers.{PlannedAnswers}
use Rattle.ets_script.specs.declared.processes.RunResult.{RunResult}

is-text : (limits : Limits) (before after : Option (List ℕ)) (planned : PlannedAnswers) (run : RunResult) (r : RunsInput limits (between before after) planned run) → ThreadsText limits r.input (out_text planned run)
is-text limits before after planned run r = record {
  lines = r.lines;
  plan = r.plan;
  done = run.entries.items;
  left = run.left.items;
  cut = r.cut;
  planned = r.plans;
  runs = r.runs;
  prints = ap (λ a. threads_text a planned.names run.entries.items run.left.items) r.answers ∙ ap (λ n. threads_text r.plan.answers n run.entries.items run.left.items) r.names;
}

pub threads-end : (limits : Limits) (before after old new : Option (List ℕ)) (planned : PlannedAnswers) (run : RunResult) → RunsInput limits (between before after) planned run → Appends old new (out_text planned run) → ThreadsEnd limits (traffic (between before after) (between old new))
threads-end limits before after old new planned run r written = (r.input, out_text planned run, r.consumed, r.end, written, is-text limits before after planned run r)

pub threads-write_fault : (limits : Limits) (before after old new : Option (List ℕ)) (planned : PlannedAnswers) (run : RunResult) → RunsInput limits (between before after) planned run → Breaks (between old new) (out_text planned run) → ThreadsStop limits (traffic (between before after) (between old new)) Write
threads-write_fault limits before after old new planned run r b =
    (r.input, b.sent, b.unsent, r.consumed, r.end, b.written, subst (λ (k : List ℕ). ThreadsText limits r.input k) b.parts (is-text limits before after planned run r))

-- it stopped before anything was printed
pub threads-stop : (limits : Limits) (before after old : Option (List ℕ)) (fault : ScriptFault) → StopsBeforeOutput limits fault → ThreadsStop limits (traffic (between before after) (between old old)) fault
threads-stop limits before after old Read s = appends-same old
threads-stop limits before after old Write s = absurd s
threads-stop limits before after old Memory s = appends-same old
threads-stop limits before after old (Differs p) s = (appends-same old, s)
threads-stop limits before after old (Missing p) s = (appends-same old, s)
