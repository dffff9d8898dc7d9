-- The status of a run that ended with a result.
use Rattle.std.proofs.Common.{◌≡◌, ℕ, inl, inr}
use Rattle.std.specs.Prelude.{Result, Ok, Err, IfOk, IfErr, OnOk, OnErr}
use Rattle.ets_packets.specs.Traffic.{Traffic}
use Rattle.node_core.specs.declared.limits.Limits.{Limits}
use Rattle.ets_script.specs.declared.fault.ScriptFault.{ScriptFault}
use Rattle.ets_script.specs.Script.{ScriptState, at_start}
use Rattle.ets_script.specs.Stops.{Completes, Stops, EndsWithin}
use Rattle.ets_script.specs.Threads.{ThreadsEnd, ThreadsStop, ThreadsStatus}

module _ {T F : Type 0} (limits : Limits) (streams : Traffic) where
  pub lines-status : (end : Result T ScriptFault) (status : Result ℕ F) → OnOk end ((state : ScriptState) × Completes (at_start limits) state streams) → IfErr end (Stops (at_start limits) streams)
      → OnOk end (IfOk status (λ n. n ≡ 0)) → OnErr end (IfOk status (λ n. n ≡ 1)) → IfOk status (EndsWithin limits streams)
  lines-status (Ok x) (Ok n) done fails zero one = inl (zero, done.0, done.1)
  lines-status (Err fault) (Ok n) done fails zero one = inr (one, fault, fails)
  lines-status (Ok x) (Err e) done fails zero one = tt
  lines-status (Err fault) (Err e) done fails zero one = tt

  pub threads-status : (end : Result T ScriptFault) (status : Result ℕ F) → OnOk end (ThreadsEnd limits streams) → IfErr end (ThreadsStop limits streams)
      → OnOk end (IfOk status (λ n. n ≡ 0)) → OnErr end (IfOk status (λ n. n ≡ 1)) → IfOk status (ThreadsStatus limits streams)
  threads-status (Ok x) (Ok n) done fails zero one = inl (zero, done)
  threads-status (Err fault) (Ok n) done fails zero one = inr (one, fault, fails)
  threads-status (Ok x) (Err e) done fails zero one = tt
  threads-status (Err fault) (Err e) done fails zero one = tt
