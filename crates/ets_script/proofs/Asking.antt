-- A line that makes a call. The pending steps after it change nothing observable.
use Rattle.std.proofs.Common.{◌≡◌, ◌⊎◌, ℕ, List, Option, Some, inl, inr, subst, sym}
use Rattle.ets_term.specs.declared.term.Term.{Term}
use Rattle.node_core.specs.declared.step.Call.{Call}
use Rattle.node_core.specs.declared.step.Step.TheVariants.{Ask}
use Rattle.ets_script.specs.Commands.{Command, ask}
use Rattle.ets_script.specs.Script.{ScriptState, pid_of, Executes, Steps, StepsOf, KeepsState}
use Rattle.ets_script.specs.declared.answer.Answer.{Answer}
use Rattle.ets_script.specs.declared.answer.Answer.TheVariants.{NoMemory}

execute-ask : (old new after : ScriptState) (call_command : Command) (name word : List ℕ) (terms : List Term) (p : ℕ) (call : Call) (answer : Answer)
    → call_command ≡ ask name word terms → pid_of old name ≡ Some p → call ≡ record { name = word; args = terms } → after ≡ new
    → Steps old (Ask p call) answer new ⊎ KeepsState old NoMemory answer new
    → Executes call_command old answer after ⊎ KeepsState old NoMemory answer after
execute-ask old new after call_command name word terms p call answer is found made same (inl did) =
    let asks = subst (λ (c : Call). Steps old (Ask p c) answer new) made did in
    let of_name = subst (λ (o : Option ℕ). StepsOf o (λ q. Ask q (record { name = word; args = terms })) old answer new) (sym found) asks in
    let obeys = subst (λ (c : Command). Executes c old answer new) (sym is) of_name in
    inl (subst (λ (s : ScriptState). Executes call_command old answer s) (sym same) obeys)
execute-ask old new after call_command name word terms p call answer is found made same (inr kept) = inr (subst (λ (s : ScriptState). KeepsState old NoMemory answer s) (sym same) kept)

pub execute-ask-pending : (old mid new after : ScriptState) (call_command : Command) (name word : List ℕ) (terms : List Term) (p : ℕ) (call : Call) (answer : Answer)
    → call_command ≡ ask name word terms → pid_of old name ≡ Some p → call ≡ record { name = word; args = terms } → after ≡ new
    → mid ≡ old → Steps mid (Ask p call) answer new ⊎ KeepsState mid NoMemory answer new
    → Executes call_command old answer after ⊎ KeepsState old NoMemory answer after
execute-ask-pending old mid new after call_command name word terms p call answer is found made same kept_before did =
    execute-ask old new after call_command name word terms p call answer is found made same (subst (λ (s : ScriptState). Steps s (Ask p call) answer new ⊎ KeepsState s NoMemory answer new) kept_before did)
