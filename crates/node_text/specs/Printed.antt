-- Steps, calls and replies as texts, as a script has them; a process is written as its pid.
use Rattle.std.specs.Prelude.{ℕ, List, ◌++◌, map, false, codes, decimal}
use Rattle.ets_term.specs.declared.term.Term.TheVariants.{Pid, Tid}
use Rattle.node_core.specs.declared.step.Call.{Call}
use Rattle.node_core.specs.declared.step.Reply.{Reply}
use Rattle.node_core.specs.declared.step.Reply.TheVariants.{Value, Badarg, SystemLimit, NoProcess}
use Rattle.node_core.specs.declared.step.Step.{Step}
use Rattle.node_core.specs.declared.step.Step.TheVariants.{Enrol, End, Ask, Grow, Ready}
use Rattle.term_text.specs.Printed.{text_of_term, atom_text, join_with_commas}

-- `insert(t,{a,1})`
abbrev pub call_text : Call → List ℕ
call_text call =
    atom_text call.name ++ (codes "(" ++ (join_with_commas false (map text_of_term call.args) ++ codes ")"))

-- `spawn <0.3.0>`, `exit <0.3.0>`, `<0.3.0> insert(t,{a,1})`, `grow #Tid<2>` and `ready #Tid<2> 5`
abbrev pub step_text : Step → List ℕ
step_text (Enrol p) = codes "spawn " ++ text_of_term (Pid p)
step_text (End p) = codes "exit " ++ text_of_term (Pid p)
step_text (Ask p call) = text_of_term (Pid p) ++ (codes " " ++ call_text call)
step_text (Grow t) = codes "grow " ++ text_of_term (Tid t)
step_text (Ready t bucket) = codes "ready " ++ (text_of_term (Tid t) ++ (codes " " ++ decimal bucket))

-- the term, or the refusal as a script prints it
abbrev pub reply_text : Reply → List ℕ
reply_text (Value term) = text_of_term term
reply_text Badarg = codes "** badarg"
reply_text SystemLimit = codes "** system_limit"
reply_text NoProcess = codes "** noproc"
