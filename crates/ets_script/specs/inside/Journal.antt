-- What private contracts say of the printing of a journal.
use Rattle.std.specs.Prelude.{ℕ, zero, suc, List, [], ◌++◌, codes, flat_map}
use Rattle.ets_script.specs.Threads.{line_of, entry_text, stopped_text, threads_text}
use Rattle.ets_script.specs.declared.plan.PlannedAnswers.{PlannedAnswers}
use Rattle.ets_script.specs.declared.processes.RunResult.{RunResult}

-- the line of a process with this number of jobs left
abbrev pub stop_text : List ℕ → ℕ → List ℕ
stop_text name zero = []
stop_text name (suc n) = line_of name (codes "** nomem")

-- the replies of the processes, in the order of the journal, and the lines of those that stopped
abbrev pub run_text : List (List ℕ) → RunResult → List ℕ
run_text names run = flat_map (entry_text names) run.entries.items ++ stopped_text names run.left.items

-- the text of the planned answers and of the results of the processes
abbrev pub out_text : PlannedAnswers → RunResult → List ℕ
out_text planned run = threads_text planned.answers planned.names run.entries.items run.left.items
