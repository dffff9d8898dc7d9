use Rattle.std.proofs.Common.{◌==◌, false, ap, ◌∙◌}
use Rattle.std.specs.Prelude.{is_some}
use Rattle.std.specs.Map.{set_value}
use Rattle.ownership.specs.declared.process.Process.{Process}
use Rattle.ownership.specs.World.{Processes, process_at}
use Rattle.ownership.proofs.Posting.{set_value-twice, set_value-same, lookup-set_value}
use Rattle.ownership.proofs.world.end.post_transfers.Goals as goal

pub replace_process-requires : goal.replace_process-requires
replace_process-requires g c =
    let p = c.args.pid in
    let before = c.args.processes.now.entries in
    let none : Process = record { lives = false; mailbox = c.new.result } in
    ap (λ (ps : Processes). is_some (process_at ps p)) (c.in-Err.ensures.err ∙ c.replace_process-process.ensures.new) ∙ ap is_some (lookup-set_value (λ q. p == q) before c.replace_process-process.result none c.replace_process-process.ensures.old)

pub returns-in-Err-clause-err : goal.returns-in-Err-clause-err
returns-in-Err-clause-err g c =
    let p = c.args.pid in
    let before = c.args.processes.now.entries in
    let process = c.replace_process-process.result in
    let none : Process = record { lives = false; mailbox = c.new.result } in
    c.replace_process.ensures.new ∙ ap (λ (ps : Processes). set_value (λ q. p == q) ps process) (c.in-Err.ensures.err ∙ c.replace_process-process.ensures.new)
    ∙ set_value-twice (λ q. p == q) before none process ∙ set_value-same (λ q. p == q) before process c.replace_process-process.ensures.old
