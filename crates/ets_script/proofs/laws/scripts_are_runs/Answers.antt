use Rattle.std.specs.Prelude.{◌≡◌, [], ⊤}
use Rattle.std.specs.Io.KnownBytes.{IsAtEnd}
use Rattle.ets_script.proofs.ScriptRuns.{lines-are-runs, script-walks-are-whole}
use Rattle.ets_script.proofs.laws.scripts_are_runs.Goals as goal

pub returns-clause-script : goal.returns-clause-script
returns-clause-script c = lines-are-runs ⊤

pub returns-clause-lines : goal.returns-clause-lines
returns-clause-lines c = lines-are-runs ⊥

pub returns-clause-stopped : goal.returns-clause-stopped
returns-clause-stopped c unread left = lines-are-runs ((unread ≡ []) × IsAtEnd left)

pub returns-clause-traversals : goal.returns-clause-traversals
returns-clause-traversals c = script-walks-are-whole
