use denote.Exit
use denote.Param.{param, copied}
use denote.Param.Send.{IsSend, IsSync, param_send, param_sync, arg_send}
use mathlib.Core.List.{[], ◌∷◌}
use mir.Syntax.{named}
use Rattle.std.proofs.Common.{rules}
use Rattle.ets_script.proofs.Sent.{keep-send}
use Rattle.ets_script.proofs.processes.run_and_keep.Goals as goal

pub join-kept-requires-send-F : goal.join-kept-requires-send-F
join-kept-requires-send-F g c κs within =
    let runs : IsSync g.row.T = search rules parts 8 in
    let hash : IsSend (copied 2 g.row.H) = search rules parts 8 in
    param_send 1 _ (arg_send _ denote.Exit.no _ (keep-send (101 ∷ 116 ∷ 115 ∷ 95 ∷ 115 ∷ 99 ∷ 114 ∷ 105 ∷ 112 ∷ 116 ∷ 58 ∷ 58 ∷ 112 ∷ 114 ∷ 111 ∷ 99 ∷ 101 ∷ 115 ∷ 115 ∷ 101 ∷ 115 ∷ 58 ∷ 58 ∷ 102 ∷ 110 ∷ 58 ∷ 58 ∷ 114 ∷ 117 ∷ 110 ∷ 95 ∷ 97 ∷ 110 ∷ 100 ∷ 95 ∷ 107 ∷ 101 ∷ 101 ∷ 112 ∷ 58 ∷ 58 ∷ 106 ∷ 111 ∷ 105 ∷ 110 ∷ 43 ∷ 97 ∷ 114 ∷ 103 ∷ 50 ∷ 43 ∷ 83 ∷ 101 ∷ 108 ∷ 102 ∷ [])
    (named 6) (named 7) κs.1.1.1.1.1.1.0 κs.1.1.1.1.1.1.1.0
    (param 0 g.row.L) (param 1 g.row.T) (copied 2 g.row.H) g.L.Ledger g.H.KeyHash g.H.Clone
    (param_sync 1 g.row.T runs) hash))
