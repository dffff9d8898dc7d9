use denote.Exit
use denote.Param.{param, copied}
use denote.Param.Send.{IsSend, IsSync, param_send, param_sync, arg_send}
use mathlib.Core.List.{[], ◌∷◌}
use mir.Syntax.{named}
use Rattle.std.proofs.Common.{rules}
use Rattle.test_shared.proofs.Sent.{keeping_send}
use Rattle.test_shared.proofs.tests.keeper.run_side_by_side.Goals as goal

pub join-workers-requires-send-F : goal.join-workers-requires-send-F
join-workers-requires-send-F g c κs within =
    let runs : IsSync g.row.R = search rules parts 8 in
    let hash : IsSend (copied 1 g.row.H) = search rules parts 8 in
    param_send 1 _ (arg_send _ denote.Exit.no _ (keeping_send
    (named 6) (named 7) (named 8) κs.1.1.1.1.1.1.0 κs.1.1.1.1.1.1.1.0 κs.1.1.1.1.1.1.1.1.0
    (param 0 g.row.L) (copied 1 g.row.H) (param 2 g.row.R) g.L.Ledger g.H.KeyHash g.H.Clone
    (116 ∷ 101 ∷ 115 ∷ 116 ∷ 95 ∷ 115 ∷ 104 ∷ 97 ∷ 114 ∷ 101 ∷ 100 ∷ 58 ∷ 58 ∷ 116 ∷ 101 ∷ 115 ∷ 116 ∷ 115 ∷ 58 ∷ 58 ∷ 107 ∷ 101 ∷ 101 ∷ 112 ∷ 101 ∷ 114 ∷ 58 ∷ 58 ∷ 102 ∷ 110 ∷ 58 ∷ 58 ∷ 114 ∷ 117 ∷ 110 ∷ 95 ∷ 115 ∷ 105 ∷ 100 ∷ 101 ∷ 95 ∷ 98 ∷ 121 ∷ 95 ∷ 115 ∷ 105 ∷ 100 ∷ 101 ∷ 58 ∷ 58 ∷ 106 ∷ 111 ∷ 105 ∷ 110 ∷ 43 ∷ 97 ∷ 114 ∷ 103 ∷ 50 ∷ 43 ∷ 83 ∷ 101 ∷ 108 ∷ 102 ∷ [])
    (param_sync 2 g.row.R runs) hash))
