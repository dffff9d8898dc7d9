use denote.Exit
use denote.Param.{param, copied}
use denote.Param.Send.{IsSend, IsSync, param_send, param_sync, arg_send, sendable}
use mathlib.Core.List.{[], ◌∷◌}
use mir.Syntax.{named}
use Rattle.std.proofs.Common.{rules}
use Rattle.std.proofs.Crossing.{crosses}
use Rattle.ets_term.proofs.term.Term.TheLaws.TheKnot as terms
use Rattle.node_shared.proofs.Sent.{client_send}
use Rattle.test_shared.proofs.Sent.{drawing_send}
use Rattle.test_shared.proofs.tests.drawing.visits.Goals as goal

pub join-one_client-requires-send-F : goal.join-one_client-requires-send-F
join-one_client-requires-send-F g c κs within =
    let runs : IsSync g.row.R = search rules parts 8 in
    let hash : IsSend (copied 1 g.row.H) = search rules parts 8 in
    param_send 1 _ (arg_send _ denote.Exit.no _ (drawing_send
    (named 6) (named 7) (named 8) κs.1.1.1.1.1.1.0 κs.1.1.1.1.1.1.1.0 κs.1.1.1.1.1.1.1.1.0
    (param 0 g.row.L) (copied 1 g.row.H) (param 2 g.row.R) g.L.Ledger g.H.KeyHash g.H.Clone
    (named 9) κs.1.1.1.1.1.1.1.1.1.0
    (116 ∷ 101 ∷ 115 ∷ 116 ∷ 95 ∷ 115 ∷ 104 ∷ 97 ∷ 114 ∷ 101 ∷ 100 ∷ 58 ∷ 58 ∷ 116 ∷ 101 ∷ 115 ∷ 116 ∷ 115 ∷ 58 ∷ 58 ∷ 100 ∷ 114 ∷ 97 ∷ 119 ∷ 105 ∷ 110 ∷ 103 ∷ 58 ∷ 58 ∷ 102 ∷ 110 ∷ 58 ∷ 58 ∷ 118 ∷ 105 ∷ 115 ∷ 105 ∷ 116 ∷ 115 ∷ 58 ∷ 58 ∷ 106 ∷ 111 ∷ 105 ∷ 110 ∷ 43 ∷ 97 ∷ 114 ∷ 103 ∷ 50 ∷ 43 ∷ 83 ∷ 101 ∷ 108 ∷ 102 ∷ [])
    (param_sync 2 g.row.R runs) hash))

pub join-one_client-requires-send-A : goal.join-one_client-requires-send-A
join-one_client-requires-send-A g c κs within = search (client_send, crosses, terms.crosses, sendable) depth 60 fits 20000
