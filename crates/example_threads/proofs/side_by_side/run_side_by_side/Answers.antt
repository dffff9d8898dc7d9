use denote.Exit
use denote.Param.{param, copied}
use denote.Param.Send.{IsSend, IsSync, param_send, param_sync, arg_send, sendable}
use mathlib.Core.List.{[], ◌∷◌}
use mir.Syntax.{named}
use Rattle.std.proofs.Common.{rules}
use Rattle.std.proofs.Crossing.{crosses}
use Rattle.ets_term.proofs.term.Term.TheLaws.TheKnot as terms
use Rattle.node_shared.proofs.Sent.{client_send}
use Rattle.example_threads.proofs.Sent.{traversing_send}
use Rattle.example_threads.proofs.side_by_side.run_side_by_side.Goals as goal

pub join-traversal-requires-send-F : goal.join-traversal-requires-send-F
join-traversal-requires-send-F g c κs within =
    let runs : IsSync g.row.R = search rules parts 8 in
    let hash : IsSend (copied 1 g.row.H) = search rules parts 8 in
    param_send 1 _ (arg_send _ denote.Exit.no _ (traversing_send
    (named 6) (named 7) κs.1.1.1.1.1.1.0 κs.1.1.1.1.1.1.1.0
    (param 0 g.row.L) (copied 1 g.row.H) (param 2 g.row.R) g.L.Ledger g.H.KeyHash g.H.Clone
    (101 ∷ 120 ∷ 97 ∷ 109 ∷ 112 ∷ 108 ∷ 101 ∷ 95 ∷ 116 ∷ 104 ∷ 114 ∷ 101 ∷ 97 ∷ 100 ∷ 115 ∷ 58 ∷ 58 ∷ 115 ∷ 105 ∷ 100 ∷ 101 ∷ 95 ∷ 98 ∷ 121 ∷ 95 ∷ 115 ∷ 105 ∷ 100 ∷ 101 ∷ 58 ∷ 58 ∷ 102 ∷ 110 ∷ 58 ∷ 58 ∷ 114 ∷ 117 ∷ 110 ∷ 95 ∷ 115 ∷ 105 ∷ 100 ∷ 101 ∷ 95 ∷ 98 ∷ 121 ∷ 95 ∷ 115 ∷ 105 ∷ 100 ∷ 101 ∷ 58 ∷ 58 ∷ 106 ∷ 111 ∷ 105 ∷ 110 ∷ 43 ∷ 97 ∷ 114 ∷ 103 ∷ 50 ∷ 43 ∷ 83 ∷ 101 ∷ 108 ∷ 102 ∷ [])
    (param_sync 2 g.row.R runs) hash))

pub join-traversal-requires-send-A : goal.join-traversal-requires-send-A
join-traversal-requires-send-A g c κs within = search (client_send, crosses, terms.crosses, sendable) depth 60 fits 20000
