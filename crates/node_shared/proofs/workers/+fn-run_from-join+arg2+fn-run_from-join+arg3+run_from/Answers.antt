use denote.Exit
use denote.Param.{param, copied}
use denote.Param.Send.{IsSend, IsSync, param_send, param_sync, arg_send, sendable}
use mathlib.Core.List.{[], ◌∷◌}
use mir.Syntax.{named}
use Rattle.node_shared.proofs.Sent.{work_send, client_send}
use Rattle.std.proofs.Common.{◌≡◌, ◌++◌, ◌/◌, take, drop, ◌∙◌, subst, rules, IfOk}
use Rattle.std.proofs.Crossing.{crosses}
use Rattle.std.proofs.lemmas.List.{take-append-drop}
use Rattle.node_shared.specs.Working.{AllWorked}
use Rattle.node_shared.proofs.Jobs.{all-append}
use Rattle.node_shared.proofs.workers.+fn-run_from-join+arg2+fn-run_from-join+arg3+run_from.Goals as goal

pub returns : goal.returns
returns g t c =
    let half = c.len-half.result / 2 in
    let items = c.args.work.items in
    let front = subst (λ r. IfOk r (λ ws. AllWorked c.split_off.new.self.items ws.items)) c.in_ok-done-2.was c.join-front_done.ensures.first in
    let back = subst (λ r. IfOk r (λ ws. AllWorked c.in_ok-back.back.items ws.items)) c.in_ok-others.was c.join-front_done.ensures.second in
    let both = all-append _ _ _ _ front back in
    let left : c.split_off.new.self.items ≡ take half items = c.in_ok-back.ensures.items in
    let right : c.in_ok-back.back.items ≡ drop half items = c.in_ok-back.ensures.tail in
    let all : c.append.new.self.items ≡ c.in_ok-done-2.done.items ++ c.in_ok-others.others.items = c.in_ok-append.ensures.items in
    let whole : c.split_off.new.self.items ++ c.in_ok-back.back.items ≡ items = ◌∙◌ {b = take half items ++ drop half items} (λ i. left i ++ right i) (take-append-drop half items) in
    rw (← whole, all) both

pub join-front_done-requires-send-A : goal.join-front_done-requires-send-A
join-front_done-requires-send-A g t c κs within = search (client_send, crosses, sendable) depth 60 fits 20000

pub join-front_done-requires-send-F : goal.join-front_done-requires-send-F
join-front_done-requires-send-F g t c κs within =
    let runs : IsSync g.row.R = search rules parts 8 in
    let gates : IsSync g.row.G = search rules parts 8 in
    let hash : IsSend (copied 1 g.row.H) = search rules parts 8 in
    param_send 1 _ (arg_send _ denote.Exit.no _ (work_send (110 ∷ 111 ∷ 100 ∷ 101 ∷ 95 ∷ 115 ∷ 104 ∷ 97 ∷ 114 ∷ 101 ∷ 100 ∷ 58 ∷ 58 ∷ 119 ∷ 111 ∷ 114 ∷ 107 ∷ 101 ∷ 114 ∷ 115 ∷ 58 ∷ 58 ∷ 102 ∷ 110 ∷ 58 ∷ 58 ∷ 114 ∷ 117 ∷ 110 ∷ 95 ∷ 102 ∷ 114 ∷ 111 ∷ 109 ∷ 58 ∷ 58 ∷ 106 ∷ 111 ∷ 105 ∷ 110 ∷ 43 ∷ 97 ∷ 114 ∷ 103 ∷ 50 ∷ 43 ∷ 83 ∷ 101 ∷ 108 ∷ 102 ∷ [])
    (named 6) (named 7) (named 8) κs.1.1.1.1.1.1.0 κs.1.1.1.1.1.1.1.0 κs.1.1.1.1.1.1.1.1.0
    (param 0 g.row.L) (copied 1 g.row.H) (param 2 g.row.G) (param 3 g.row.R) g.L.Ledger g.H.KeyHash g.H.Clone
    (param_sync 3 g.row.R runs) (param_sync 2 g.row.G gates) hash))
