use denote.Exit
use denote.Param.{param, copied}
use denote.Param.Send.{IsSend, IsSync, param_send, arg_send}
use mathlib.Core.List.{[], ◌∷◌}
use mir.Syntax.{named}
use Rattle.std.proofs.Common.{rules}
use Rattle.test_shared.proofs.SentTeams.{taken_send}
use Rattle.test_shared.proofs.tests.stressing.+count_right+fn-count_right-join+arg2+fn-count_right-join+arg3.Goals as goal

pub join-front_count-requires-send-F : goal.join-front_count-requires-send-F
join-front_count-requires-send-F g t c κs within =
    let room : IsSend (param 0 g.row.B) = search rules parts 8 in
    let rooms : IsSync (param 0 g.row.B) = search rules parts 8 in
    let runs : IsSync (param 2 g.row.R) = c.requires-raw.1.1.1.1.1.1.1.1.0 in
    let hash : IsSend (copied 1 g.row.H) = search rules parts 8 in
    let hashes : IsSync (copied 1 g.row.H) = search rules parts 8 in
    param_send 1 _ (arg_send _ denote.Exit.no _ (taken_send
    (named 6) (named 7) κs.1.1.1.1.1.1.0 κs.1.1.1.1.1.1.1.0
    (param 0 g.row.B) (copied 1 g.row.H) (param 2 g.row.R) g.B.HistoryId g.H.KeyHash g.H.Clone
    (116 ∷ 101 ∷ 115 ∷ 116 ∷ 95 ∷ 115 ∷ 104 ∷ 97 ∷ 114 ∷ 101 ∷ 100 ∷ 58 ∷ 58 ∷ 116 ∷ 101 ∷ 115 ∷ 116 ∷ 115 ∷ 58 ∷ 58 ∷ 115 ∷ 116 ∷ 114 ∷ 101 ∷ 115 ∷ 115 ∷ 105 ∷ 110 ∷ 103 ∷ 58 ∷ 58 ∷ 102 ∷ 110 ∷ 58 ∷ 58 ∷ 99 ∷ 111 ∷ 117 ∷ 110 ∷ 116 ∷ 95 ∷ 114 ∷ 105 ∷ 103 ∷ 104 ∷ 116 ∷ 58 ∷ 58 ∷ 106 ∷ 111 ∷ 105 ∷ 110 ∷ 43 ∷ 97 ∷ 114 ∷ 103 ∷ 50 ∷ 43 ∷ 83 ∷ 101 ∷ 108 ∷ 102 ∷ [])
    runs room rooms hash hashes))

pub join+arg2-count_right-requires-send-B : goal.join+arg2-count_right-requires-send-B
join+arg2-count_right-requires-send-B g t c κs within = search

pub join+arg2-count_right-requires-send-H : goal.join+arg2-count_right-requires-send-H
join+arg2-count_right-requires-send-H g t c κs within = search

pub join+arg2-count_right-requires-sync-B : goal.join+arg2-count_right-requires-sync-B
join+arg2-count_right-requires-sync-B g t c κs within = search

pub join+arg2-count_right-requires-sync-H : goal.join+arg2-count_right-requires-sync-H
join+arg2-count_right-requires-sync-H g t c κs within = search

pub join+arg2-count_right-requires-sync-R : goal.join+arg2-count_right-requires-sync-R
join+arg2-count_right-requires-sync-R g t c κs within = c.requires

pub fn::count_right::join+arg2+FnOnce::call_once-join+arg2-requires : goal.fn::count_right::join+arg2+FnOnce::call_once-join+arg2-requires
fn::count_right::join+arg2+FnOnce::call_once-join+arg2-requires g t c κs within = search parts 30

pub join+arg3-count_right-requires-send-B : goal.join+arg3-count_right-requires-send-B
join+arg3-count_right-requires-send-B g t c κs within = search

pub join+arg3-count_right-requires-send-H : goal.join+arg3-count_right-requires-send-H
join+arg3-count_right-requires-send-H g t c κs within = search

pub join+arg3-count_right-requires-sync-B : goal.join+arg3-count_right-requires-sync-B
join+arg3-count_right-requires-sync-B g t c κs within = search

pub join+arg3-count_right-requires-sync-H : goal.join+arg3-count_right-requires-sync-H
join+arg3-count_right-requires-sync-H g t c κs within = search

pub join+arg3-count_right-requires-sync-R : goal.join+arg3-count_right-requires-sync-R
join+arg3-count_right-requires-sync-R g t c κs within = c.requires

pub fn::count_right::join+arg3+FnOnce::call_once-join+arg3-requires : goal.fn::count_right::join+arg3+FnOnce::call_once-join+arg3-requires
fn::count_right::join+arg3+FnOnce::call_once-join+arg3-requires g t c κs within = search parts 30
