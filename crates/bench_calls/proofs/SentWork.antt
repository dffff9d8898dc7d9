-- The thread of a server's caller takes with it what may go to another thread.
use denote.RattleType.{RattleType}
use denote.Param.Send.{IsSend, IsSync, sendable, shr_send}
use denote.Builtin.{usize}
use denote.Ref.{ShrRef}
use denote.Struct.Tuple.{TupleAt}
use base.Fml.{Lft}
use mir.Syntax.{Sym, Lifetime}
use mathlib.Core.List.{List, [], ◌∷◌}
use Rattle.std.proofs.Crossing.{crosses, Vec-send}
use Rattle.std.specs.contracts.alloc.Global as Global
use Rattle.std.specs.contracts.vec.Vec as Vec
use Rattle.std.specs.contracts.impls.GlobalAllocator.TheImpl.{ghosts}
use Rattle.std.specs.declared.clone.Clone as Clone
use Rattle.ets_term.specs.declared.key_hash.KeyHash as KeyHash
use Rattle.ets_term.proofs.term.Term.TheLaws.TheKnot as terms
use Rattle.node_core.specs.contracts.step.Call as Call
use Rattle.node_shared.specs.declared.history.HistoryId as HistoryId
use Rattle.node_shared.specs.contracts.caller.Caller as Caller
use Rattle.node_shared.specs.contracts.server.Server as Server
use Rattle.node_shared.proofs.Sent.{captures_send}
use Rattle.node_shared.proofs.SentServers.{caller_send, server_sync}

calls_per_lock_send : IsSend usize
calls_per_lock_send = search sendable

call_send : IsSend Call.the_row
call_send = search (crosses, terms.crosses, sendable) depth 60 fits 20000

module _ (a b : Lifetime) (α β : Lft) (B H R : RattleType) (l : HistoryId.Ghosts B.Denot) (k : KeyHash.Ghosts H.Denot) (c : Clone.Ghosts H.Denot) where
  -- a caller with its calls, and how many it makes each time it has the lock
  abbrev Turn : RattleType
  Turn = TupleAt (40 ∷ 44 ∷ 44 ∷ 41 ∷ []) (Caller.the_row B l ∷ Vec.the_row Call.the_row Global.the_row ghosts ∷ usize ∷ [])

  abbrev pub Taken : List RattleType
  Taken = ShrRef a α R ∷ ShrRef b β (Server.the_row B H l k c) ∷ Vec.the_row Turn Global.the_row ghosts ∷ []

  pub taken_send : (name : Sym) → IsSync R → IsSend B → IsSync B → IsSend H → IsSync H → IsSend (TupleAt name Taken)
  taken_send name runs room rooms hash hashes =
      captures_send name Taken (
        shr_send a α R runs,
        (
          shr_send b β (Server.the_row B H l k c) (server_sync B l room H k c hash rooms hashes),
          (Vec-send Turn (captures_send (40 ∷ 44 ∷ 44 ∷ 41 ∷ []) (Caller.the_row B l ∷ Vec.the_row Call.the_row Global.the_row ghosts ∷ usize ∷ []) (caller_send B l room, (Vec-send Call.the_row call_send, (calls_per_lock_send, tt)))), tt),
        ),
      )
