-- The thread of some teams of callers takes with it what may go to another thread.
use denote.RattleType.{RattleType}
use denote.Param.Send.{IsSend, IsSync, shr_send}
use denote.Ref.{ShrRef}
use denote.Struct.Tuple.{TupleAt}
use base.Fml.{Lft}
use mir.Syntax.{Sym, Lifetime}
use mathlib.Core.List.{List, [], ◌∷◌}
use Rattle.std.proofs.Crossing.{Vec-send}
use Rattle.std.specs.contracts.alloc.Global as Global
use Rattle.std.specs.contracts.vec.Vec as Vec
use Rattle.std.specs.contracts.impls.GlobalAllocator.TheImpl.{ghosts}
use Rattle.std.specs.declared.clone.Clone as Clone
use Rattle.ets_term.specs.declared.key_hash.KeyHash as KeyHash
use Rattle.node_shared.specs.declared.history.HistoryId as HistoryId
use Rattle.node_shared.specs.contracts.caller.Caller as Caller
use Rattle.node_shared.specs.contracts.server.Server as Server
use Rattle.node_shared.proofs.Sent.{captures_send}
use Rattle.node_shared.proofs.SentServers.{caller_send, server_sync}

module _ (a b : Lifetime) (α β : Lft) (B H R : RattleType) (l : HistoryId.Ghosts B.Denot) (k : KeyHash.Ghosts H.Denot) (c : Clone.Ghosts H.Denot) where
  abbrev Team : RattleType
  Team = Vec.the_row (Caller.the_row B l) Global.the_row ghosts

  abbrev pub Taken : List RattleType
  Taken = ShrRef a α R ∷ ShrRef b β (Server.the_row B H l k c) ∷ Vec.the_row Team Global.the_row ghosts ∷ []

  pub taken_send : (name : Sym) → IsSync R → IsSend B → IsSync B → IsSend H → IsSync H → IsSend (TupleAt name Taken)
  taken_send name runs room rooms hash hashes =
      captures_send name Taken (
        shr_send a α R runs,
        (
          shr_send b β (Server.the_row B H l k c) (server_sync B l room H k c hash rooms hashes),
          (Vec-send Team (Vec-send (Caller.the_row B l) (caller_send B l room)), tt),
        ),
      )
