-- The threads of these tests take with them what may go to another thread.
use denote.RattleType.{RattleType}
use denote.Param.Send.{IsSend, IsSync, sendable, shr_send}
use denote.Ref.{ShrRef}
use denote.Struct.Tuple.{TupleAt}
use base.Fml.{Lft}
use mir.Syntax.{Sym, Lifetime}
use mathlib.Core.List.{List, [], ◌∷◌}
use Rattle.std.proofs.Crossing.{crosses}
use Rattle.std.specs.contracts.sync.atomic.AtomicBool as AtomicBool
use Rattle.std.specs.declared.clone.Clone as Clone
use Rattle.std.specs.declared.sync.ledger.Ledger as Ledger
use Rattle.ets_term.specs.declared.key_hash.KeyHash as KeyHash
use Rattle.ets_term.proofs.term.Term.TheLaws.TheKnot as terms
use Rattle.node_core.specs.contracts.step.Call as Call
use Rattle.node_shared.specs.contracts.pids.Pids as Pids
use Rattle.node_shared.specs.contracts.pids.Seat as Seat
use Rattle.node_shared.specs.contracts.shared.Shared as Shared
use Rattle.node_shared.proofs.pids.Pids.TheSendSync as pids
use Rattle.node_shared.proofs.pids.Seat.TheSendSync as seat
use Rattle.node_shared.proofs.Sent.{captures_send, shared_sync}

flag_sync : IsSync AtomicBool.the_row
flag_sync = search (crosses, sendable) depth 60 fits 20000

call_sync : IsSync Call.the_row
call_sync = search (crosses, terms.crosses, sendable) depth 60 fits 20000

module _ (a b d : Lifetime) (α β γ : Lft) (L H R : RattleType) (l : Ledger.Ghosts L.Denot) (k : KeyHash.Ghosts H.Denot) (c : Clone.Ghosts H.Denot) where
  -- what the thread that runs pending steps takes with it
  abbrev pub Keeping : List RattleType
  Keeping = ShrRef a α R ∷ ShrRef b β (Shared.the_row L H l k c) ∷ ShrRef d γ AtomicBool.the_row ∷ []

  pub keeping_send : (name : Sym) → IsSync R → IsSend H → IsSend (TupleAt name Keeping)
  keeping_send name runs hash =
      captures_send name Keeping (shr_send a α R runs, (shr_send b β (Shared.the_row L H l k c) (shared_sync L H l k c hash), (shr_send d γ AtomicBool.the_row flag_sync, tt)))

  -- what the thread that draws a number takes with it
  abbrev pub Drawing : Lifetime → Lft → List RattleType
  Drawing e δ = ShrRef a α R ∷ ShrRef b β (Shared.the_row L H l k c) ∷ ShrRef d γ Pids.the_row ∷ Seat.the_row ∷ ShrRef e δ Call.the_row ∷ []

  pub drawing_send : (e : Lifetime) (δ : Lft) (name : Sym) → IsSync R → IsSend H → IsSend (TupleAt name (Drawing e δ))
  drawing_send e δ name runs hash =
      captures_send name (Drawing e δ) (
        shr_send a α R runs,
        (shr_send b β (Shared.the_row L H l k c) (shared_sync L H l k c hash), (shr_send d γ Pids.the_row pids.the_sync, (seat.the_send, (shr_send e δ Call.the_row call_sync, tt)))),
      )
