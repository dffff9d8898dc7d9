-- The thread that keeps the node takes with it what may go to another thread.
use denote.RattleType.{RattleType}
use denote.Param.Send.{IsSend, IsSync, sendable, shr_send}
use denote.Builtin.{u32}
use denote.Ref.{ShrRef}
use denote.Struct.Tuple.{TupleAt}
use base.Fml.{Lft}
use mir.Syntax.{Sym, Lifetime}
use mathlib.Core.List.{[], ◌∷◌}
use Rattle.std.specs.declared.clone.Clone as Clone
use Rattle.std.specs.declared.sync.ledger.Ledger as Ledger
use Rattle.ets_term.specs.declared.key_hash.KeyHash as KeyHash
use Rattle.node_shared.specs.contracts.shared.Shared as Shared
use Rattle.node_shared.proofs.Sent.{captures_send, shared_sync}

number-send : IsSend u32
number-send = search sendable

pub keep-send : (name : Sym) (a b : Lifetime) (α β : Lft) (L T H : RattleType) (l : Ledger.Ghosts L.Denot) (k : KeyHash.Ghosts H.Denot) (c : Clone.Ghosts H.Denot)
    → IsSync T → IsSend H → IsSend (TupleAt name (ShrRef a α T ∷ ShrRef b β (Shared.the_row L H l k c) ∷ u32 ∷ []))
keep-send name a b α β L T H l k c runs hash =
    captures_send name (ShrRef a α T ∷ ShrRef b β (Shared.the_row L H l k c) ∷ u32 ∷ [])
    (shr_send a α T runs, (shr_send b β (Shared.the_row L H l k c) (shared_sync L H l k c hash), (number-send, tt)))
