-- What the thread that traverses captures may be sent to another thread.
use denote.RattleType.{RattleType}
use denote.Param.Send.{IsSend, IsSync, shr_send}
use denote.Ref.{ShrRef}
use denote.Struct.Tuple.{TupleAt}
use base.Fml.{Lft}
use mir.Syntax.{Sym, Lifetime}
use mathlib.Core.List.{List, [], ◌∷◌}
use Rattle.std.proofs.alloc.Global.TheSendSync as global
use Rattle.std.specs.contracts.alloc.Global as Global
use Rattle.std.specs.declared.clone.Clone as Clone
use Rattle.std.specs.declared.sync.ledger.Ledger as Ledger
use Rattle.ets_term.specs.declared.key_hash.KeyHash as KeyHash
use Rattle.node_shared.specs.contracts.client.Client as Client
use Rattle.node_shared.specs.contracts.shared.Shared as Shared
use Rattle.node_shared.proofs.Sent.{captures_send, client_send, shared_sync}

module _ (a b : Lifetime) (α β : Lft) (L H R : RattleType) (l : Ledger.Ghosts L.Denot) (k : KeyHash.Ghosts H.Denot) (c : Clone.Ghosts H.Denot) where
  abbrev pub Traversing : List RattleType
  Traversing = ShrRef a α R ∷ Global.the_row ∷ ShrRef b β (Shared.the_row L H l k c) ∷ Client.the_row L l ∷ []

  pub traversing_send : (name : Sym) → IsSync R → IsSend H → IsSend (TupleAt name Traversing)
  traversing_send name runs hash =
      captures_send name Traversing (shr_send a α R runs, (global.the_send, (shr_send b β (Shared.the_row L H l k c) (shared_sync L H l k c hash), (client_send L l, tt))))
