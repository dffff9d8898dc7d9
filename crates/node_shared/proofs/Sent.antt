-- Threads may share the node after its lock where its hasher may go from one to another.
use denote.RattleType.{RattleType}
use denote.Param.Send.{IsSend, IsSync, sendable, view_send, recorded_send, struct_send}
use mir.Syntax.{Sym}
use mathlib.Core.List.{List, [], ◌∷◌}
use base.Fml.{Lft}
use denote.Builtin.{usize}
use denote.Ref.{ShrRef}
use denote.Param.Send.{shr_send}
use mir.Syntax.{Lifetime}
use Rattle.std.specs.contracts.alloc.Global as Global
use Rattle.std.specs.contracts.vec.Vec as Vec
use Rattle.std.specs.contracts.impls.GlobalAllocator.TheImpl.{ghosts}
use denote.Struct.Tuple.{TupleAt, field_at, type_at}
use denote.Param.Send.{AllSend}
use denote.Struct.Declared.{shape}
use Rattle.std.specs.declared.clone.Clone as Clone
use Rattle.std.specs.declared.sync.ledger.Ledger as Ledger
use Rattle.std.proofs.Crossing.{crosses, Arc-send, Vec-send}
use Rattle.std.proofs.alloc.Global.TheSendSync as global
use Rattle.std.proofs.sync.ledger.Book.TheSendSync as total
use Rattle.std.proofs.sync.ledger.Share.TheSendSync as share
use Rattle.ets_term.specs.declared.key_hash.KeyHash as KeyHash
use Rattle.ets_term.proofs.term.Term.TheLaws.TheKnot as terms
use Rattle.node_core.proofs.limits.Limits.TheSendSync as limits
use Rattle.node_core.proofs.Sent.{node_send}
use Rattle.node_shared.proofs.share.Share.TheSendSync as own
use Rattle.node_shared.specs.contracts.entry.Entry as Entry
use Rattle.node_shared.specs.contracts.shared_entry.SharedEntry as SharedEntry
use Rattle.node_shared.specs.contracts.shared_entry.SharedEntry.TheInside as shared_entry
use Rattle.node_shared.specs.contracts.book.Book as Book
use Rattle.node_shared.specs.contracts.book.Book.TheInside as book
use Rattle.node_shared.specs.contracts.shared.Shared as Shared
use Rattle.node_shared.specs.contracts.client.Client as Client
use Rattle.node_shared.specs.contracts.client.Client.TheInside as client
use Rattle.node_shared.specs.contracts.job.Job as Job

pub entry_send : IsSend Entry.the_row
entry_send = search (crosses, terms.crosses, sendable) depth 60 fits 20000

entry_sync : IsSync Entry.the_row
entry_sync = search (crosses, terms.crosses, sendable) depth 60 fits 20000

shared_entry_send : IsSend SharedEntry.the_row
shared_entry_send =
    view_send shared_entry.the_row _ _ _ _ (recorded_send shared_entry.the_field.row _ _ shared_entry.the_type.to_one (struct_send (shape shared_entry.the_type) (Arc-send _ entry_send entry_sync, tt)))

pub job_send : IsSend Job.the_row
job_send = search (crosses, terms.crosses, sendable) depth 60 fits 20000

module _ (L H : RattleType) (l : Ledger.Ghosts L.Denot) (k : KeyHash.Ghosts H.Denot) (c : Clone.Ghosts H.Denot) (s : IsSend H) where
  pub book_send : IsSend (Book.the_row L H l k c)
  book_send =
      view_send (book.the_row L H l k c) _ _ _ _ (recorded_send (book.the_field L H l k c).row _ _ (book.the_type L H l k c).to_one (struct_send (shape (book.the_type L H l k c)) (
        global.the_field_send,
        (
          limits.the_field_send,
          (
            node_send H k c s,
            (
              Vec-send _ shared_entry_send,
              (
                total.the_send L l,
                (share.the_send L l, tt),
              ),
            ),
          ),
        ),
      )))

  pub shared_sync : IsSync (Shared.the_row L H l k c)
  shared_sync = search (book_send, crosses, sendable) depth 60 fits 20000

pub client_send : (L : RattleType) (l : Ledger.Ghosts L.Denot) → IsSend (Client.the_row L l)
client_send L l =
    view_send (client.the_row L l) _ _ _ _ (recorded_send (client.the_field L l).row _ _ (client.the_type L l).to_one (struct_send (shape (client.the_type L l)) (
      global.the_field_send,
      (
        own.the_send L l,
        (Vec-send _ shared_entry_send, tt),
      ),
    )))

-- a closure may be sent if all that it captures may be sent
pub captures_send : (name : Sym) (Ts : List RattleType) → AllSend (shape (type_at name Ts)).fields → IsSend (TupleAt name Ts)
captures_send name Ts s = recorded_send (field_at name Ts).row _ _ (type_at name Ts).to_one (struct_send (shape (type_at name Ts)) s)

-- what the closure of one half of the clients captures
abbrev pub Taken : (a b d : Lifetime) (α β γ : Lft) (L H G R : RattleType) (l : Ledger.Ghosts L.Denot) (k : KeyHash.Ghosts H.Denot) (c : Clone.Ghosts H.Denot) → List RattleType
Taken a b d α β γ L H G R l k c =
    ShrRef a α R ∷ Global.the_row ∷ ShrRef b β (Shared.the_row L H l k c) ∷ usize
    ∷ Vec.the_row (TupleAt (40 ∷ 44 ∷ 41 ∷ []) (Client.the_row L l ∷ Vec.the_row Job.the_row Global.the_row ghosts ∷ [])) Global.the_row ghosts ∷ ShrRef d γ G ∷ []

size_send : IsSend usize
size_send = search sendable

pub work_send : (name : Sym) (a b d : Lifetime) (α β γ : Lft) (L H G R : RattleType) (l : Ledger.Ghosts L.Denot) (k : KeyHash.Ghosts H.Denot) (c : Clone.Ghosts H.Denot)
    → IsSync R → IsSync G → IsSend H → IsSend (TupleAt name (Taken a b d α β γ L H G R l k c))
work_send name a b d α β γ L H G R l k c runs gates hash =
    captures_send name (Taken a b d α β γ L H G R l k c) (
      shr_send a α R runs,
      (
        global.the_send,
        (
          shr_send b β (Shared.the_row L H l k c) (shared_sync L H l k c hash),
          (
            size_send,
            (
              Vec-send (TupleAt (40 ∷ 44 ∷ 41 ∷ []) (Client.the_row L l ∷ Vec.the_row Job.the_row Global.the_row ghosts ∷ []))
                  (captures_send (40 ∷ 44 ∷ 41 ∷ []) (Client.the_row L l ∷ Vec.the_row Job.the_row Global.the_row ghosts ∷ []) (client_send L l, (Vec-send Job.the_row job_send, tt))),
              (shr_send d γ G gates, tt),
            ),
          ),
        ),
      ),
    )
