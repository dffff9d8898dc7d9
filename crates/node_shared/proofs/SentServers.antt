-- A caller may go to another thread. Threads may share a server where its hasher may go from one to another and be shared.
use denote.RattleType.{RattleType}
use denote.Builtin.{u64}
use denote.Param.Send.{IsSend, IsSync, sendable, part_keyless, view_send, view_sync, recorded_send, recorded_sync, struct_send, struct_sync}
use denote.Struct.Declared.{shape}
use Rattle.std.specs.declared.clone.Clone as Clone
use Rattle.std.proofs.Crossing.{crosses}
use Rattle.std.proofs.sync.RwLock.TheSendSync as lock
use Rattle.logbook.specs.contracts.tokens.Pen as Pen
use Rattle.logbook.proofs.tokens.Seen.TheSendSync as seen
use Rattle.logbook.proofs.tokens.Pen.TheSendSync as pen
use Rattle.logbook.proofs.word.Word.TheSendSync as word
use Rattle.ets_term.specs.declared.key_hash.KeyHash as KeyHash
use Rattle.node_core.proofs.Sent.{node_send}
use Rattle.node_shared.proofs.SentNodes.{node_sync}
use Rattle.node_shared.specs.declared.history.HistoryId as HistoryId
use Rattle.node_shared.specs.contracts.history.SeenHistory as SeenHistory
use Rattle.node_shared.specs.contracts.history.SeenHistory.TheInside as shown
use Rattle.node_shared.specs.contracts.history.owner.HistoryOwner as HistoryOwner
use Rattle.node_shared.specs.contracts.history.owner.HistoryOwner.TheInside as owner
use Rattle.node_shared.specs.contracts.history.writer.HistoryWriter as HistoryWriter
use Rattle.node_shared.specs.contracts.history.writer.HistoryWriter.TheInside as writer
use Rattle.node_shared.specs.contracts.served.ServedNode as ServedNode
use Rattle.node_shared.specs.contracts.served.ServedNode.TheInside as served
use Rattle.node_shared.specs.contracts.server.Server as Server
use Rattle.node_shared.specs.contracts.caller.Caller as Caller
use Rattle.node_shared.specs.contracts.caller.Caller.TheInside as caller

-- a pen has no bytes, and no `&` to it lets anything be done with it
pen_sync : IsSync Pen.the_row
pen_sync = record { shared = λ d b o κ q. part_keyless Pen.the_row pen.the_send q d b o }

number_send : IsSend u64
number_send = search sendable

number_sync : IsSync u64
number_sync = search sendable

module _ (B : RattleType) (b : HistoryId.Ghosts B.Denot) (r : IsSend B) where
  pub shown_send : IsSend (SeenHistory.the_row B b)
  shown_send =
      view_send (shown.the_row B b) _ _ _ _ (recorded_send (shown.the_field B b).row _ _ (shown.the_type B b).to_one (struct_send (shape (shown.the_type B b)) (search (seen.the_send, sendable) depth 60 fits 20000, (search sendable, tt))))

  pub owner_send : IsSend (HistoryOwner.the_row B b)
  owner_send =
      view_send (owner.the_row B b) _ _ _ _ (recorded_send (owner.the_field B b).row _ _ (owner.the_type B b).to_one (struct_send (shape (owner.the_type B b)) (search (seen.the_send, sendable) depth 60 fits 20000, (pen.the_send, (search sendable, tt)))))

  pub writer_send : IsSend (HistoryWriter.the_row B b)
  writer_send =
      view_send (writer.the_row B b) _ _ _ _ (recorded_send (writer.the_field B b).row _ _ (writer.the_type B b).to_one (struct_send (shape (writer.the_type B b)) (search sendable, (search (seen.the_send, sendable) depth 60 fits 20000, (pen.the_send, (search (word.the_send, sendable) depth 60 fits 20000, (search sendable, tt)))))))

  pub caller_send : IsSend (Caller.the_row B b)
  caller_send =
      view_send (caller.the_row B b) _ _ _ _ (recorded_send (caller.the_field B b).row _ _ (caller.the_type B b).to_one (struct_send (shape (caller.the_type B b)) (writer_send, (shown_send, (number_send, tt)))))

  module _ (H : RattleType) (k : KeyHash.Ghosts H.Denot) (c : Clone.Ghosts H.Denot) (s : IsSend H) where
    pub served_send : IsSend (ServedNode.the_row B H b k c)
    served_send =
        view_send (served.the_row B H b k c) _ _ _ _ (recorded_send (served.the_field B H b k c).row _ _ (served.the_type B H b k c).to_one (struct_send (shape (served.the_type B H b k c)) (
          node_send H k c s,
          (owner_send, (number_send, tt)),
        )))

    module _ (y : IsSync B) (z : IsSync H) where
      owner_sync : IsSync (HistoryOwner.the_row B b)
      owner_sync =
          view_sync (owner.the_row B b) _ _ _ _ (recorded_sync (owner.the_field B b).row _ _ (owner.the_type B b).to_one (struct_sync (shape (owner.the_type B b)) (search (seen.the_sync, sendable) depth 60 fits 20000, (pen_sync, (search sendable, tt)))))

      pub served_sync : IsSync (ServedNode.the_row B H b k c)
      served_sync =
          view_sync (served.the_row B H b k c) _ _ _ _ (recorded_sync (served.the_field B H b k c).row _ _ (served.the_type B H b k c).to_one (struct_sync (shape (served.the_type B H b k c)) (
            node_sync H k c z,
            (owner_sync, (number_sync, tt)),
          )))

      pub server_sync : IsSync (Server.the_row B H b k c)
      server_sync =
          recorded_sync (Server.the_field B H b k c).row _ _ (Server.the_type B H b k c).to_one (struct_sync (shape (Server.the_type B H b k c)) (
            search (word.the_sync, crosses, sendable) depth 60 fits 20000,
            (search (served_send, served_sync, lock.the_field_sync, crosses, sendable) depth 60 fits 20000, tt),
          ))
