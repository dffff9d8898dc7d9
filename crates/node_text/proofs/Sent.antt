-- A store and a request may move to another thread.
use denote.Param.Send.{IsSend, sendable, view_send, recorded_send, struct_send}
use denote.Builtin.{u8}
use denote.Struct.Declared.{shape}
use Rattle.std.specs.Prelude.{⊤}
use Rattle.std.proofs.Crossing.{crosses, Vec-send}
use Rattle.ets_term.proofs.term.Term.TheLaws.TheKnot as terms
use Rattle.node_core.specs.contracts.step.Reply as Reply
use Rattle.node_core.specs.contracts.step.Step as Step
use Rattle.node_core.proofs.Sent.{node_send}
use Rattle.std.specs.contracts.option.Option as Option
use Rattle.std.proofs.option.Option.TheSendSync as option
use Rattle.node_text.specs.contracts.last_refusal.LastRefusal as LastRefusal
use Rattle.node_text.specs.contracts.store_hash.StoreHash as StoreHash
use Rattle.node_text.specs.contracts.store_hash.StoreHashKeyHash.TheImpl.{ghosts as hash_ghosts}
use Rattle.node_text.proofs.store_hash.StoreHash.TheSendSync as hash
use Rattle.node_text.specs.contracts.store.Store as Store
use Rattle.node_text.specs.contracts.store.Store.TheInside as store
use Rattle.node_text.specs.contracts.store.request.Request as Request
use Rattle.node_text.specs.contracts.store.request.Request.TheInside as request

reply_send : IsSend Reply.the_field.row
reply_send = search (crosses, terms.crosses, sendable) depth 60 fits 20000

byte_send : IsSend u8
byte_send = search sendable

refusal_send : IsSend (Option.the_field LastRefusal.the_row).row
refusal_send = search (crosses, terms.crosses, sendable) depth 60 fits 20000

pub store_send : IsSend Store.the_row
store_send =
    view_send store.the_row _ _ _ _ (recorded_send store.the_field.row _ _ store.the_type.to_one (struct_send (shape store.the_type) (
      node_send StoreHash.the_row hash_ghosts (record { is_clone = λ _ _. ⊤; is_infallible = λ _. ⊥ }) hash.the_send,
      (reply_send, (refusal_send, (reply_send, (Vec-send _ byte_send, tt)))),
    )))

step_send : IsSend Step.the_row
step_send = search (crosses, terms.crosses, sendable) depth 60 fits 20000

pub request_send : IsSend Request.the_row
request_send =
    view_send request.the_row _ _ _ _ (recorded_send request.the_field.row _ _ request.the_type.to_one (struct_send (shape request.the_type) (
      option.the_field_send Step.the_row step_send,
      (reply_send, (refusal_send, (Vec-send _ byte_send, tt))),
    )))
