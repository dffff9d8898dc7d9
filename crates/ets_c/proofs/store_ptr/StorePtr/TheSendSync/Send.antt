-- A pointer that C keeps may move to another thread, with the store that it owns.
use mir.Raw.{raw}
use base.Shift.{Keyless}
use denote.Memory.{lone}
use denote.RawPtr.{Ptr}
use denote.Builtin.{RawPtr}
use denote.Struct.Struct.{exits_of}
use denote.Struct.Owning.{shape, fields, to}
use denote.Param.Send.{IsSend, AllSend, owning_send, struct_send, sendable}
use Rattle.std.specs.Prelude.{Option, None, Some}
use Rattle.std.specs.declared.alloc.Global.{Global}
use Rattle.std.proofs.Crossing.{frees}
use Rattle.std.proofs.alloc.Global.TheSendSync as global
use Rattle.std_alloc.proofs.SendSync.{lies, quiet}
use Rattle.ets_c.specs.inside.Holds.{holds}
use Rattle.ets_c.specs.contracts.store_ptr.StorePtr as StorePtr
use Rattle.node_text.proofs.Sent.{store_send}
use Rattle.node_text.specs.contracts.store.Store.{the_row as store_row}

pointer_send : IsSend RawPtr
pointer_send = search sendable

holds_keyless : (a : Global) (p : Ptr) (s : Option store_row.Denot) → Keyless (holds store_row a p s)
holds_keyless a p None = tt
holds_keyless a p (Some x) = (lies store_row store_send p x, frees.frees a (raw (lone store_row.mir)) p)

pub send : IsSend StorePtr.the_row
send =
    let O = StorePtr.the_type in
    let all : AllSend (fields O) = (pointer_send, (global.the_field_send, tt)) in
    owning_send O all (λ d. holds_keyless d.alloc d.at d.store) (λ k. quiet (to O) (exits_of k (fields O)) ((struct_send (shape O) all).leaving k))
