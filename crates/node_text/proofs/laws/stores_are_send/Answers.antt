use denote.Param.Send.{param_send, arg_send}
use Rattle.node_text.proofs.Sent.{store_send}
use Rattle.node_text.proofs.laws.stores_are_send.Goals as goal

pub is_send-requires-send-T : goal.is_send-requires-send-T
is_send-requires-send-T c κs = param_send 0 _ (arg_send _ denote.Exit.no _ store_send)

pub returns : goal.returns
returns c = store_send
