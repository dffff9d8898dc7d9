use denote.Param.Send.{param_send, arg_send}
use Rattle.node_text.proofs.Sent.{request_send}
use Rattle.node_text.proofs.laws.requests_are_send.Goals as goal

pub is_send-requires-send-T : goal.is_send-requires-send-T
is_send-requires-send-T c κs = param_send 0 _ (arg_send _ denote.Exit.no _ request_send)

pub returns : goal.returns
returns c = request_send
