use Rattle.ets_c.proofs.request_handle.RequestHandle.TheSendSync as handle
use Rattle.ets_c.proofs.requests.request_handles_are_send.Goals as goal

pub returns : goal.returns
returns c = handle.the_send
