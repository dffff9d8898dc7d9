use Rattle.ets_c.proofs.handle.Handle.TheSendSync as handle
use Rattle.ets_c.proofs.handles_are_send.Goals as goal

pub returns : goal.returns
returns c = handle.the_send
