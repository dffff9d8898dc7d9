use Rattle.std.proofs.Common.{◌≡◌, take, fold}
use Rattle.ets_term.specs.Keyed.{keyed_step}
use Rattle.ets_term.proofs.keyed.mix_bytes.Given as goal

abbrev pub invariant-loop-byte : goal.invariant-loop-byte
invariant-loop-byte l = l.hash ≡ fold (keyed_step l.factor) l.start (take l.byte-index l.bytes)
