use Rattle.std.proofs.Common.{◌≡◌, take, fold}
use Rattle.ets_term.specs.Encoding.{fnv_step}
use Rattle.ets_term.proofs.fnv.fnv_bytes.Given as goal

abbrev pub invariant-loop-byte : goal.invariant-loop-byte
invariant-loop-byte l = l.hash ≡ fold fnv_step l.start (take l.byte-index l.bytes)
