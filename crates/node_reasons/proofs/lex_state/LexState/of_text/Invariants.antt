use Rattle.std.proofs.Common.{◌≡◌, take}
use Rattle.node_reasons.specs.LexStates.{lex_state_of}
use Rattle.node_reasons.proofs.lex_state.LexState.of_text.Given as goal

abbrev pub invariant-loop-byte : goal.invariant-loop-byte
invariant-loop-byte l = l.state ≡ lex_state_of (take l.byte-index l.text)
