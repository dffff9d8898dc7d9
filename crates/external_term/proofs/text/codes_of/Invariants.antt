use Rattle.std.proofs.Common.{◌≡◌, ◌≤◌, take, map, length, vec_len, vec_capacity}
use Rattle.external_term.specs.Texts.{code}
use Rattle.external_term.proofs.text.codes_of.Given as goal

abbrev pub invariant-loop-c : goal.invariant-loop-c
invariant-loop-c l = record {
  codes : l.codes.items ≡ map code (take l.c-index l.chars);
  len : vec_len l.codes ≡ l.c-index;
  room : length l.chars ≤ vec_capacity l.codes;
}
