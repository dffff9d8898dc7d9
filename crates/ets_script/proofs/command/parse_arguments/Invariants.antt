use Rattle.std.proofs.Common.{◌≡◌, ◌-◌}
use Rattle.ets_script.specs.Commands.{arguments, arguments_from}
use Rattle.ets_script.proofs.command.parse_arguments.Given as goal

abbrev pub invariant-loop : goal.invariant-loop
invariant-loop l = arguments_from (l.end - l.counter) l.terms l.rest ≡ arguments l.text
