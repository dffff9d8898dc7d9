use Rattle.std.proofs.Common.{◌≡◌, ◌++◌, ◌∷◌, [], length, true, rules}
use Rattle.ets_script.specs.Reads.{read}
use Rattle.ets_script.specs.Commands.{arguments, separator}
use Rattle.ets_script.proofs.Arguments.{one-more}
use Rattle.ets_script.proofs.command.parse_arguments.Goals as goal

pub loop-preserved : goal.loop-preserved
loop-preserved c =
    let pushed : c.push.new.self ≡ c.loop.terms ++ c.in_ok-term.term ∷ [] = search rules in
    let more : separator c.in_ok-term.after.now ≡ read true c.in_ok-more.tail.now = search rules in
    rw pushed (one-more (length c.skip_blanks-rest.result.now) c.loop.counter c.loop.terms c.loop.rest.now c.in_ok-term.after.now c.in_ok-more.tail.now c.in_ok-term.term (arguments c.args.text.now) c.loop-test.true c.loop.invariant c.in_ok-term.ensures more)
