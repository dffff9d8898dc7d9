use Rattle.std.proofs.Common.{map}
use Rattle.clap.specs.Words.{fault_of, matches_of}
use Rattle.ets_script.specs.CommandLine.{conflict_of, options_line}
use Rattle.ets_script.proofs.CommandLine.{fails-first, parse-fault, unanswered}
use Rattle.ets_script.proofs.command_line.parse_options.Goals as goal

pub returns-in_err-options : goal.returns-in_err-options
returns-in_err-options g c =
    let parsed = c.parse_words.ensures in
    let line = options_line parsed.hashes in
    let words = map g.S.AsStr.text c.args.words.now in
    let returned = c.from_residual.ensures.1 in
    let fails = parse-fault (fault_of line words) c.parse_words.result c.in_err-options.field-0.0 c.from_residual.result parsed.faults c.in_err-options.was returned in
    record {
      hashes = parsed.hashes;
      names = parsed.names;
      faults = fails-first (fault_of line words) (conflict_of (matches_of line words)) _ c.from_residual.result returned fails;
      options = unanswered _ _ c.from_residual.result returned;
    }
