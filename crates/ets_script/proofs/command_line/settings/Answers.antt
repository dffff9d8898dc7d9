use Rattle.std.proofs.Common.{arith, ap, codes, List, map, refl, subst}
use Rattle.clap.specs.Words.{App, Row, app_of, fault_of}
use Rattle.ets_script.specs.CommandLine.{AreSettings, command_line}
use Rattle.ets_script.proofs.CommandLine.{parse-no_fault, faults, has_number, lacks-memory, parse-fault, rows, unanswered}
use Rattle.ets_script.proofs.command_line.settings.Goals as goal

pub returns-in_err-settings_command : goal.returns-in_err-settings_command
returns-in_err-settings_command g c =
    let given = c.settings_command.ensures in
    let returned = c.from_residual.ensures.1 in
    record { hashes = given.0; names = given.1; faults = lacks-memory _ c.from_residual.result returned; settings = unanswered _ _ c.from_residual.result returned }

pub returns-in_err-matches : goal.returns-in_err-matches
returns-in_err-matches g c =
    let given = c.in_ok-settings_command.ensures in
    let command = c.in_ok-settings_command.field-0 in
    let returned = c.from_residual-in_err-matches.ensures.1 in
    let words = map g.S.AsStr.text c.args.words.now in
    let known = faults (command_line given.0) (app_of command) words c.try_get_matches_from.result given.2 refl c.try_get_matches_from.ensures.kinds in
    record {
      hashes = given.0;
      names = given.1;
      faults = parse-fault (fault_of (command_line given.0) words) c.try_get_matches_from.result c.in_err-matches.field-0.0 c.from_residual-in_err-matches.result known c.in_err-matches.was returned;
      settings = unanswered _ _ c.from_residual-in_err-matches.result returned;
    }

pub returns : goal.returns
returns g c =
    let given = c.in_ok-settings_command.ensures in
    let command = c.in_ok-settings_command.field-0 in
    let matches = c.in_ok-matches.matches in
    let words = map g.S.AsStr.text c.args.words.now in
    let known = faults (command_line given.0) (app_of command) words c.try_get_matches_from.result given.2 refl c.try_get_matches_from.ensures.kinds in
    let found = rows (command_line given.0) (app_of command) words matches given.2 refl c.in_ok-matches.ensures.matches in
    let objects = has_number command matches (command_line given.0).top 2 (codes "max-objects") (codes "1000000") c.in_ok-matches.ensures.parsed (ap (λ (a : App). a.top) given.2) refl (omega arith) refl refl in
    record {
      hashes = given.0;
      names = given.1;
      faults = parse-no_fault _ c.try_get_matches_from.result matches known c.in_ok-matches.was;
      settings = subst (λ (rs : List Row). AreSettings rs c.settings_of.result) found (c.settings_of.ensures objects);
    }
