use Rattle.std.proofs.Common.{◌∙◌, arith, ap, codes, List, map, refl, subst, Option}
use Rattle.clap.specs.Words.{App, Row, Text, app_of, fault_of, first_of, found_of, one_of}
use Rattle.clap.proofs.WalkLemmas.{first_value-rows, one_text-rows}
use Rattle.ets_script.specs.CommandLine.{AreSettings, IsDecimal, is_named, options_line}
use Rattle.ets_script.proofs.CommandLine.{parse-no_fault, faults, flagged_line-of_rules, has_number, lacks-memory, limited_line-of_rules, parse-fault, options_line-of_rules, rows, unanswered}
use Rattle.ets_script.proofs.command_line.parse_words.Goals as goal

pub returns-in_err-arg-4 : goal.returns-in_err-arg-4
returns-in_err-arg-4 g c =
    let given = c.in_ok-settings_command.ensures in
    let returned = c.from_residual-in_err-arg-4.ensures.1 in
    record { hashes = given.0; names = given.1; faults = lacks-memory _ c.from_residual-in_err-arg-4.result returned; options = unanswered _ _ c.from_residual-in_err-arg-4.result returned }

pub returns-in_err-arg-5 : goal.returns-in_err-arg-5
returns-in_err-arg-5 g c =
    let given = c.in_ok-settings_command.ensures in
    let returned = c.from_residual-in_err-arg-5.ensures.1 in
    record { hashes = given.0; names = given.1; faults = lacks-memory _ c.from_residual-in_err-arg-5.result returned; options = unanswered _ _ c.from_residual-in_err-arg-5.result returned }

pub returns-in_err-arg-6 : goal.returns-in_err-arg-6
returns-in_err-arg-6 g c =
    let given = c.in_ok-settings_command.ensures in
    let returned = c.from_residual-in_err-arg-6.ensures.1 in
    record { hashes = given.0; names = given.1; faults = lacks-memory _ c.from_residual-in_err-arg-6.result returned; options = unanswered _ _ c.from_residual-in_err-arg-6.result returned }

pub returns-in_err-matches : goal.returns-in_err-matches
returns-in_err-matches g c =
    let given = c.in_ok-settings_command.ensures in
    let line = options_line given.0 in
    let command = c.version-command.result in
    let returned = c.from_residual-in_err-matches.ensures.1 in
    let words = map g.S.AsStr.text c.args.words.now in
    let limits = limited_line-of_rules given.0 c.in_ok-settings_command.field-0 c.in_ok-arg.field-0 c.in_ok-arg-2.field-0 c.number_option-processes.result c.number_option-tables.result given.2
    c.in_ok-arg.ensures c.number_option-processes.ensures c.in_ok-arg-2.ensures c.number_option-tables.ensures in
    let flags = flagged_line-of_rules given.0 c.in_ok-arg-2.field-0 c.in_ok-arg-3.field-0 c.in_ok-arg-4.field-0 c.flag_option-why.result c.flag_option-external.result limits c.in_ok-arg-3.ensures c.flag_option-why.ensures c.in_ok-arg-4.ensures c.flag_option-external.ensures in
    let is = options_line-of_rules given.0 c.in_ok-arg-4.field-0 c.in_ok-arg-5.field-0 c.in_ok-arg-6.field-0 command c.number_option-packet.result c.number_option-seed.result _ flags c.in_ok-arg-5.ensures c.number_option-packet.ensures c.in_ok-arg-6.ensures c.number_option-seed.ensures c.version-command.ensures in
    let known = faults line (app_of command) words c.try_get_matches_from.result is refl c.try_get_matches_from.ensures.kinds in
    record {
      hashes = given.0;
      names = given.1;
      faults = parse-fault (fault_of line words) c.try_get_matches_from.result c.in_err-matches.field-0.0 c.from_residual-in_err-matches.result known c.in_err-matches.was returned;
      options = unanswered _ _ c.from_residual-in_err-matches.result returned;
    }

pub returns : goal.returns
returns g c =
    let given = c.in_ok-settings_command.ensures in
    let line = options_line given.0 in
    let command = c.version-command.result in
    let matches = c.in_ok-matches.matches in
    let found = found_of matches in
    let parsed = c.in_ok-matches.ensures.parsed in
    let words = map g.S.AsStr.text c.args.words.now in
    let limits = limited_line-of_rules given.0 c.in_ok-settings_command.field-0 c.in_ok-arg.field-0 c.in_ok-arg-2.field-0 c.number_option-processes.result c.number_option-tables.result given.2
    c.in_ok-arg.ensures c.number_option-processes.ensures c.in_ok-arg-2.ensures c.number_option-tables.ensures in
    let flags = flagged_line-of_rules given.0 c.in_ok-arg-2.field-0 c.in_ok-arg-3.field-0 c.in_ok-arg-4.field-0 c.flag_option-why.result c.flag_option-external.result limits c.in_ok-arg-3.ensures c.flag_option-why.ensures c.in_ok-arg-4.ensures c.flag_option-external.ensures in
    let is = options_line-of_rules given.0 c.in_ok-arg-4.field-0 c.in_ok-arg-5.field-0 c.in_ok-arg-6.field-0 command c.number_option-packet.result c.number_option-seed.result _ flags c.in_ok-arg-5.ensures c.number_option-packet.ensures c.in_ok-arg-6.ensures c.number_option-seed.ensures c.version-command.ensures in
    let known = faults line (app_of command) words c.try_get_matches_from.result is refl c.try_get_matches_from.ensures.kinds in
    let same = rows line (app_of command) words matches is refl c.in_ok-matches.ensures.matches in
    let top = ap (λ (a : App). a.top) is in
    let objects = has_number command matches line.top 2 (codes "max-objects") (codes "1000000") parsed top refl (omega arith) refl refl in
    let processes = has_number command matches line.top 3 (codes "max-processes") (codes "4096") parsed top refl (omega arith) refl refl in
    let tables = has_number command matches line.top 4 (codes "max-tables") (codes "65536") parsed top refl (omega arith) refl refl in
    let packet = has_number command matches line.top 7 (codes "max-packet") (codes "16777216") parsed top refl (omega arith) refl refl in
    let seed = has_number command matches line.top 8 (codes "seed") (codes "0") parsed top refl (omega arith) refl refl in
    record {
      hashes = given.0;
      names = given.1;
      faults = parse-no_fault _ c.try_get_matches_from.result matches known c.in_ok-matches.was;
      options = record {
        settings = subst (λ (rs : List Row). AreSettings rs c.settings_of.result) same (c.settings_of.ensures objects);
        processes = subst (λ (o : Option Text). IsDecimal o c.matched_number.result) (one_text-rows found (codes "max-processes") ∙ ap (one_of (codes "max-processes")) same) (c.matched_number.ensures processes);
        why = c.is_named.ensures ∙ (ap (is_named (codes "true")) (c.get_str.ensures ∙ first_value-rows found (codes "why")) ∙ ap (λ (rs : List Row). is_named (codes "true") (first_of (codes "why") rs)) same);
        external = c.is_named-2.ensures ∙ (ap (is_named (codes "true")) (c.get_str-2.ensures ∙ first_value-rows found (codes "external")) ∙ ap (λ (rs : List Row). is_named (codes "true") (first_of (codes "external") rs)) same);
        tables = subst (λ (o : Option Text). IsDecimal o c.matched_number-2.result) (one_text-rows found (codes "max-tables") ∙ ap (one_of (codes "max-tables")) same) (c.matched_number-2.ensures tables);
        max_packet = subst (λ (o : Option Text). IsDecimal o c.matched_number-3.result) (one_text-rows found (codes "max-packet") ∙ ap (one_of (codes "max-packet")) same) (c.matched_number-3.ensures packet);
        seed = subst (λ (o : Option Text). IsDecimal o c.matched_number-4.result) (one_text-rows found (codes "seed") ∙ ap (one_of (codes "seed")) same) (c.matched_number-4.ensures seed);
      };
    }
