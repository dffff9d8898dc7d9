use Rattle.std.proofs.Common.{◌≡◌, ◌∙◌, codes, refl}
use Rattle.clap.specs.Built.{AddsArg}
use Rattle.clap.specs.Words.{app_of, with_rule, new_app}
use Rattle.ets_script.specs.CommandLine.{command_line, flag_option, hash_option, objects_option}
use Rattle.ets_script.proofs.CommandLine.{added, then-ok}
use Rattle.ets_script.proofs.command_line.settings_command.Goals as goal

pub returns : goal.returns
returns c =
    let given = c.hash_option-hash.ensures in
    let hash = added c.in_ok-arg.field-0 c.in_ok-arg-2.field-0 c.hash_option-hash.result (with_rule (new_app (codes "ets_script")) (flag_option (codes "threads"))) (hash_option given.0) c.in_ok-arg-2.ensures
    (added c.with_help.result c.in_ok-arg.field-0 c.flag_option.result (new_app (codes "ets_script")) (flag_option (codes "threads")) c.in_ok-arg.ensures (c.with_help.ensures ∙ c.new.ensures.app) c.flag_option.ensures refl) given.2 refl in (
      given.0,
      given.1,
      then-ok (AddsArg c.in_ok-arg-2.field-0 c.number_option-objects.result) (λ command. app_of command ≡ command_line given.0) c.arg-3.result
          (λ command adds. added c.in_ok-arg-2.field-0 command c.number_option-objects.result (with_rule (with_rule (new_app (codes "ets_script")) (flag_option (codes "threads"))) (hash_option given.0)) objects_option adds hash c.number_option-objects.ensures refl)
          c.arg-3.ensures,
    )
