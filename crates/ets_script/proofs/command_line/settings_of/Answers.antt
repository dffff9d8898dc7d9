use Rattle.std.proofs.Common.{◌∙◌, ap, codes, subst, Option}
use Rattle.clap.specs.Words.{Text, found_of}
use Rattle.clap.proofs.WalkLemmas.{first_value-rows, one_text-rows}
use Rattle.ets_script.specs.CommandLine.{IsDecimal, is_named}
use Rattle.ets_script.proofs.command_line.settings_of.Goals as goal

pub returns : goal.returns
returns c =
    λ has. record {
      threads = c.is_named.ensures ∙ ap (is_named (codes "true")) (c.get_str.ensures ∙ first_value-rows (found_of c.args.matches.now) (codes "threads"));
      same = c.is_named-2.ensures ∙ ap (is_named (codes "same")) (c.get_str-2.ensures ∙ first_value-rows (found_of c.args.matches.now) (codes "hash"));
      objects = subst (λ (o : Option Text). IsDecimal o c.matched_number.result) (one_text-rows (found_of c.args.matches.now) (codes "max-objects")) (c.matched_number.ensures has);
    }
