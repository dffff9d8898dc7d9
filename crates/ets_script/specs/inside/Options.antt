-- What private contracts say of the options of the command line.
use Rattle.std.specs.Prelude.{◌≡◌, pos, Some, Bool, List, Result, IfOk}
use Rattle.clap.specs.Words.{IsSignedIn, Text, one_text, without_minus, FailsBy, fault_of, matches_of}
use Rattle.clap.specs.declared.parser.matches.Found.{Found}
use Rattle.clap.specs.declared.builder.value_parser.ValueParser.{ValueParser}
use Rattle.clap.specs.declared.error.Error.{Error}
use Rattle.ets_script.specs.declared.options.Options.{Options}
use Rattle.ets_script.specs.CommandLine.{options_line, AreOptions, TakesNames, hash_names, options_exclude}

-- what was matched has a text under this name, and it is a number below 2^32
abbrev pub HasNumber : Found → Text → Type 0
HasNumber found name =
    (text : Text) × (one_text found name ≡ Some (without_minus text)) × IsSignedIn (pos 0) (pos 4294967295) text

-- the same as Settles, for all options; options that exclude each other are not refused
pub record Parses (words : List Text) (result : Result Options Error) : Type 0 where
  pub hashes : ValueParser
  pub names : TakesNames hash_names hashes
  pub faults : FailsBy (fault_of (options_line hashes) words) result
  pub options : IfOk result (AreOptions (matches_of (options_line hashes) words))

-- whether some of the options exclude each other
abbrev pub excludes : Options → Bool
excludes options = options_exclude options.external options.why options.settings.threads options.settings.same
