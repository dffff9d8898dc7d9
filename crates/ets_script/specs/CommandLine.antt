-- The command line. The matched options are a function of the words, which the crate clap defines.
use Rattle.std.specs.Prelude.{◌≡◌, ℕ, Bool, true, false, List, [], ◌∷◌, Option, Some, None, Result, IfOk, map, codes, pos, ◌&&◌, ◌||◌, if◌then◌else◌}
use Rattle.std.specs.Option.{option_map_or}
use Rattle.std.specs.Str.{bytes_eq}
use Rattle.std.specs.Str.Parse.{IsNumeral, digits_value, without_leading_plus}
use Rattle.clap.specs.Simple.{on_top}
use Rattle.clap.specs.Words.{App, FailsBy, Row, Rule, Text, fault_of, first_of, matches_of, new_app, new_rule, one_of, with_rule}
use Rattle.clap.specs.declared.builder.ArgAction.TheVariants.{Set, SetTrue}
use Rattle.clap.specs.declared.builder.value_parser.ValueParser.{ValueParser}
use Rattle.clap.specs.declared.builder.value_parser.ValueParser.TheVariants.{Names, Signed}
use Rattle.clap.specs.declared.error.Error.{Error}
use Rattle.clap.specs.declared.error.kind.ErrorKind.{ErrorKind}
use Rattle.clap.specs.declared.error.kind.ErrorKind.TheVariants.{ArgumentConflict, DisplayHelp, DisplayVersion, OutOfMemory}
use Rattle.clap.specs.Kinds.{Kinds, or_else}
use Rattle.node_core.specs.declared.limits.Limits.{Limits}
use Rattle.ets_script.specs.declared.options.Settings.{Settings}
use Rattle.ets_script.specs.declared.options.Options.{Options}

-- the parser accepts these names, and nothing else
abbrev pub TakesNames : List Text → ValueParser → Type 0
TakesNames names (Names taken) = map (λ name. name.now) taken.now ≡ names
TakesNames names _ = ⊥

-- the values of `--hash`
abbrev pub hash_names : List Text
hash_names = codes "fnv" ∷ codes "same" ∷ []

-- an option of this name, which takes no value
abbrev pub flag_option : Text → Rule
flag_option name = record (new_rule name) { long = Some name; action = Some SetTrue }

-- the option `--hash`, whose values this parser accepts; its default is fnv
abbrev pub hash_option : ValueParser → Rule
hash_option hashes = record (new_rule (codes "hash")) {
  long = Some (codes "hash");
  action = Some Set;
  parser = Some hashes;
  defaults = codes "fnv" ∷ [];
}

-- an option of this name, whose value is a number below 2^32, with this default
abbrev pub number_option : Text → Text → Rule
number_option name default = record (new_rule name) {
  long = Some name;
  action = Some Set;
  parser = Some (Signed (pos 0) (pos 4294967295));
  defaults = default ∷ [];
}

-- the option `--max-objects`, whose default is 1000000
abbrev pub objects_option : Rule
objects_option = number_option (codes "max-objects") (codes "1000000")

-- the command line with the options of `Settings`
abbrev pub command_line : ValueParser → App
command_line hashes =
    with_rule (with_rule (with_rule (new_app (codes "ets_script"))
    (flag_option (codes "threads")))
    (hash_option hashes))
    objects_option

-- the text of a number in decimal digits, with or without a plus before it
abbrev pub IsDecimal : Option Text → ℕ → Type 0
IsDecimal (Some text) n = IsNumeral 10 (without_leading_plus text) × (n ≡ digits_value 10 (without_leading_plus text))
IsDecimal None n = ⊥

-- there is a text, and it is this name
abbrev pub is_named : Text → Option Text → Bool
is_named name text = option_map_or (λ t. bytes_eq t name) text false

-- whether a flag is given: its value is then true, and else false
abbrev pub is_set : Text → List Row → Bool
is_set flag rows = is_named (codes "true") (first_of flag rows)

-- these are the settings of the matched options
pub record AreSettings (rows : List Row) (settings : Settings) : Type 0 where
  pub threads : settings.threads ≡ is_set (codes "threads") rows
  pub same : settings.same ≡ is_named (codes "same") (first_of (codes "hash") rows)
  pub objects : IsDecimal (one_of (codes "max-objects") rows) settings.objects

-- If the command line finds a fault in the words, they are refused with that fault. Otherwise the settings are those of
-- the matched options. In both cases memory may run out instead.
pub record Settles (words : List Text) (result : Result Settings Error) : Type 0 where
  pub hashes : ValueParser
  pub names : TakesNames hash_names hashes
  pub faults : FailsBy (fault_of (command_line hashes) words) result
  pub settings : IfOk result (AreSettings (matches_of (command_line hashes) words))

-- the same command line with `--version`
abbrev pub with_version : App → App
with_version = on_top (λ s. record s { has_version = true })

-- the command line with the limits of processes, by default 4096, and of tables, by default 65536
abbrev pub limited_line : ValueParser → App
limited_line hashes =
    with_rule (with_rule (command_line hashes)
    (number_option (codes "max-processes") (codes "4096")))
    (number_option (codes "max-tables") (codes "65536"))

-- also with `--why` and `--external`
abbrev pub flagged_line : ValueParser → App
flagged_line hashes =
    with_rule (with_rule (limited_line hashes) (flag_option (codes "why"))) (flag_option (codes "external"))

-- the command line with all options: also these, the limit of a packet, by default 16777216, the seed, by default 0, and
-- `--version`
abbrev pub options_line : ValueParser → App
options_line hashes =
    with_version (with_rule (with_rule (flagged_line hashes)
    (number_option (codes "max-packet") (codes "16777216")))
    (number_option (codes "seed") (codes "0")))

-- these are the options that were matched
pub record AreOptions (rows : List Row) (options : Options) : Type 0 where
  pub settings : AreSettings rows options.settings
  pub processes : IsDecimal (one_of (codes "max-processes") rows) options.processes
  pub tables : IsDecimal (one_of (codes "max-tables") rows) options.tables
  pub why : options.why ≡ is_set (codes "why") rows
  pub external : options.external ≡ is_set (codes "external") rows
  pub max_packet : IsDecimal (one_of (codes "max-packet") rows) options.max_packet
  pub seed : IsDecimal (one_of (codes "seed") rows) options.seed

-- Whether options exclude each other: reasons are not reported for processes in threads, and packets are answered
-- without threads, without reasons, and with the usual hash.
abbrev pub options_exclude : Bool → Bool → Bool → Bool → Bool
options_exclude external why threads same = if external then why || threads || same else why && threads

-- the fault of matched options that exclude each other, if some do
abbrev pub conflict_of : List Row → Kinds
conflict_of rows =
    if options_exclude (is_set (codes "external") rows) (is_set (codes "why") rows) (is_set (codes "threads") rows)
    (is_named (codes "same") (first_of (codes "hash") rows))
    then ArgumentConflict ∷ [] else []

-- the fault of the words; if there is none, that of options that exclude each other
abbrev pub options_faults : ValueParser → List Text → Kinds
options_faults hashes words =
    or_else (fault_of (options_line hashes) words) (conflict_of (matches_of (options_line hashes) words))

-- the same as Parses, but options that exclude each other are refused if there is no other fault
pub record ParsesOptions (words : List Text) (result : Result Options Error) : Type 0 where
  pub hashes : ValueParser
  pub names : TakesNames hash_names hashes
  pub faults : FailsBy (options_faults hashes words) result
  pub options : IfOk result (AreOptions (matches_of (options_line hashes) words))

-- the limits of the options
abbrev pub limits_of : Options → Limits
limits_of options =
    record { processes = options.processes; tables = options.tables; objects = options.settings.objects }

-- the program's status after this error of the command line
abbrev pub refused_status : ErrorKind → ℕ
refused_status DisplayHelp = 0
refused_status DisplayVersion = 0
refused_status OutOfMemory = 1
refused_status _ = 2
