-- The rules of calls on tables, their owners and their names, in the order of the machine: the first that is broken, if
-- one is.
use Rattle.std.specs.Prelude.{ℕ, ◌==◌, ◌&&◌, if◌then◌else◌, List, Option, Some, None, is_some, codes}
use Rattle.std.specs.Option.{option_map_or}
use Rattle.ets_term.specs.declared.term.Term.{Term, out-Term}
use Rattle.ets_term.specs.Atoms.{is_atom}
use Rattle.ets_term.specs.Views.{as_atom, pid_form}
use Rattle.ownership.specs.declared.options.NewOptions.{NewOptions}
use Rattle.ownership.specs.World.{Table, Tables, Processes, lives, whereis}
use Rattle.ownership.specs.Access.{is_owner}
use Rattle.ownership.specs.Options.{options_of, heir_after}
use Rattle.ownership.specs.Info.{item_of}
use Rattle.node_core.specs.declared.node.access.Access.TheVariants.{Read}
use Rattle.node_core.specs.rules.Owning.{names_form}
use Rattle.node_reasons.specs.declared.reason.Rule.TheVariants as rule
use Rattle.node_reasons.specs.declared.reason.Reason.{Reason}
use Rattle.node_reasons.specs.Reasons.{argument, on_table}
use Rattle.node_reasons.specs.Objects.{no_further_rule}

-- whereis: the name is an atom
abbrev pub why_whereis : Term → Option Reason
why_whereis name = if is_some (as_atom name) then None else Some (argument 1 rule.NotAnAtom)

-- new, with a name that is an atom: the options have their form; then, of a new named table, no table has the name
abbrev pub why_new_with : Tables → List ℕ → Option NewOptions → Option Reason
why_new_with tables text None = Some (argument 2 rule.NotOptions)
why_new_with tables text (Some options) =
    if options.named && is_some (whereis tables text) then Some (argument 1 rule.NameIsTaken) else None

-- new: the name is an atom; then as why_new_with
abbrev pub why_new : Tables → Term → Term → Option Reason
why_new tables name options =
    option_map_or (λ text. why_new_with tables text (options_of options)) (as_atom name)
    (Some (argument 1 rule.NotAnAtom))

-- info: the second argument is an item; then the first can name a table
abbrev pub why_info : Term → Term → Option Reason
why_info term item =
    if is_some (item_of item)
    then (if names_form (out-Term term) then None else Some (argument 1 rule.NotAnAtom))
    else Some (argument 2 rule.NotAnItem)

-- safe_fixtable: the flag is true or false; then the process may read the table
abbrev pub why_safe_fixtable : ℕ → Option Table → Term → Option Reason
why_safe_fixtable p table flag =
    if is_atom (codes "true") flag then on_table Read p table no_further_rule
    else if is_atom (codes "false") flag then on_table Read p table no_further_rule
    else Some (argument 2 rule.NotABoolean)

-- the table exists and the process owns it; then these rules
abbrev pub on_owned_table : ℕ → Option Table → (Table → Option Reason) → Option Reason
on_owned_table p None rest = Some (argument 1 rule.NoTable)
on_owned_table p (Some table) rest = if is_owner table.metadata p then rest table else Some (argument 1 rule.NotOwner)

-- setopts, on a table of the caller: each option is about an heir
abbrev pub why_heir : Term → Table → Option Reason
why_heir options table =
    if is_some (heir_after table.metadata.heir options) then None else Some (argument 2 rule.NotOptions)

-- setopts: the caller owns the table; then as why_heir
abbrev pub why_setopts : ℕ → Option Table → Term → Option Reason
why_setopts p table options = on_owned_table p table (why_heir options)

-- the process q that is to get a table is not the caller, and lives
abbrev pub why_receiver : Processes → ℕ → ℕ → Option Reason
why_receiver processes p q =
    if q == p then Some (argument 2 rule.ToSelf)
    else if lives processes q then None
    else Some (argument 2 rule.NotAlive)

-- give_away of a table that exists: Pid is a pid; then the caller owns the table; then as why_receiver
abbrev pub why_give_away_to : Processes → ℕ → Option Table → Option ℕ → Option Reason
why_give_away_to processes p table None = Some (argument 2 rule.NotAPid)
why_give_away_to processes p table (Some q) = on_owned_table p table (λ _. why_receiver processes p q)

-- give_away: the table exists; then as why_give_away_to
abbrev pub why_give_away : Processes → ℕ → Option Table → Term → Option Reason
why_give_away processes p None pid = Some (argument 1 rule.NoTable)
why_give_away processes p (Some table) pid = why_give_away_to processes p (Some table) (pid_form (out-Term pid))
