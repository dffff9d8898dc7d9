-- The reason of a call that breaks a rule: the last rule of the call need not be checked.
use Rattle.std.specs.Prelude.{◌≡◌, ℕ, ◌==◌, Bool, not, if◌then◌else◌, List, [], ◌∷◌, Option, Some, None, is_some, codes}
use Rattle.std.specs.Option.{option_map_or}
use Rattle.ets_term.specs.declared.term.Term.{Term, out-Term}
use Rattle.ets_term.specs.Atoms.{is_atom}
use Rattle.ets_term.specs.Views.{as_atom, as_natural, pid_form}
use Rattle.counters.specs.Elements.{element_specs_of}
use Rattle.counters.specs.Ops.{ops_of}
use Rattle.table_ops.specs.Content.{Content, objects_under}
use Rattle.table_ops.specs.Update.{is_set, default_is_object}
use Rattle.ownership.specs.declared.metadata.Metadata.{Metadata}
use Rattle.ownership.specs.Access.{is_owner}
use Rattle.ownership.specs.Info.{item_of}
use Rattle.node_core.specs.Access.{may_access}
use Rattle.node_core.specs.declared.node.access.Access.{Access}
use Rattle.node_core.specs.declared.node.access.Access.TheVariants.{Read}
use Rattle.node_reasons.specs.declared.reason.Rule.TheVariants as rule
use Rattle.node_reasons.specs.declared.reason.Reason.{Reason}
use Rattle.node_reasons.specs.Reasons.{argument, rule_of_access}
use Rattle.node_reasons.specs.inside.Forms.{are_options}

-- if there is a reason, it is this one
abbrev pub NamesReason : Option Reason → Reason → Type 0
NamesReason None named = Unit {0}
NamesReason (Some reason) named = named ≡ reason

-- the reason if the table does not exist, or the process does not have this access to it; else `rest`
abbrev pub access_reason_or : Access → ℕ → Option Metadata → Reason → Reason
access_reason_or access p None rest = argument 1 rule.NoTable
access_reason_or access p (Some metadata) rest = if may_access access metadata p then rest else argument 1 (rule_of_access access)

-- the reason if the process does not have this access to the table; else that of the content
abbrev pub refusal_reason_of_content : Access → ℕ → Option Metadata → Option Content → (Content → Reason) → Reason
refusal_reason_of_content access p metadata content rest =
    access_reason_or access p metadata (option_map_or rest content (argument 1 rule.NoTable))

-- there are no further rules
abbrev pub refusal_reason_of_use : Access → ℕ → Option Metadata → Reason
refusal_reason_of_use access p metadata = access_reason_or access p metadata (argument 1 (rule_of_access access))

-- the reason if the table does not exist, or the process does not own it; else `rest`
abbrev pub owner_reason_or : ℕ → Option Metadata → Reason → Reason
owner_reason_or p None rest = argument 1 rule.NoTable
owner_reason_or p (Some metadata) rest = if is_owner metadata p then rest else argument 1 rule.NotOwner

abbrev pub refusal_reason_of_give_away_to : ℕ → Metadata → Option ℕ → Reason
refusal_reason_of_give_away_to p metadata None = argument 2 rule.NotAPid
refusal_reason_of_give_away_to p metadata (Some q) =
    owner_reason_or p (Some metadata) (if q == p then argument 2 rule.ToSelf else argument 2 rule.NotAlive)

abbrev pub refusal_reason_of_give_away : ℕ → Option Metadata → Term → Reason
refusal_reason_of_give_away p None pid = argument 1 rule.NoTable
refusal_reason_of_give_away p (Some metadata) pid = refusal_reason_of_give_away_to p metadata (pid_form (out-Term pid))

abbrev pub refusal_reason_of_safe_fixtable : ℕ → Option Metadata → Term → Reason
refusal_reason_of_safe_fixtable p metadata flag =
    if is_atom (codes "true") flag then refusal_reason_of_use Read p metadata
    else if is_atom (codes "false") flag then refusal_reason_of_use Read p metadata
    else argument 2 rule.NotABoolean

abbrev pub refusal_reason_of_new : Term → Term → Reason
refusal_reason_of_new name options =
    if is_some (as_atom name)
    then (if are_options options then argument 1 rule.NameIsTaken else argument 2 rule.NotOptions)
    else argument 1 rule.NotAnAtom

abbrev pub refusal_reason_of_info : Term → Reason
refusal_reason_of_info item = if is_some (item_of item) then argument 1 rule.NotAnAtom else argument 2 rule.NotAnItem

-- the reason if the key needs an object and has none; else `rest`
abbrev pub key_reason_or : Bool → Reason → List Term → Reason
key_reason_or needs_object rest [] = if needs_object then argument 2 rule.NoKey else rest
key_reason_or needs_object rest (object ∷ objects) = rest

abbrev pub position_reason_or : Option ℕ → Reason → Reason
position_reason_or None rest = argument 3 rule.NotAPosition
position_reason_or (Some position) rest = if position == 0 then argument 3 rule.NotAPosition else rest

abbrev pub refusal_reason_of_lookup_element : Term → Term → Bool → Content → Reason
refusal_reason_of_lookup_element key position needs_object content =
    position_reason_or (as_natural position)
    (key_reason_or needs_object (argument 3 rule.NoElement) (objects_under content.slots key))

-- the reason if the table is not a set, or the default is not an object; else `rest`
abbrev pub set_reason_or : Term → Option Term → Content → Reason → Reason
set_reason_or key default content rest =
    if is_set content.kind
    then (if default_is_object content.keypos key default then rest else argument 4 rule.NotAnObject)
    else argument 1 rule.NotASet

abbrev pub refusal_reason_of_update_counter : Term → Term → Option Term → Content → Reason
refusal_reason_of_update_counter key updates default content =
    if is_some (ops_of content.keypos updates)
    then set_reason_or key default content
    (key_reason_or (not (is_some default)) (argument 3 rule.NotACounter) (objects_under content.slots key))
    else argument 3 rule.NotAnUpdate

abbrev pub refusal_reason_of_update_element : Term → Term → Option Term → Content → Reason
refusal_reason_of_update_element key values default content =
    if is_some (element_specs_of content.keypos values)
    then set_reason_or key default content (argument 3 rule.NoElement)
    else argument 3 rule.NotAnUpdate
