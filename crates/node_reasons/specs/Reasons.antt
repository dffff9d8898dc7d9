-- The reasons why a step is refused.
use Rattle.std.specs.Prelude.{ℕ, if◌then◌else◌, Option, Some, None}
use Rattle.std.specs.Option.{option_and_then}
use Rattle.ets_term.specs.declared.term.Term.{Term}
use Rattle.table_ops.specs.Content.{Content}
use Rattle.ownership.specs.World.{Table, Tables, table_at, resolve}
use Rattle.node_core.specs.declared.node.access.Access.{Access}
use Rattle.node_core.specs.declared.node.access.Access.TheVariants.{Read, Write}
use Rattle.node_core.specs.declared.step.Reply.{Reply}
use Rattle.node_core.specs.declared.step.Reply.TheVariants.{Badarg, SystemLimit, NoProcess}
use Rattle.node_core.specs.Access.{may_access}
use Rattle.node_reasons.specs.declared.reason.Rule.{Rule}
use Rattle.node_reasons.specs.declared.reason.Rule.TheVariants as rule
use Rattle.node_reasons.specs.declared.reason.Reason.{Reason}

-- the refusal of a step that breaks this rule
abbrev pub refusal_of : Rule → Reply
refusal_of rule.NoProcess = NoProcess
refusal_of rule.TooDeep = SystemLimit
refusal_of rule.TooManyProcesses = SystemLimit
refusal_of rule.TooManyTables = SystemLimit
refusal_of rule.TooManyObjects = SystemLimit
refusal_of rule.TooManyFixes = SystemLimit
refusal_of rule.LimitExceeded = SystemLimit
refusal_of _ = Badarg

-- the reason of a rule on the step, or on its call as a whole
abbrev pub about_whole_call : Rule → Reason
about_whole_call broken = record { rule = broken; argument = None }

-- the reason of a rule on an argument, counted from 1
abbrev pub argument : ℕ → Rule → Reason
argument n broken = record { rule = broken; argument = Some n }

-- the table that a term names, if there is one
abbrev pub table_of_term : Tables → Term → Option Table
table_of_term tables term = option_and_then (table_at tables) (resolve tables term)

-- the rule that is broken if a process does not have this access to a table
abbrev pub rule_of_access : Access → Rule
rule_of_access Read = rule.NotReadable
rule_of_access Write = rule.NotWritable

-- the first broken rule of a call that needs this access to the table that its first argument names: the table exists;
-- then the process has the access; then these rules on the content
abbrev pub on_table : Access → ℕ → Option Table → (Content → Option Reason) → Option Reason
on_table access p None rest = Some (argument 1 rule.NoTable)
on_table access p (Some table) rest =
    if may_access access table.metadata p then rest table.state.content else Some (argument 1 (rule_of_access access))
