-- Which replies are values.
use Rattle.std.specs.Prelude.{Bool, true, false}
use Rattle.node_core.specs.declared.step.Reply.{Reply}
use Rattle.node_core.specs.declared.step.Reply.TheVariants.{Value}

-- whether a reply is a value, not a refusal
abbrev pub is_value : Reply → Bool
is_value (Value term) = true
is_value _ = false
