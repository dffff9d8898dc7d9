-- The calls that change nothing.
use Rattle.std.specs.Prelude.{◌≡◌, ℕ, Bool, true, false, List, [], ◌∷◌, Option, Some, None}
use Rattle.std.specs.Option.{option_map_or}
use Rattle.ets_term.specs.declared.term.Term.{Term}
use Rattle.node_core.specs.declared.call_name.CallName.{CallName}
use Rattle.node_core.specs.declared.call_name.CallName.TheVariants.{Tab2list, First, FirstLookup, Whereis, Lookup, Member, Match, MatchObject, Select, SelectCount, Next, NextLookup, Info, LookupElement}
use Rattle.node_core.specs.declared.step.Call.{Call}
use Rattle.node_core.specs.declared.step.Step.TheVariants.{Ask}
use Rattle.node_core.specs.declared.step.Reply.{Reply}
use Rattle.node_core.specs.State.{State}
use Rattle.node_core.specs.CallName.{call_name}
use Rattle.node_core.specs.Machine.{step}

-- whether a call with this name and these arguments only reads, so that it changes nothing
abbrev pub reads_only : CallName → List Term → Bool
reads_only Tab2list (x ∷ []) = true
reads_only First (x ∷ []) = true
reads_only FirstLookup (x ∷ []) = true
reads_only Whereis (x ∷ []) = true
reads_only Lookup (x ∷ y ∷ []) = true
reads_only Member (x ∷ y ∷ []) = true
reads_only Match (x ∷ y ∷ []) = true
reads_only MatchObject (x ∷ y ∷ []) = true
reads_only Select (x ∷ y ∷ []) = true
reads_only SelectCount (x ∷ y ∷ []) = true
reads_only Next (x ∷ y ∷ []) = true
reads_only NextLookup (x ∷ y ∷ []) = true
reads_only Info (x ∷ y ∷ []) = true
reads_only LookupElement (x ∷ y ∷ z ∷ []) = true
reads_only LookupElement (x ∷ y ∷ z ∷ default ∷ []) = true
reads_only _ _ = false

-- the same for a call by the text of its name
abbrev pub is_read : Call → Bool
is_read asked = option_map_or (λ name. reads_only name asked.args) (call_name asked.name) false

-- what a read returns: None for a call that does not only read; else a reply that the machine may give, with no change
abbrev pub Reads : State → ℕ → Call → Option Reply → Type 0
Reads s p asked None = is_read asked ≡ false
Reads s p asked (Some reply) = (is_read asked ≡ true) × step s (Ask p asked) reply s
