-- Calls on all objects of a table: how the replies of the parts make that of the whole.
use Rattle.std.specs.Prelude.{◌+◌, pos, Bool, true, false, List, [], ◌∷◌, ◌++◌}
use Rattle.std.specs.Option.{option_map_or}
use Rattle.ets_term.specs.declared.term.Term.{Term, out-Term}
use Rattle.ets_term.specs.declared.term.Term.TheOpen.{Term-F}
use Rattle.ownership.specs.Info.{item_of}
use Rattle.node_core.specs.declared.call_name.CallName.{CallName}
use Rattle.node_core.specs.declared.call_name.CallName.TheVariants as name
use Rattle.node_core.specs.declared.step.Call.{Call}
use Rattle.node_core.specs.declared.step.Reply.{Reply}
use Rattle.node_core.specs.declared.step.Reply.TheVariants.{Value}
use Rattle.node_core.specs.CallName.{call_name}
use Rattle.node_core.specs.rules.Replies.{list_reply}
use Rattle.node_core.specs.rules.Searching.{count_reply}
use Rattle.node_parts.specs.ForAll.{is_size}

-- whether a call looks at all objects of a table, and replies with a list of results or a number of objects
abbrev pub looks_at_all : CallName → List Term → Bool
looks_at_all name.Tab2list (x ∷ []) = true
looks_at_all name.Match (x ∷ y ∷ []) = true
looks_at_all name.MatchObject (x ∷ y ∷ []) = true
looks_at_all name.Select (x ∷ y ∷ []) = true
looks_at_all name.SelectCount (x ∷ y ∷ []) = true
looks_at_all name.SelectDelete (x ∷ y ∷ []) = true
looks_at_all name.Info (x ∷ y ∷ []) = option_map_or is_size (item_of y) false
looks_at_all _ _ = false

-- the same for a call by the text of its name
abbrev pub is_on_all_objects : Call → Bool
is_on_all_objects asked = option_map_or (λ name. looks_at_all name asked.args) (call_name asked.name) false

-- two replies as one, by the forms of their terms: lists one after another, counts added; else the first
abbrev pub join_form : Reply → Term-F Term → Term-F Term → Reply
join_form one (Term-F.List xs) (Term-F.List ys) = list_reply (xs ++ ys)
join_form one (Term-F.Int (pos m)) (Term-F.Int (pos n)) = count_reply (m + n)
join_form one _ _ = one

-- two replies as one; replies that are no values are the same in both
abbrev pub join : Reply → Reply → Reply
join (Value x) (Value y) = join_form (Value x) (out-Term x) (out-Term y)
join one _ = one
