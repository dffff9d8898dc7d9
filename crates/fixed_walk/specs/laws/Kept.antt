-- What a change keeps of the keys of a table.
use Rattle.std.specs.Prelude.{◌≡◌, ◌⊎◌, Bool, true, List, [], ◌∷◌, Result}
use Rattle.std.specs.Map.{keys_of}
use Rattle.ets_term.specs.declared.term.Term.{Term}
use Rattle.bucket_table.specs.Rows.{HasDistinctKeys}
use Rattle.table_ops.specs.declared.refusal.Refusal.{Refusal}
use Rattle.table_ops.specs.Content.{Content}
use Rattle.table_ops.specs.Refusals.{RefinesChange}
use Rattle.table_ops.specs.Outcomes.{Change}
use Rattle.fixed_walk.specs.Fixes.{is_fixed}
use Rattle.fixed_walk.specs.TableState.{TableState, on_content}

-- all keys of the first list are in the second list, in the same order
abbrev pub IsSubsequence : List Term → List Term → Type 0
IsSubsequence [] others = Unit {0}
IsSubsequence (key ∷ keys) [] = ⊥
IsSubsequence (key ∷ keys) (other ∷ others) =
    ((key ≡ other) × IsSubsequence keys others) ⊎ IsSubsequence (key ∷ keys) others

-- a change keeps the keys: if no key has two slots before, no key has two slots after; and if the table is fixed before
-- and after, all keys that have slots before have slots after, in the same order
pub record KeepsKeys (old new : TableState) : Type 0 where
  pub distinct : HasDistinctKeys old.content.slots → HasDistinctKeys new.content.slots
  pub order : is_fixed old.fixes ≡ true → is_fixed new.fixes ≡ true
      → IsSubsequence (keys_of old.content.slots) (keys_of new.content.slots)

-- each outcome of a change of the content keeps the keys; the argument of `change` is true if the table is fixed, that
-- is, if the change leaves tombstones
abbrev pub AlwaysKeepsKeys : {X : Type 0} → (Bool → Content → Change X Content) → Type 0
AlwaysKeepsKeys {X} change =
    (old new : TableState) (r : Result X Refusal)
    → RefinesChange (on_content (change (is_fixed old.fixes)) old) old r new → KeepsKeys old new
