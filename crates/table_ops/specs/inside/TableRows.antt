-- What private calls on the rows of a table keep and require.
use Rattle.std.specs.Prelude.{◌≡◌, ℕ, Bool, true, List, [], Option, Some, None, IsSome, MatchOption}
use Rattle.ets_term.specs.declared.term.Term.{Term}
use Rattle.bucket_table.specs.Slots.{Slot, objects_of, has_objects}
use Rattle.table_ops.specs.declared.table_rows.TableRows.{TableRows}
use Rattle.table_ops.specs.Content.{Content, objects_under}
use Rattle.table_ops.specs.inside.Counted.{IsCounted}

-- a call changes nothing but the slots; ready buckets stay ready
pub record ChangesSlotsOnly {R : Type 0} (readiness : R → List Bool) (old new : TableRows R) : Type 0 where
  pub rest : new ≡ record old { rows = new.rows }
  pub buckets : readiness new.rows ≡ readiness old.rows

-- the content of the rows of a table
abbrev pub content_of : {R : Type 0} → (R → List Slot) → TableRows R → Content
content_of content store =
    record {
      kind = store.kind;
      keypos = store.keypos;
      limit = store.limit;
      slots = content store.rows;
    }

-- the invariant of a table: its slots fit its settings, with `count` objects, at most the limit
abbrev pub TableRowsInvariant : {R : Type 0} → (R → List Slot) → TableRows R → ℕ → Type 0
TableRowsInvariant content store count = IsCounted store.kind store.keypos store.limit count (content store.rows)

-- a search found the place of the key's slot, or the key has no slot
abbrev pub IsPlaceOfKey : List Slot → (ℕ → Option Term) → Term → Option ℕ → Type 0
IsPlaceOfKey slots key_at key found =
    MatchOption found (objects_of slots key ≡ None) (λ place.
    (key_at place ≡ Some key) × IsSome (objects_of slots key))

-- a search found the place of the key's slot, which has objects, or the key has no objects
abbrev pub IsPlaceWithObjects : List Slot → (ℕ → Option Term) → Term → Option ℕ → Type 0
IsPlaceWithObjects slots key_at key found =
    MatchOption found (objects_under slots key ≡ []) (λ place.
    (key_at place ≡ Some key) × (has_objects (objects_under slots key) ≡ true))
