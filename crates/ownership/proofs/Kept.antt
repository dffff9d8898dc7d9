-- A table that keeps its name preserves the index by name.
use Rattle.std.proofs.Common.{◌≡◌, ◌<◌, ◌≤◌, ◌⊎◌, ℕ, zero, suc, List, [], ◌∷◌, Option, None, Some, inl, inr, refl, sym, ap, subst, ◌∙◌, length, arith}
use Rattle.std.specs.Prelude.{slice_set}
use Rattle.std.proofs.lemmas.Bool.{cases_lt}
use Rattle.ownership.specs.declared.metadata.Metadata.{Metadata}
use Rattle.ownership.specs.World.{Table, Tables, table_at, all_metadata, metadata_of, is_named}
use Rattle.ownership.specs.inside.Names.{metadata_at, NameIndexIsExact}
use Rattle.ownership.proofs.MetadataLaws.{all_metadata-set, metadata-there}
use Rattle.ownership.proofs.Naming.{names_kept, written, is_within}

-- a place that does not exist is not written
set-past : (hs : List (Option Metadata)) (t : ℕ) (o : Option Metadata) → length hs ≤ t → slice_set hs t o ≡ hs
set-past [] t o h = refl
set-past (x ∷ hs) zero o h = absurd (omega (arith, h))
set-past (x ∷ hs) (suc t) o h = ap (λ rest. x ∷ rest) (set-past hs t o (omega (arith, h)))

pub names-stay : (names : List ℕ → Option ℕ) (tables : Tables) (t : ℕ) (old new : Table) → table_at tables t ≡ Some old → ((name : List ℕ) → is_named name (Some new.metadata) ≡ is_named name (Some old.metadata))
    → NameIndexIsExact names (all_metadata tables) → NameIndexIsExact names (all_metadata (slice_set tables t (Some new)))
names-stay names tables t old new was same index =
    let at : metadata_at (all_metadata tables) t ≡ Some old.metadata = metadata-there tables t ∙ ap metadata_of was in
    subst (NameIndexIsExact names) (sym (all_metadata-set tables t (Some new)))
    (names_kept names (all_metadata tables) _ t (Some new.metadata) index (written (all_metadata tables) t (Some new.metadata) (is_within (all_metadata tables) t old.metadata at)) (λ name. same name ∙ ap (is_named name) (sym at)))

-- an empty place stays empty
pub names-none : (names : List ℕ → Option ℕ) (tables : Tables) (t : ℕ) → table_at tables t ≡ None → NameIndexIsExact names (all_metadata tables) → NameIndexIsExact names (all_metadata (slice_set tables t None))
names-none names tables t was index = subst (NameIndexIsExact names) (sym (all_metadata-set tables t None)) (by (cases_lt t (length (all_metadata tables))))
  where
    at : metadata_at (all_metadata tables) t ≡ None
    at = metadata-there tables t ∙ ap metadata_of was

    by : (t < length (all_metadata tables)) ⊎ (length (all_metadata tables) ≤ t) → NameIndexIsExact names (slice_set (all_metadata tables) t None)
    by (inl within) = names_kept names (all_metadata tables) _ t None index (written (all_metadata tables) t None within) (λ name. ap (is_named name) (sym at))
    by (inr past) = subst (NameIndexIsExact names) (sym (set-past (all_metadata tables) t None past)) index
