-- A change of a table under its metadata changes no metadata.
use Rattle.std.proofs.Common.{◌≡◌, ℕ, zero, suc, [], ◌∷◌, ◌++◌, Option, Some, refl, sym, ap, length}
use Rattle.std.specs.Prelude.{slice_set}
use Rattle.fixed_walk.specs.TableState.{TableState}
use Rattle.ownership.specs.World.{Table, Tables, all_metadata, metadata_of, table_at, with_state}
use Rattle.ownership.specs.inside.States.{table_with_state}
use Rattle.ownership.specs.inside.Names.{metadata_at}

pub all_metadata-same : (tables : Tables) (t : ℕ) (table : Table) (f : TableState) → table_at tables t ≡ Some table → all_metadata (slice_set tables t (Some (record table { state = f }))) ≡ all_metadata tables
all_metadata-same [] t table f e = refl
all_metadata-same (x ∷ xs) zero table f e = let same : x ≡ Some table = e in rw same refl
all_metadata-same (x ∷ xs) (suc t) table f e = ap (λ hs. metadata_of x ∷ hs) (all_metadata-same xs t table f e)

-- the table at a place under the same metadata
pub fixed-there : (tables : Tables) (t : ℕ) (table : Table) (f : TableState) → table_at tables t ≡ Some table → slice_set tables t (Some (record table { state = f })) ≡ with_state tables t f
fixed-there tables t table f e = ap (λ o. slice_set tables t (table_with_state o f)) (sym e)

-- the same table again
pub fixed-same : (tables : Tables) (t : ℕ) (table : Table) → table_at tables t ≡ Some table → with_state tables t table.state ≡ tables
fixed-same [] t table e = refl
fixed-same (x ∷ xs) zero table e = let same : x ≡ Some table = e in rw same refl
fixed-same (x ∷ xs) (suc t) table e = ap (λ ts. x ∷ ts) (fixed-same xs t table e)

pub metadata-there : (tables : Tables) (t : ℕ) → metadata_at (all_metadata tables) t ≡ metadata_of (table_at tables t)
metadata-there [] t = refl
metadata-there (x ∷ xs) zero = refl
metadata-there (x ∷ xs) (suc t) = metadata-there xs t

pub all_metadata-push : (tables : Tables) (x : Option Table) → all_metadata (tables ++ x ∷ []) ≡ all_metadata tables ++ metadata_of x ∷ []
all_metadata-push [] x = refl
all_metadata-push (y ∷ xs) x = ap (λ hs. metadata_of y ∷ hs) (all_metadata-push xs x)

pub length-all_metadata : (tables : Tables) → length (all_metadata tables) ≡ length tables
length-all_metadata [] = refl
length-all_metadata (x ∷ xs) = ap suc (length-all_metadata xs)

-- the metadata of the tables after one place is written
pub all_metadata-set : (tables : Tables) (t : ℕ) (o : Option Table) → all_metadata (slice_set tables t o) ≡ slice_set (all_metadata tables) t (metadata_of o)
all_metadata-set [] t o = refl
all_metadata-set (x ∷ xs) zero o = refl
all_metadata-set (x ∷ xs) (suc t) o = ap (λ hs. metadata_of x ∷ hs) (all_metadata-set xs t o)

-- the same after two writes of one place
pub all_metadata-again : (tables : Tables) (t : ℕ) (d o : Option Table) → all_metadata (slice_set (slice_set tables t d) t o) ≡ slice_set (all_metadata tables) t (metadata_of o)
all_metadata-again [] t d o = refl
all_metadata-again (x ∷ xs) zero d o = refl
all_metadata-again (x ∷ xs) (suc t) d o = ap (λ hs. metadata_of x ∷ hs) (all_metadata-again xs t d o)
