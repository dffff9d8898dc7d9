-- The tables after one of them is written.
use Rattle.std.proofs.Common.{◌≡◌, ℕ, zero, suc, [], ◌∷◌, Option, Some, option_map, refl, ap, ◌∙◌}
use Rattle.std.specs.Prelude.{slice_set}
use Rattle.fixed_walk.specs.TableState.{TableState}
use Rattle.ownership.specs.World.{Table, Tables, table_at, with_state}

set-own : (ts : Tables) (t : ℕ) (table : Table) (o : Option Table) → table_at ts t ≡ Some table → table_at (slice_set ts t o) t ≡ o
set-own [] t table o e = cc
set-own (x ∷ xs) zero table o e = refl
set-own (x ∷ xs) (suc t) table o e = set-own xs t table o e

pub set-other : (ts : Tables) (t u : ℕ) (o : Option Table) → (u ≡ t → ⊥) → table_at (slice_set ts t o) u ≡ table_at ts u
set-other [] t u o apart = refl
set-other (x ∷ xs) zero zero o apart = absurd (apart refl)
set-other (x ∷ xs) zero (suc u) o apart = refl
set-other (x ∷ xs) (suc t) zero o apart = refl
set-other (x ∷ xs) (suc t) (suc u) o apart = set-other xs t u o (λ f. apart (ap (λ n. suc n) f))

pub state-own : (ts : Tables) (t : ℕ) (table : Table) (f : TableState) → table_at ts t ≡ Some table → table_at (with_state ts t f) t ≡ Some (record table { state = f })
state-own ts t table f at =
    set-own ts t table (option_map (λ (old : Table). record old { state = f }) (table_at ts t)) at
    ∙ ap (option_map (λ (old : Table). record old { state = f })) at

pub state-other : (ts : Tables) (t u : ℕ) (f : TableState) → (u ≡ t → ⊥) → table_at (with_state ts t f) u ≡ table_at ts u
state-other ts t u f apart = set-other ts t u (option_map (λ (old : Table). record old { state = f }) (table_at ts t)) apart
