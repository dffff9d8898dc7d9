-- Finding a table in a part and in the whole: what each part has of the tables decides what is found.
use Rattle.std.proofs.Common.{◌≡◌, ℕ, zero, suc, [], ◌∷◌, Option, None, Some, option_map, refl, ap, ◌∙◌, position}
use Rattle.std.specs.Prelude.{slice_set}
use Rattle.ets_term.specs.declared.term.Term.{Term, out-Term}
use Rattle.ets_term.specs.declared.term.Term.TheOpen.{Term-F}
use Rattle.ownership.specs.World.{Table, Tables, table_at, all_metadata, is_named, resolve, resolve_form}
use Rattle.node_parts.specs.Parts.{replicated_table, replicated_tables}

pub at-replicated : (ts : Tables) (t : ℕ) → table_at (replicated_tables ts) t ≡ option_map replicated_table (table_at ts t)
at-replicated [] t = refl
at-replicated (x ∷ xs) zero = refl
at-replicated (x ∷ xs) (suc t) = at-replicated xs t

pub heads-replicated : (ts : Tables) → all_metadata (replicated_tables ts) ≡ all_metadata ts
heads-replicated [] = refl
heads-replicated (None ∷ xs) = ap (λ hs. None ∷ hs) (heads-replicated xs)
heads-replicated (Some table ∷ xs) = ap (λ hs. Some table.metadata ∷ hs) (heads-replicated xs)

named-replicated : (t : ℕ) (o : Option Table) → option_map (λ _. t) (option_map replicated_table o) ≡ option_map (λ _. t) o
named-replicated t None = refl
named-replicated t (Some table) = refl

form-replicated : (ts : Tables) (form : Term-F Term) → resolve_form (replicated_tables ts) form ≡ resolve_form ts form
form-replicated ts (Term-F.Tid t) = ap (option_map (λ _. t)) (at-replicated ts t) ∙ named-replicated t (table_at ts t)
form-replicated ts (Term-F.Atom name) = ap (position (is_named name)) (heads-replicated ts)
form-replicated ts _ = refl

pub resolve-replicated : (ts : Tables) (term : Term) → resolve (replicated_tables ts) term ≡ resolve ts term
resolve-replicated ts term = form-replicated ts (out-Term term)

-- a table is written that differs in objects and limits alone
pub written-replicated : (ts : Tables) (t : ℕ) (table other : Table) → table_at ts t ≡ Some table → replicated_table other ≡ replicated_table table
    → replicated_tables (slice_set ts t (Some other)) ≡ replicated_tables ts
written-replicated [] t table other at same = refl
written-replicated (x ∷ xs) zero table other at same =
    let is : x ≡ Some table = at in
    rw is (ap (λ o. Some o ∷ replicated_tables xs) same)
written-replicated (x ∷ xs) (suc t) table other at same = ap (λ l. option_map replicated_table x ∷ l) (written-replicated xs t table other at same)
