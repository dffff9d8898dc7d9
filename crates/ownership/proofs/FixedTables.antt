-- Tables that may be fixed: the entry of the dirty table, and the entries after the end of a process.
use Rattle.std.proofs.Common.{◌≡◌, ℕ, ◌<◌, ◌⊎◌, zero, suc, List, [], ◌∷◌, None, Some, Result, Ok, Err, OnOk, IsOk, inl, inr, sym, ap, subst, ◌∙◌, length, arith}
use Rattle.std.proofs.lemmas.Option.{same_Some}
use Rattle.ownership.specs.World.{Table, Tables, table_at}
use Rattle.ownership.specs.inside.Indices.{IsAmong, InsertsInOrder, IsUnfixed, FixedAreListed}

pub is-there : (tables : Tables) (t : ℕ) (table : Table) → table_at tables t ≡ Some table → t < length tables
is-there [] t table e = absurd (cc)
is-there (x ∷ tables) zero table e = omega arith
is-there (x ∷ tables) (suc t) table e = let rest = is-there tables t table e in omega (arith, rest)

pub on-ok : {E : Type 0} {P : Type 0} (r : Result (Unit {0}) E) → IsOk r → OnOk r P → P
on-ok (Ok done) h p = p
on-ok (Err error) h p = absurd (cc)

module _ (tables : Tables) (ids : List ℕ) (last : ℕ) (table : Table) (at : table_at tables last ≡ Some table) (listed : FixedAreListed ids (Some last) tables) where
  -- the dirty table is inserted
  pub listed-put : (new : List ℕ) → InsertsInOrder ids last new → FixedAreListed new None tables
  listed-put new put = record {
    order = put.order 0 (length tables) (omega arith) (is-there tables last table at) listed.order;
    each = λ t own there. by t own there (listed.each t own there);
  }
    where
      by : (t : ℕ) (own : Table) → table_at tables t ≡ Some own → (Some last ≡ Some t) ⊎ IsAmong t ids ⊎ IsUnfixed own.state → (None ≡ Some t) ⊎ IsAmong t new ⊎ IsUnfixed own.state
      by t own there (inl dirty) = inr (inl (subst (λ i. IsAmong i new) (same_Some _ _ dirty) put.here))
      by t own there (inr (inl among)) = inr (inl (put.more t among))
      by t own there (inr (inr idle)) = inr (inr idle)

  -- or it is idle
  pub listed-idle : IsUnfixed table.state → FixedAreListed ids None tables
  listed-idle is = record { order = listed.order; each = λ t own there. by t own there (listed.each t own there) }
    where
      by : (t : ℕ) (own : Table) → table_at tables t ≡ Some own → (Some last ≡ Some t) ⊎ IsAmong t ids ⊎ IsUnfixed own.state → (None ≡ Some t) ⊎ IsAmong t ids ⊎ IsUnfixed own.state
      by t own there (inl dirty) =
          let same : Some own ≡ Some table = sym there ∙ ap (table_at tables) (sym (same_Some _ _ dirty)) ∙ at in
          inr (inr (subst (λ (x : Table). IsUnfixed x.state) (sym (same_Some _ _ same)) is))
      by t own there (inr (inl among)) = inr (inl among)
      by t own there (inr (inr idle)) = inr (inr idle)

-- another table is marked dirty
pub listed-dirty : (ids : List ℕ) (id : ℕ) (tables : Tables) → FixedAreListed ids None tables → FixedAreListed ids (Some id) tables
listed-dirty ids id tables listed = record { order = listed.order; each = λ t own there. by t own (listed.each t own there) }
  where
    by : (t : ℕ) (own : Table) → (None ≡ Some t) ⊎ IsAmong t ids ⊎ IsUnfixed own.state → (Some id ≡ Some t) ⊎ IsAmong t ids ⊎ IsUnfixed own.state
    by t own (inl dirty) = absurd (cc)
    by t own (inr other) = inr other
