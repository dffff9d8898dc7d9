-- Each change of the tables preserves the invariant of the indices.
use Rattle.std.proofs.Common.{◌≡◌, ℕ, ◌+◌, ◌<◌, ◌≤◌, ◌⊎◌, zero, suc, true, false, List, [], ◌∷◌, ◌++◌, Option, None, Some, inl, inr, refl, sym, ap, subst, true≢false, ◌∙◌, length, set, map, arith, length-append}
use Rattle.std.specs.Prelude.{vec_capacity, option_map}
use Rattle.indexmap.specs.IndexMap.{get_by_text}
use Rattle.std.specs.declared.alloc.Global.{Global}
use Rattle.std.specs.declared.vec.Vec.{Vec}
use Rattle.std.proofs.Math.ListN.{length-set, get_or-map}
use Rattle.std.proofs.Math.Seq.{get_or-append_seam}
use Rattle.std.proofs.lemmas.Bool.{cases_eq, cases_lt}
use Rattle.std.proofs.lemmas.List.{get_or_past, get_or_append_left, get_or-set_same, get_or-set_other}
use Rattle.std.proofs.lemmas.Option.{same_Some}
use Rattle.fixed_walk.specs.TableState.{TableState, after_release_all}
use Rattle.ownership.specs.declared.metadata.Metadata.{Metadata}
use Rattle.ownership.specs.declared.metadata.Heir.{Heir}
use Rattle.ownership.specs.declared.indices.Indices.{Indices}
use Rattle.ownership.specs.World.{Table, Tables, Processes, lives, table_at, all_metadata, metadata_of, is_named, with_changed}
use Rattle.ownership.specs.Tables.{with_owner, with_heir}
use Rattle.ownership.specs.Access.{is_owner}
use Rattle.ownership.specs.End.{living_heir, table_after_exit}
use Rattle.ownership.specs.inside.Names.{NameIndexIsExact}
use Rattle.ownership.specs.inside.Indices.{IsAmong, AscendsBetween, OwnerIndexCovers, CoversTablesOf, HeirsOfOwnerAreIndexed, FixedAreListed, IsUnfixed, IndicesInvariant, AddsUnderOwners, RemovesOwner, ids_under}
use Rattle.ownership.proofs.Ascending.{between-higher}
use Rattle.ownership.proofs.MetadataLaws.{metadata-there, all_metadata-same}
use Rattle.ownership.proofs.Kept.{names-stay, names-none}
use Rattle.ownership.proofs.FixedTables.{listed-dirty}
use Rattle.ownership.proofs.Owning.{same-number, forgets-others}
use Rattle.ownership.proofs.Reassigning.{Left, left-over, left-others, idle-stays}

-- a place changes
place-set : (tables : Tables) (t : ℕ) (o : Option Table) (u : ℕ) (table : Table) → table_at (set tables t o) u ≡ Some table → ((u ≡ t) × (o ≡ Some table)) ⊎ (table_at tables u ≡ Some table)
place-set tables t o u table e = by (cases_eq u t)
  where
    here : u ≡ t → (t < length tables) ⊎ (length tables ≤ t) → ((u ≡ t) × (o ≡ Some table)) ⊎ (table_at tables u ≡ Some table)
    here same (inl within) = inl (same, sym (get_or-set_same tables t o None within) ∙ ap (table_at (set tables t o)) (sym same) ∙ e)
    here same (inr past) =
        let beyond : length (set tables t o) ≤ u = omega (arith, length-set {A = Option Table}, past, same) in
        let none : table_at (set tables t o) u ≡ None = get_or_past (set tables t o) u None beyond in
        absurd (cc (none, e))

    by : (u ≡ t) ⊎ (u ≡ t → ⊥) → ((u ≡ t) × (o ≡ Some table)) ⊎ (table_at tables u ≡ Some table)
    by (inl same) = here same (cases_lt t (length tables))
    by (inr other) = inr (sym (get_or-set_other tables t u o None other) ∙ e)

-- a place that is written as it is
pub same-place : (tables : Tables) (t : ℕ) → set tables t (table_at tables t) ≡ tables
same-place [] t = refl
same-place (x ∷ tables) zero = refl
same-place (x ∷ tables) (suc t) = ap (λ rest. x ∷ rest) (same-place tables t)

-- one place more
place-push : (tables : Tables) (o : Option Table) (u : ℕ) (table : Table) → table_at (tables ++ o ∷ []) u ≡ Some table → ((u ≡ length tables) × (o ≡ Some table)) ⊎ (table_at tables u ≡ Some table)
place-push tables o u table e = by (cases_eq u (length tables)) (cases_lt u (length tables))
  where
    by : (u ≡ length tables) ⊎ (u ≡ length tables → ⊥) → (u < length tables) ⊎ (length tables ≤ u) → ((u ≡ length tables) × (o ≡ Some table)) ⊎ (table_at tables u ≡ Some table)
    by (inl same) side = inl (same, sym (get_or-append_seam tables o [] None) ∙ ap (table_at (tables ++ o ∷ [])) (sym same) ∙ e)
    by (inr other) (inl within) = inr (sym (get_or_append_left tables (o ∷ []) None u within) ∙ e)
    by (inr other) (inr past) =
        let beyond : length (tables ++ o ∷ []) ≤ u = omega (arith, length-append {A = Option Table}, past, other) in
        let none : table_at (tables ++ o ∷ []) u ≡ None = get_or_past (tables ++ o ∷ []) u None beyond in
        absurd (cc (none, e))

-- the table under its metadata
answer_and_metadata : (o : Option Table) (metadata : Metadata) → metadata_of o ≡ Some metadata → (table : Table) × (o ≡ Some table) × (table.metadata ≡ metadata)
answer_and_metadata None metadata e = absurd (cc)
answer_and_metadata (Some table) metadata e = (table, refl, same_Some _ _ e)

owners-by : (owned : ℕ → List ℕ) (tables : Tables) → ((t : ℕ) (table : Table) → table_at tables t ≡ Some table → IsAmong t (owned table.metadata.owner)) → OwnerIndexCovers owned (all_metadata tables)
owners-by owned tables each t metadata at =
    let found = answer_and_metadata (table_at tables t) metadata (sym (metadata-there tables t) ∙ at) in
    subst (λ (h : Metadata). IsAmong t (owned h.owner)) found.2 (each t found.0 found.1)

owner-at : (owned : ℕ → List ℕ) (tables : Tables) → OwnerIndexCovers owned (all_metadata tables) → (t : ℕ) (table : Table) → table_at tables t ≡ Some table → IsAmong t (owned table.metadata.owner)
owner-at owned tables by_owner t table e = by_owner t table.metadata (metadata-there tables t ∙ ap metadata_of e)

-- all tables of a process are among those under it in the index
pub owned-all : (owned : ℕ → List ℕ) (tables : Tables) (p : ℕ) → OwnerIndexCovers owned (all_metadata tables) → CoversTablesOf (owned p) p tables
owned-all owned tables p by_owner t table e own = subst (λ q. IsAmong t (owned q)) (same-number table.metadata.owner p own) (owner-at owned tables by_owner t table e)

module _ (indices : Indices) (tables : Tables) (kept : IndicesInvariant indices tables) where
  -- more tables are listed under owners
  pub kept-adds : (new : Indices) → AddsUnderOwners indices new → IndicesInvariant new tables
  kept-adds new adds = subst (λ (i : Indices). IndicesInvariant i tables) (sym adds.rest) (record {
    few = kept.few;
    room = kept.room;
    by_name = kept.by_name;
    by_owner = λ t metadata at. adds.more metadata.owner t (kept.by_owner t metadata at);
    order = adds.order kept.order;
    listed = kept.listed;
  })

  -- other tables are listed as fixed
  pub kept-beside : (now : Vec ℕ Global) (next : Option ℕ) → FixedAreListed now.items next tables → length tables ≤ vec_capacity now → IndicesInvariant (record indices { fixed = now; dirty = next }) tables
  kept-beside now next listed room = record { few = kept.few; room = room; by_name = kept.by_name; by_owner = kept.by_owner; order = kept.order; listed = listed }

  -- a table is marked dirty
  pub kept-mark_dirty : indices.dirty ≡ None → (id : ℕ) → IndicesInvariant (record indices { dirty = Some id }) tables
  kept-mark_dirty none id = kept-beside indices.fixed (Some id) (listed-dirty indices.fixed.items id tables (subst (λ dirty. FixedAreListed indices.fixed.items dirty tables) none kept.listed)) kept.room

  -- there is more capacity
  pub kept-room : (new : Indices) → new ≡ record indices { fixed = new.fixed } → new.fixed.items ≡ indices.fixed.items → vec_capacity indices.fixed ≤ vec_capacity new.fixed → IndicesInvariant new tables
  kept-room new rest items more = subst (λ (i : Indices). IndicesInvariant i tables) (sym rest) (kept-beside new.fixed indices.dirty (subst (λ ids. FixedAreListed ids indices.dirty tables) (sym items) kept.listed) (omega (arith, kept.room, more)))

  -- the names are as good
  pub kept-named : (new : Indices) → new ≡ record indices { names = new.names } → NameIndexIsExact (get_by_text new.names) (all_metadata tables) → IndicesInvariant new tables
  kept-named new rest by_name = subst (λ (i : Indices). IndicesInvariant i tables) (sym rest) (record { few = kept.few; room = kept.room; by_name = by_name; by_owner = kept.by_owner; order = kept.order; listed = kept.listed })

  -- one place changes
  pub kept-set : (new : Indices) → new ≡ record indices { names = new.names } → (t : ℕ) (o : Option Table) → NameIndexIsExact (get_by_text new.names) (all_metadata (set tables t o))
      → ((table : Table) → o ≡ Some table → IsAmong t (ids_under indices table.metadata.owner) × ((indices.dirty ≡ Some t) ⊎ IsAmong t indices.fixed.items ⊎ IsUnfixed table.state)) → IndicesInvariant new (set tables t o)
  kept-set new rest t o by_name here = subst (λ (i : Indices). IndicesInvariant i (set tables t o)) (sym rest) (record {
    few = omega (arith, length-set {A = Option Table}, kept.few);
    room = omega (arith, length-set {A = Option Table}, kept.room);
    by_name = by_name;
    by_owner = owners-by (ids_under indices) (set tables t o) (λ u table e. owner u table (place-set tables t o u table e));
    order = kept.order;
    listed = record {
      order = between-higher 0 (length tables) (length (set tables t o)) indices.fixed.items (omega (arith, length-set {A = Option Table})) kept.listed.order;
      each = λ u table e. each u table (place-set tables t o u table e);
    };
  })
    where
      owner : (u : ℕ) (table : Table) → ((u ≡ t) × (o ≡ Some table)) ⊎ (table_at tables u ≡ Some table) → IsAmong u (ids_under indices table.metadata.owner)
      owner u table (inl is) = subst (λ i. IsAmong i (ids_under indices table.metadata.owner)) (sym is.0) (here table is.1).0
      owner u table (inr there) = owner-at (ids_under indices) tables kept.by_owner u table there

      each : (u : ℕ) (table : Table) → ((u ≡ t) × (o ≡ Some table)) ⊎ (table_at tables u ≡ Some table) → (indices.dirty ≡ Some u) ⊎ IsAmong u indices.fixed.items ⊎ IsUnfixed table.state
      each u table (inl is) = subst (λ i. (indices.dirty ≡ Some i) ⊎ IsAmong i indices.fixed.items ⊎ IsUnfixed table.state) (sym is.0) (here table is.1).1
      each u table (inr there) = kept.listed.each u table there

  -- a place that is written as it is
  pub kept-same : (t : ℕ) (o : Option Table) → table_at tables t ≡ o → IndicesInvariant indices (set tables t o)
  kept-same t o at = subst (λ (ts : Tables). IndicesInvariant indices ts) (sym (ap (set tables t) (sym at) ∙ same-place tables t)) kept

  -- a table that keeps its objects and fixes keeps its entries
  pub listed-same : (t : ℕ) (old new : Table) → table_at tables t ≡ Some old → new.state ≡ old.state → (indices.dirty ≡ Some t) ⊎ IsAmong t indices.fixed.items ⊎ IsUnfixed new.state
  listed-same t old new at same = by (kept.listed.each t old at)
    where
      by : (indices.dirty ≡ Some t) ⊎ IsAmong t indices.fixed.items ⊎ IsUnfixed old.state → (indices.dirty ≡ Some t) ⊎ IsAmong t indices.fixed.items ⊎ IsUnfixed new.state
      by (inl is) = inl is
      by (inr (inl among)) = inr (inl among)
      by (inr (inr idle)) = inr (inr (subst IsUnfixed (sym same) idle))

  -- the table at a place, if it exists, gets other metadata with the same name
  kept-metadata : (t : ℕ) (o : Option Table) (change : Table → Table) → table_at tables t ≡ o → ((table : Table) (name : List ℕ) → is_named name (Some (change table).metadata) ≡ is_named name (Some table.metadata)) → ((table : Table) → (change table).state ≡ table.state)
      → ((table : Table) → table_at tables t ≡ Some table → IsAmong t (ids_under indices (change table).metadata.owner)) → IndicesInvariant indices (set tables t (option_map change o))
  kept-metadata t None change e same holds own = kept-set indices refl t None (names-none (get_by_text indices.names) tables t e kept.by_name) (λ table is. absurd (cc))
  kept-metadata t (Some old) change e same holds own =
      kept-set indices refl t (Some (change old)) (names-stay (get_by_text indices.names) tables t old (change old) e (same old) kept.by_name)
      (λ table is. let it = same_Some _ _ is in subst (λ (x : Table). IsAmong t (ids_under indices x.metadata.owner) × ((indices.dirty ≡ Some t) ⊎ IsAmong t indices.fixed.items ⊎ IsUnfixed x.state)) it (own old e, listed-same t old (change old) e (holds old)))

  pub kept-passed : (t q : ℕ) → IsAmong t (ids_under indices q) → IndicesInvariant indices (with_changed (with_owner q) tables t)
  kept-passed t q own = kept-metadata t (table_at tables t) (with_owner q) refl (λ table name. refl) (λ table. refl) (λ table e. own)

  pub kept-heir : (t : ℕ) (heir : Option Heir) → IndicesInvariant indices (with_changed (with_heir heir) tables t)
  kept-heir t heir = kept-metadata t (table_at tables t) (with_heir heir) refl (λ table name. refl) (λ table. refl) (λ table e. owner-at (ids_under indices) tables kept.by_owner t table e)

  -- the dirty table changes under its metadata
  pub kept-fixed : (t : ℕ) (table : Table) (f : TableState) → table_at tables t ≡ Some table → indices.dirty ≡ Some t → IndicesInvariant indices (set tables t (Some (record table { state = f })))
  kept-fixed t table f e last =
      kept-set indices refl t (Some (record table { state = f })) (subst (NameIndexIsExact (get_by_text indices.names)) (sym (all_metadata-same tables t table f e)) kept.by_name)
      (λ it is. let same = same_Some _ _ is in subst (λ (x : Table). IsAmong t (ids_under indices x.metadata.owner) × ((indices.dirty ≡ Some t) ⊎ IsAmong t indices.fixed.items ⊎ IsUnfixed x.state)) same (owner-at (ids_under indices) tables kept.by_owner t table e, inl last))

  -- a table keeps its name, and the fixes of a process are released
  pub kept-released : (p t : ℕ) (old new : Table) → table_at tables t ≡ Some old → new.state ≡ after_release_all p old.state → ((name : List ℕ) → is_named name (Some new.metadata) ≡ is_named name (Some old.metadata)) → IsAmong t (ids_under indices new.metadata.owner)
      → IndicesInvariant indices (set tables t (Some new))
  kept-released p t old new at left same own =
      kept-set indices refl t (Some new) (names-stay (get_by_text indices.names) tables t old new at same kept.by_name)
      (λ it is. subst (λ (x : Table). IsAmong t (ids_under indices x.metadata.owner) × ((indices.dirty ≡ Some t) ⊎ IsAmong t indices.fixed.items ⊎ IsUnfixed x.state)) (same_Some _ _ is) (own, by (kept.listed.each t old at)))
    where
      by : (indices.dirty ≡ Some t) ⊎ IsAmong t indices.fixed.items ⊎ IsUnfixed old.state → (indices.dirty ≡ Some t) ⊎ IsAmong t indices.fixed.items ⊎ IsUnfixed new.state
      by (inl is) = inl is
      by (inr (inl among)) = inr (inl among)
      by (inr (inr idle)) = inr (inr (subst IsUnfixed (sym (left ∙ idle-stays p old.state idle)) idle))

  -- one table more
  pub kept-push : (new : Indices) → new ≡ record indices { names = new.names } → (table : Table) → length tables + 1 < 4294967296 → length tables + 1 ≤ vec_capacity indices.fixed → NameIndexIsExact (get_by_text new.names) (all_metadata (tables ++ Some table ∷ []))
      → IsAmong (length tables) (ids_under indices table.metadata.owner) → indices.dirty ≡ Some (length tables) → IndicesInvariant new (tables ++ Some table ∷ [])
  kept-push new rest table few room by_name own last = subst (λ (i : Indices). IndicesInvariant i (tables ++ Some table ∷ [])) (sym rest) (record {
    few = omega (arith, length-append {A = Option Table}, few);
    room = omega (arith, length-append {A = Option Table}, room);
    by_name = by_name;
    by_owner = owners-by (ids_under indices) (tables ++ Some table ∷ []) (λ u it e. owner u it (place-push tables (Some table) u it e));
    order = kept.order;
    listed = record {
      order = between-higher 0 (length tables) (length (tables ++ Some table ∷ [])) indices.fixed.items (omega (arith, length-append {A = Option Table})) kept.listed.order;
      each = λ u it e. each u it (place-push tables (Some table) u it e);
    };
  })
    where
      owner : (u : ℕ) (it : Table) → ((u ≡ length tables) × (Some table ≡ Some it)) ⊎ (table_at tables u ≡ Some it) → IsAmong u (ids_under indices it.metadata.owner)
      owner u it (inl is) = subst (λ i. IsAmong i (ids_under indices it.metadata.owner)) (sym is.0) (subst (λ (x : Table). IsAmong (length tables) (ids_under indices x.metadata.owner)) (same_Some _ _ is.1) own)
      owner u it (inr there) = owner-at (ids_under indices) tables kept.by_owner u it there

      each : (u : ℕ) (it : Table) → ((u ≡ length tables) × (Some table ≡ Some it)) ⊎ (table_at tables u ≡ Some it) → (indices.dirty ≡ Some u) ⊎ IsAmong u indices.fixed.items ⊎ IsUnfixed it.state
      each u it (inl is) = inl (last ∙ ap Some (sym is.0))
      each u it (inr there) = kept.listed.each u it there

-- a table that is reassigned and not deleted keeps its name, and its owner has it in the index
pub kept-left : (ps : Processes) (p : ℕ) (indices : Indices) (tables : Tables) → IndicesInvariant indices tables → HeirsOfOwnerAreIndexed indices ps p tables → (t : ℕ) (new : Table) → table_after_exit ps p (table_at tables t) ≡ Some new → IndicesInvariant indices (set tables t (Some new))
kept-left ps p indices tables kept heirs t new is = by (left-over ps p (table_at tables t) new is)
  where
    by : Left ps p (table_at tables t) new → IndicesInvariant indices (set tables t (Some new))
    by left = kept-released indices tables kept p t left.table new left.was left.fixed (name left.metadata) (owner left.metadata)
      where
        name : (new.metadata ≡ left.table.metadata × (is_owner left.table.metadata p ≡ false)) ⊎ ((heir : Heir) × (living_heir ps left.table.metadata ≡ Some heir) × (is_owner left.table.metadata p ≡ true) × (new.metadata ≡ record left.table.metadata { owner = heir.pid }))
            → (name : List ℕ) → is_named name (Some new.metadata) ≡ is_named name (Some left.table.metadata)
        name (inl same) n = ap (λ (h : Metadata). is_named n (Some h)) same.0
        name (inr to_heir) n = ap (λ (h : Metadata). is_named n (Some h)) to_heir.3

        owner : (new.metadata ≡ left.table.metadata × (is_owner left.table.metadata p ≡ false)) ⊎ ((heir : Heir) × (living_heir ps left.table.metadata ≡ Some heir) × (is_owner left.table.metadata p ≡ true) × (new.metadata ≡ record left.table.metadata { owner = heir.pid }))
            → IsAmong t (ids_under indices new.metadata.owner)
        owner (inl same) = subst (λ (h : Metadata). IsAmong t (ids_under indices h.owner)) (sym same.0) (owner-at (ids_under indices) tables kept.by_owner t left.table left.was)
        owner (inr to_heir) = subst (λ (h : Metadata). IsAmong t (ids_under indices h.owner)) (sym to_heir.3) (heirs t left.table to_heir.0 left.was to_heir.2 to_heir.1)

-- a table of the process is reassigned, and its other tables are still under their heirs
pub bequeathed-still : (ps : Processes) (p : ℕ) → lives ps p ≡ false → (old new : Indices) (tables : Tables) → new ≡ record old { names = new.names } → (t : ℕ) → HeirsOfOwnerAreIndexed old ps p tables → HeirsOfOwnerAreIndexed new ps p (set tables t (table_after_exit ps p (table_at tables t)))
bequeathed-still ps p dead old new tables rest t heirs u table heir at own lived = subst (λ (i : Indices). IsAmong u (ids_under i heir.pid)) (sym rest) (by (place-set tables t _ u table at))
  where
    by : ((u ≡ t) × (table_after_exit ps p (table_at tables t) ≡ Some table)) ⊎ (table_at tables u ≡ Some table) → IsAmong u (ids_under old heir.pid)
    by (inl is) = absurd (true≢false (sym own ∙ left-others ps p dead (table_at tables t) table (left-over ps p (table_at tables t) table is.1)))
    by (inr there) = heirs u table heir there own lived

-- an ended process needs no entry
pub owners-forgotten : (ps : Processes) (p : ℕ) → lives ps p ≡ false → (start tables : Tables) (old new : Indices) → RemovesOwner p old new → OwnerIndexCovers (ids_under old) (all_metadata tables) → tables ≡ map (table_after_exit ps p) start → OwnerIndexCovers (ids_under new) (all_metadata tables)
owners-forgotten ps p dead start tables old new forgets by_owner is =
    owners-by (ids_under new) tables (λ t table e.
    let left : Left ps p (table_at start t) table = left-over ps p (table_at start t) table (sym (get_or-map (table_after_exit ps p) start t None) ∙ ap (λ ts. table_at ts t) (sym is) ∙ e) in
    forgets-others p old new forgets table.metadata.owner t (left-others ps p dead (table_at start t) table left) (owner-at (ids_under old) tables by_owner t table e))

none-named : (names : List ℕ → Option ℕ) → ((name : List ℕ) → names name ≡ None) → NameIndexIsExact names []
none-named names none name t = (λ found. let is : None ≡ Some t = sym (none name) ∙ found in absurd (cc), λ named. absurd (true≢false (sym named)))

-- the table does not exist
pub kept-empty : (indices : Indices) → ((name : List ℕ) → get_by_text indices.names name ≡ None) → ((p : ℕ) → ids_under indices p ≡ []) → indices.fixed.items ≡ [] → IndicesInvariant indices []
kept-empty indices none nobody no-fixed = record {
  few = omega arith;
  room = omega arith;
  by_name = none-named (get_by_text indices.names) none;
  by_owner = λ t metadata at. absurd (cc);
  order = λ p. subst (AscendsBetween 0 4294967296) (sym (nobody p)) (omega arith);
  listed = record { order = subst (AscendsBetween 0 0) (sym no-fixed) (omega arith); each = λ t table at. absurd (cc) };
}
