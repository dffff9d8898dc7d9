-- Tables reassigned one by one after the end of a process. The idle tables of other processes need no visit.
use Rattle.std.proofs.Common.{◌≡◌, ℕ, ◌⊎◌, nat_eq, zero, suc, Bool, true, false, cond, List, [], ◌∷◌, ◌++◌, Option, None, Some, inl, inr, refl, sym, ap, subst, true≢false, ◌∙◌, length, set, map, filter}
use Rattle.std.specs.Option.{option_map_or}
use Rattle.std.proofs.Math.ListN.{get_or-map}
use Rattle.std.specs.Prelude.{option_map, if◌then◌else◌}
use Rattle.std.specs.Ordering.{nat_cmp, eq_by_cmp}
use Rattle.std.specs.Cmp.{nat_cmp_total}
use Rattle.std.specs.FinMap.{remove, get, get-remove, same_map, nat_cmp-IsAntisymmetric}
use Rattle.std.proofs.lemmas.Bool.{cases_eq}
use Rattle.std.proofs.lemmas.Option.{same_Some}
use Rattle.std.proofs.lemmas.List.{get_or-set_other, length-map}
use Rattle.bucket_table.specs.Slots.{without_tombstones}
use Rattle.fixed_walk.specs.Fixes.{FixCounts, is_fixed}
use Rattle.fixed_walk.specs.TableState.{TableState, after_release_all}
use Rattle.fixed_walk.proofs.TombstoneLaws.{free-release_all, without_tombstones-none}
use Rattle.ownership.specs.declared.metadata.Metadata.{Metadata}
use Rattle.ownership.specs.declared.metadata.Heir.{Heir}
use Rattle.ownership.specs.World.{Table, Tables, Processes, table_at, lives}
use Rattle.ownership.specs.Access.{is_owner}
use Rattle.ownership.specs.End.{living_heir, without_fixes, table_after_exit}
use Rattle.ownership.specs.Tables.{with_owner}
use Rattle.ownership.specs.inside.Ending.{IsReassigned, ReassignsTables}
use Rattle.ownership.specs.inside.Indices.{IsAmong, AscendsBetween, IsUnfixed, FixedAreListed, CoversTablesOf, is_fixed_at}
use Rattle.ownership.proofs.Ascending.{among-filter, between-filter, among-either, among-left, among-right}
use Rattle.ownership.proofs.Owning.{same-number}

-- ---- to release twice is to release once
gone-twice : (m : FixCounts) (p : ℕ) → remove (remove m p) p ≡ remove m p
gone-twice m p = same_map nat_cmp_total nat_cmp-IsAntisymmetric _ _ (λ q. get-remove nat_cmp_total (remove m p) p q ∙ either (eq_by_cmp nat_cmp q p) q refl)
  where
    either : (b : Bool) (q : ℕ) → eq_by_cmp nat_cmp q p ≡ b → cond b None (get (remove m p) q) ≡ get (remove m p) q
    either true q e = sym (get-remove nat_cmp_total m p q ∙ ap (λ b. cond b None (get m q)) e)
    either false q e = refl

released-at : (b : Bool) (f : TableState) (p : ℕ) → is_fixed (remove f.fixes p) ≡ b → after_release_all p (after_release_all p f) ≡ after_release_all p f
released-at true f p e =
    let once : after_release_all p f ≡ record f { fixes = remove f.fixes p } = rw e refl in
    rw once (rw (gone-twice f.fixes p) (rw e refl))
released-at false f p e =
    let once : after_release_all p f ≡ record f { content = record f.content { slots = without_tombstones f.content.slots }; fixes = remove f.fixes p } = rw e refl in
    rw once (sym (free-release_all p (record f { content = record f.content { slots = without_tombstones f.content.slots }; fixes = remove f.fixes p }) e (λ free. without_tombstones-none f.content.slots)))

released-twice : (p : ℕ) (f : TableState) → after_release_all p (after_release_all p f) ≡ after_release_all p f
released-twice p f = released-at (is_fixed (remove f.fixes p)) f p refl

-- an idle table stays as it is
pub idle-stays : (p : ℕ) (f : TableState) → IsUnfixed f → after_release_all p f ≡ f
idle-stays p f idle = sym (free-release_all p f idle.0 (λ free. idle.1))

-- ---- a table that is reassigned twice
module _ (ps : Processes) (p : ℕ) (dead : lives ps p ≡ false) where
  heir-lives : (metadata : Metadata) (heir : Heir) → living_heir ps metadata ≡ Some heir → lives ps heir.pid ≡ true
  heir-lives metadata heir e = by metadata.heir e
    where
      at : (b : Bool) (own : Heir) → lives ps own.pid ≡ b → cond b (Some own) None ≡ Some heir → lives ps heir.pid ≡ true
      at true own l e = let same : own ≡ heir = same_Some _ _ e in ap (λ (h : Heir). lives ps h.pid) (sym same) ∙ l
      at false own l e = absurd (cc)

      by : (o : Option Heir) → living_heir ps (record metadata { heir = o }) ≡ Some heir → lives ps heir.pid ≡ true
      by None e = absurd (cc)
      by (Some own) e = at (lives ps own.pid) own refl e

  other-pid : (q : ℕ) → lives ps q ≡ true → nat_eq q p ≡ false
  other-pid q l = by (nat_eq q p) refl
    where
      by : (b : Bool) → nat_eq q p ≡ b → b ≡ false
      by true e = let same : q ≡ p = same-number q p e in absurd (true≢false (sym l ∙ ap (lives ps) same ∙ dead))
      by false e = refl

  twice-at : (b : Bool) (table : Table) (h : Option Heir) → is_owner table.metadata p ≡ b → living_heir ps table.metadata ≡ h → table_after_exit ps p (table_after_exit ps p (Some table)) ≡ table_after_exit ps p (Some table)
  twice-at true table None own e =
      let once : table_after_exit ps p (Some table) ≡ None = rw (own, e) refl in
      rw once refl
  twice-at true table (Some heir) own e =
      let once : table_after_exit ps p (Some table) ≡ Some (with_owner heir.pid (without_fixes p table)) = rw (own, e) refl in
      let other : nat_eq heir.pid p ≡ false = other-pid heir.pid (heir-lives table.metadata heir e) in
      rw once (rw other (ap (λ f. Some (record (with_owner heir.pid table) { state = f })) (released-twice p table.state)))
  twice-at false table h own e =
      let once : table_after_exit ps p (Some table) ≡ Some (without_fixes p table) = rw own refl in
      rw once (rw own (ap (λ f. Some (record table { state = f })) (released-twice p table.state)))

  pub reassigned-twice : (o : Option Table) → table_after_exit ps p (table_after_exit ps p o) ≡ table_after_exit ps p o
  reassigned-twice None = refl
  reassigned-twice (Some table) = twice-at (is_owner table.metadata p) table (living_heir ps table.metadata) refl refl

  -- an idle table of another process needs no visit
  pub reassigned-idle : (table : Table) → is_owner table.metadata p ≡ false → IsUnfixed table.state → table_after_exit ps p (Some table) ≡ Some table
  reassigned-idle table other idle = rw other (ap (λ f. Some (record table { state = f })) (idle-stays p table.state idle))

-- ---- lists of tables that are reassigned at places
module _ (after : Option Table → Option Table) (empty : after None ≡ None) (twice : (o : Option Table) → after (after o) ≡ after o) where
  pub map-at : (tables : Tables) (t : ℕ) → map after (set tables t (after (table_at tables t))) ≡ map after tables
  map-at [] t = refl
  map-at (o ∷ tables) zero = ap (λ x. x ∷ map after tables) (twice o)
  map-at (o ∷ tables) (suc t) = ap (λ rest. after o ∷ rest) (map-at tables t)

  pub reassigned-here : (tables : Tables) (t : ℕ) → IsReassigned after (set tables t (after (table_at tables t))) t
  reassigned-here [] t = empty
  reassigned-here (o ∷ tables) zero = twice o
  reassigned-here (o ∷ tables) (suc t) = reassigned-here tables t

  reassigned-still : (tables : Tables) (t u : ℕ) → IsReassigned after tables u → (u ≡ t) ⊎ (u ≡ t → ⊥) → IsReassigned after (set tables t (after (table_at tables t))) u
  reassigned-still tables t u s (inl same) = subst (IsReassigned after (set tables t (after (table_at tables t)))) (sym same) (reassigned-here tables t)
  reassigned-still tables t u s (inr other) =
      let there = get_or-set_other tables t u (after (table_at tables t)) None other in
      ap after there ∙ s ∙ sym there

  pub reassigned-there : (tables : Tables) (t u : ℕ) → IsReassigned after tables u → IsReassigned after (set tables t (after (table_at tables t))) u
  reassigned-there tables t u s = reassigned-still tables t u s (cases_eq u t)

  -- one more table is reassigned
  pub reassigns-more : (ids : List ℕ) (id : ℕ) (old mid new : Tables) → ReassignsTables after ids old mid → new ≡ set mid id (after (table_at mid id)) → ReassignsTables after (ids ++ id ∷ []) old new
  reassigns-more ids id old mid new reassigns is = record {
    same = ap (map after) is ∙ map-at mid id ∙ reassigns.same;
    here = λ t a. subst (λ (ts : Tables). IsReassigned after ts t) (sym is) (by t (among-either ids (id ∷ []) t a));
    there = λ t s. subst (λ (ts : Tables). IsReassigned after ts t) (sym is) (reassigned-there mid id t (reassigns.there t s));
  }
    where
      by : (t : ℕ) → IsAmong t ids ⊎ IsAmong t (id ∷ []) → IsReassigned after (set mid id (after (table_at mid id))) t
      by t (inl among) = reassigned-there mid id t (reassigns.here t among)
      by t (inr (inl same)) = subst (IsReassigned after (set mid id (after (table_at mid id)))) (sym same) (reassigned-here mid id)
      by t (inr (inr none)) = absurd none

pub reassigns-none : (after : Option Table → Option Table) (tables : Tables) → ReassignsTables after [] tables tables
reassigns-none after tables = record { same = refl; here = λ t a. absurd a; there = λ t s. s }

-- a place that is written twice
pub written-again : (tables : Tables) (t : ℕ) (d o : Option Table) → set (set tables t d) t o ≡ set tables t o
written-again [] t d o = refl
written-again (x ∷ tables) zero d o = refl
written-again (x ∷ tables) (suc t) d o = ap (λ rest. x ∷ rest) (written-again tables t d o)

-- if all tables are reassigned, nothing changes
all-reassigned : (after : Option Table → Option Table) (tables : Tables) → ((t : ℕ) → IsReassigned after tables t) → map after tables ≡ tables
all-reassigned after [] s = refl
all-reassigned after (o ∷ tables) s = let here = s 0 in let rest = all-reassigned after tables (λ t. s (suc t)) in λ i. here i ∷ rest i

-- ---- the tables after the end of a process
pub record Left (ps : Processes) (p : ℕ) (o : Option Table) (new : Table) : Type 0 where
  pub table : Table
  pub was : o ≡ Some table
  pub fixed : new.state ≡ after_release_all p table.state
  pub metadata : (new.metadata ≡ table.metadata × (is_owner table.metadata p ≡ false)) ⊎ ((heir : Heir) × (living_heir ps table.metadata ≡ Some heir) × (is_owner table.metadata p ≡ true) × (new.metadata ≡ record table.metadata { owner = heir.pid }))

module _ (ps : Processes) (p : ℕ) where
  left-at : (b : Bool) (h : Option Heir) (table new : Table) → is_owner table.metadata p ≡ b → living_heir ps table.metadata ≡ h
      → (if b then option_map (λ (heir : Heir). with_owner heir.pid (without_fixes p table)) h else Some (without_fixes p table)) ≡ Some new → Left ps p (Some table) new
  left-at true None table new own l e = absurd (cc)
  left-at true (Some heir) table new own l e =
      let same : with_owner heir.pid (without_fixes p table) ≡ new = same_Some _ _ e in
      record { table = table; was = refl; fixed = ap (λ (t : Table). t.state) (sym same); metadata = inr (heir, l, own, ap (λ (t : Table). t.metadata) (sym same)) }
  left-at false h table new own l e =
      let same : without_fixes p table ≡ new = same_Some _ _ e in
      record { table = table; was = refl; fixed = ap (λ (t : Table). t.state) (sym same); metadata = inl (ap (λ (t : Table). t.metadata) (sym same), own) }

  pub left-over : (o : Option Table) (new : Table) → table_after_exit ps p o ≡ Some new → Left ps p o new
  left-over None new e = absurd (cc)
  left-over (Some table) new e =
      left-at (is_owner table.metadata p) (living_heir ps table.metadata) table new refl refl e

-- the process owns no table
pub left-others : (ps : Processes) (p : ℕ) → lives ps p ≡ false → (o : Option Table) (new : Table) → Left ps p o new → is_owner new.metadata p ≡ false
left-others ps p dead o new left = by left.metadata
  where
    by : (new.metadata ≡ left.table.metadata × (is_owner left.table.metadata p ≡ false)) ⊎ ((heir : Heir) × (living_heir ps left.table.metadata ≡ Some heir) × (is_owner left.table.metadata p ≡ true) × (new.metadata ≡ record left.table.metadata { owner = heir.pid })) → is_owner new.metadata p ≡ false
    by (inl same) = ap (λ (h : Metadata). is_owner h p) same.0 ∙ same.1
    by (inr to_heir) = ap (λ (h : Metadata). is_owner h p) to_heir.3 ∙ other-pid ps p dead to_heir.0.pid (heir-lives ps p dead left.table.metadata to_heir.0 to_heir.1)

released-idle-at : (b : Bool) (p : ℕ) (f : TableState) → is_fixed (remove f.fixes p) ≡ b → is_fixed (after_release_all p f).fixes ≡ false → IsUnfixed (after_release_all p f)
released-idle-at true p f e free =
    let once : after_release_all p f ≡ record f { fixes = remove f.fixes p } = rw e refl in
    absurd (true≢false (sym e ∙ ap (λ (g : TableState). is_fixed g.fixes) (sym once) ∙ free))
released-idle-at false p f e free =
    let once : after_release_all p f ≡ record f { content = record f.content { slots = without_tombstones f.content.slots }; fixes = remove f.fixes p } = rw e refl in
    subst IsUnfixed (sym once) (e, without_tombstones-none f.content.slots)

-- a table is idle if the fixes of the process were its last
pub released-idle : (p : ℕ) (f : TableState) → is_fixed (after_release_all p f).fixes ≡ false → IsUnfixed (after_release_all p f)
released-idle p f free = released-idle-at (is_fixed (remove f.fixes p)) p f refl free

module _ (ps : Processes) (p : ℕ) (dead : lives ps p ≡ false) (old : Tables) (own fixed : List ℕ) (listed : FixedAreListed fixed None old) (owned : CoversTablesOf own p old) where
  reassigned-first : (t : ℕ) (o : Option Table) → table_at old t ≡ o → IsAmong t own ⊎ IsAmong t fixed ⊎ (table_after_exit ps p o ≡ o)
  reassigned-first t None e = inr (inr refl)
  reassigned-first t (Some table) e = by (is_owner table.metadata p) refl (listed.each t table e)
    where
      by : (b : Bool) → is_owner table.metadata p ≡ b → (None ≡ Some t) ⊎ IsAmong t fixed ⊎ IsUnfixed table.state → IsAmong t own ⊎ IsAmong t fixed ⊎ (table_after_exit ps p (Some table) ≡ Some table)
      by true is n = inl (owned t table e is)
      by false is (inl dirty) = absurd (cc)
      by false is (inr (inl among)) = inr (inl among)
      by false is (inr (inr idle)) = inr (inr (reassigned-idle ps p dead table is idle))

  -- to reassign the tables of the process and the listed ones is to reassign all
  pub reassigns-all : (new : Tables) → ReassignsTables (table_after_exit ps p) (own ++ fixed) old new → new ≡ map (table_after_exit ps p) old
  reassigns-all new reassigns = sym (all-reassigned (table_after_exit ps p) new each) ∙ reassigns.same
    where
      by : (t : ℕ) → IsAmong t own ⊎ IsAmong t fixed ⊎ (table_after_exit ps p (table_at old t) ≡ table_at old t) → IsReassigned (table_after_exit ps p) new t
      by t (inl mine) = reassigns.here t (among-left own fixed t mine)
      by t (inr (inl among)) = reassigns.here t (among-right own fixed t among)
      by t (inr (inr reassigned)) = reassigns.there t reassigned

      each : (t : ℕ) → IsReassigned (table_after_exit ps p) new t
      each t = by t (reassigned-first t (table_at old t) refl)

  -- the entries afterwards
  pub listed-after : (new : Tables) → new ≡ map (table_after_exit ps p) old → FixedAreListed (filter (is_fixed_at new) fixed) None new
  listed-after new is = record {
    order = subst (λ n. AscendsBetween 0 n (filter (is_fixed_at new) fixed)) (sym (ap (λ (ts : Tables). length ts) is ∙ length-map old (table_after_exit ps p))) (between-filter (is_fixed_at new) 0 (length old) fixed listed.order);
    each = λ t table there. each t table there (left-over ps p (table_at old t) table (sym (get_or-map (table_after_exit ps p) old t None) ∙ ap (λ ts. table_at ts t) (sym is) ∙ there));
  }
    where
      fixed-at : (t : ℕ) (table was : Table) → table_at new t ≡ Some table → table.state ≡ after_release_all p was.state → IsAmong t fixed → (b : Bool) → is_fixed table.state.fixes ≡ b → IsAmong t (filter (is_fixed_at new) fixed) ⊎ IsUnfixed table.state
      fixed-at t table was there f a true e = inl (among-filter (is_fixed_at new) fixed t (ap (λ o. option_map_or (λ (x : Table). is_fixed x.state.fixes) o false) there ∙ e) a)
      fixed-at t table was there f a false e = inr (subst IsUnfixed (sym f) (released-idle p was.state (ap (λ (g : TableState). is_fixed g.fixes) (sym f) ∙ e)))

      by : (t : ℕ) (table was : Table) → table_at new t ≡ Some table → table.state ≡ after_release_all p was.state → (None ≡ Some t) ⊎ IsAmong t fixed ⊎ IsUnfixed was.state → (None ≡ Some t) ⊎ IsAmong t (filter (is_fixed_at new) fixed) ⊎ IsUnfixed table.state
      by t table was there f (inl dirty) = absurd (cc)
      by t table was there f (inr (inl among)) = inr (fixed-at t table was there f among (is_fixed table.state.fixes) refl)
      by t table was there f (inr (inr idle)) = inr (inr (subst IsUnfixed (sym (f ∙ idle-stays p was.state idle)) idle))

      each : (t : ℕ) (table : Table) → table_at new t ≡ Some table → Left ps p (table_at old t) table → (None ≡ Some t) ⊎ IsAmong t (filter (is_fixed_at new) fixed) ⊎ IsUnfixed table.state
      each t table there left = by t table left.table there left.fixed (listed.each t left.table left.was)
