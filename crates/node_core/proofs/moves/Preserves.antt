-- What a change keeps of a table: its buckets, its keys, the fixes of other processes and their bound; and no slot gets the key
-- '$end_of_table'.
use Rattle.std.proofs.Common.{◌≡◌, ℕ, zero, suc, ◌+◌, ◌-◌, ◌==◌, ◌≤◌, Bool, true, false, cond, None, Some, unwrap_or, Result, Ok, Err, refl, sym, ap, subst, ◌∙◌, arith}
use Rattle.std.specs.Ordering.{nat_cmp, eq_by_cmp}
use Rattle.std.specs.Cmp.{nat_cmp_total}
use Rattle.std.specs.FinMap.{empty, get, get-empty, get-insert, get-remove}
use Rattle.std.proofs.lemmas.Bool.Decides.{nat_tests}
use Rattle.bucket_table.specs.Slots.{without_tombstones}
use Rattle.table_ops.specs.Content.{Content}
use Rattle.table_ops.specs.Drop.{Which}
use Rattle.fixed_walk.specs.declared.fault.FixFault.{FixFault}
use Rattle.fixed_walk.specs.declared.fault.FixFault.TheVariants as fault
use Rattle.fixed_walk.specs.Fixes.{FixCounts, fix_count, max_fixes, is_fixed, with_count}
use Rattle.fixed_walk.specs.TableState.{TableState, IncrementsFix, without_tombstones_if_unfixed, after_release, after_release_all, after_delete}
use Rattle.fixed_walk.specs.laws.Kept.{KeepsKeys}
use Rattle.fixed_walk.proofs.KeptLaws.{delete-keeps, fix-keeps, release-keeps, release_all-keeps, rows-keep}
use Rattle.node_core.specs.Observable.{observable_table_state}
use Rattle.node_core.proofs.moves.EndKeys.{StaysFree, unchanged-free, dropped-free, without_tombstones-free}

-- ---- how often each process fixes a table
apart : (q w : ℕ) → (q == w) ≡ false → eq_by_cmp nat_cmp w q ≡ false
apart q w h = grind (arith, nat_tests)

same-number : (q : ℕ) → eq_by_cmp nat_cmp q q ≡ true
same-number q = grind (arith, nat_tests)

other-count : (m : FixCounts) (q w n : ℕ) → (q == w) ≡ false → fix_count (with_count m q n) w ≡ fix_count m w
other-count m q w zero h =
    ap (λ o. unwrap_or o 0) (get-remove nat_cmp_total m q w ∙ ap (λ (b : Bool). cond b None (get m w)) (apart q w h))
other-count m q w (suc n) h =
    ap (λ o. unwrap_or o 0) (get-insert nat_cmp_total m q (suc n) w ∙ ap (λ (b : Bool). cond b (Some (suc n)) (get m w)) (apart q w h))

pub own-count : (m : FixCounts) (q n : ℕ) → fix_count (with_count m q n) q ≡ n
own-count m q zero =
    ap (λ o. unwrap_or o 0) (get-remove nat_cmp_total m q q ∙ ap (λ (b : Bool). cond b None (get m q)) (same-number q))
own-count m q (suc n) =
    ap (λ o. unwrap_or o 0) (get-insert nat_cmp_total m q (suc n) q ∙ ap (λ (b : Bool). cond b (Some (suc n)) (get m q)) (same-number q))

-- no process has more fixes than it may have
abbrev pub AreBounded : FixCounts → Type 0
AreBounded fixes = (w : ℕ) → fix_count fixes w ≤ max_fixes

pub none-bounded : AreBounded empty
none-bounded w = subst (λ (n : ℕ). n ≤ max_fixes) (sym (ap (λ o. unwrap_or o 0) (get-empty nat_cmp w))) (omega arith)

same-process : (q w : ℕ) → (q == w) ≡ true → q ≡ w
same-process q w h = grind (arith, nat_tests)

counted-bounded : (m : FixCounts) (q n : ℕ) → n ≤ max_fixes → AreBounded m → AreBounded (with_count m q n)
counted-bounded m q n most bounded w = by (q == w) refl
  where
    by : (b : Bool) → (q == w) ≡ b → fix_count (with_count m q n) w ≤ max_fixes
    by true e =
        subst (λ (v : ℕ). fix_count (with_count m q n) v ≤ max_fixes) (same-process q w e)
        (subst (λ (k : ℕ). k ≤ max_fixes) (sym (own-count m q n)) most)
    by false e = subst (λ (k : ℕ). k ≤ max_fixes) (sym (other-count m q w n e)) (bounded w)

-- ---- what is kept by a change that these processes make
pub record Preserves (own : ℕ → Bool) (old new : TableState) : Type 0 where
  pub buckets : new.buckets ≡ old.buckets
  pub bounded : AreBounded old.fixes → AreBounded new.fixes
  pub keys : KeepsKeys old new
  pub ends : StaysFree old.content.slots new.content.slots
  pub fixes : (w : ℕ) → own w ≡ false → fix_count new.fixes w ≡ fix_count old.fixes w

module _ (own : ℕ → Bool) (old new : TableState) where
  same-bounded : {content : Content} → new ≡ record old { content = content } → AreBounded old.fixes → AreBounded new.fixes
  same-bounded e bounded = subst AreBounded (sym (ap (λ (f : TableState). f.fixes) e)) bounded

  -- a change of the content alone
  pub preserves-content : new ≡ record old { content = new.content } → KeepsKeys old new
      → StaysFree old.content.slots new.content.slots → Preserves own old new
  preserves-content e keys ends =
      record { buckets = ap (λ (f : TableState). f.buckets) e; bounded = same-bounded e; keys = keys; ends = ends; fixes = λ w other. ap (λ (f : TableState). fix_count f.fixes w) e }

  pub preserves-same : new ≡ old → Preserves own old new
  preserves-same e = record {
    buckets = ap (λ (f : TableState). f.buckets) e;
    bounded = same-bounded e;
    keys = rows-keep old new (ap (λ (f : TableState). f.content) e);
    ends = unchanged-free old.content new.content (ap (λ (f : TableState). f.content) e);
    fixes = λ w other. ap (λ (f : TableState). fix_count f.fixes w) e;
  }

pub preserves-without : (own : ℕ → Bool) (which : Which) (old : TableState) → Preserves own old (after_delete which old)
preserves-without own which old =
    preserves-content own old (after_delete which old) refl (delete-keeps which old) (dropped-free (is_fixed old.fixes) which old.content.slots)

-- ---- a purge removes the tombstones once no process fixes the table
abbrev state_without_tombstones : TableState → TableState
state_without_tombstones table = record table { content = record table.content { slots = without_tombstones table.content.slots } }

either-observable : (b : Bool) (f g : TableState) → cond b (observable_table_state f) (observable_table_state g) ≡ observable_table_state (cond b f g)
either-observable true f g = refl
either-observable false f g = refl

either-has : (Q : TableState → Type 0) (b : Bool) (f g : TableState) → Q f → Q g → Q (cond b f g)
either-has Q true f g a b = a
either-has Q false f g a b = b

module _ (table : TableState) where
  without_tombstones-observable : without_tombstones_if_unfixed (observable_table_state table) ≡ observable_table_state (without_tombstones_if_unfixed table)
  without_tombstones-observable = either-observable (is_fixed table.fixes) table (state_without_tombstones table)

  without_tombstones-buckets : (without_tombstones_if_unfixed table).buckets ≡ table.buckets
  without_tombstones-buckets =
      either-has (λ f. f.buckets ≡ table.buckets) (is_fixed table.fixes) table (state_without_tombstones table) refl refl

  pub without_tombstones-fixes : (without_tombstones_if_unfixed table).fixes ≡ table.fixes
  without_tombstones-fixes = either-has (λ f. f.fixes ≡ table.fixes) (is_fixed table.fixes) table (state_without_tombstones table) refl refl

  without_tombstones-or-fixed-free : StaysFree table.content.slots (without_tombstones_if_unfixed table).content.slots
  without_tombstones-or-fixed-free =
      either-has (λ f. StaysFree table.content.slots f.content.slots) (is_fixed table.fixes) table (state_without_tombstones table) (λ free. free) (without_tombstones-free table.content.slots)

-- ---- a process fixes and releases the table
module _ (p : ℕ) where
  pub fixes-observable : (old new : TableState) (r : Result (Unit {0}) FixFault) → IncrementsFix p old r new
      → IncrementsFix p (observable_table_state old) r (observable_table_state new)
  fixes-observable old new (Ok x) h = (h.0, ap observable_table_state h.1)
  fixes-observable old new (Err fault.SystemLimit) h = (h.0, ap observable_table_state h.1)
  fixes-observable old new (Err fault.Memory) h = (h.0, ap observable_table_state h.1)

  pub fixes-preserves : (old new : TableState) (r : Result (Unit {0}) FixFault) → IncrementsFix p old r new
      → Preserves (λ w. p == w) old new
  fixes-preserves old new (Ok x) h = record {
    buckets = ap (λ (f : TableState). f.buckets) h.1;
    bounded = λ bounded.
        subst AreBounded (sym (ap (λ (f : TableState). f.fixes) h.1))
        (counted-bounded old.fixes p (fix_count old.fixes p + 1) (let below = h.0 in omega (arith, below)) bounded);
    keys = fix-keeps p old new (Ok x) h;
    ends = unchanged-free old.content new.content (ap (λ (f : TableState). f.content) h.1);
    fixes =
        λ w other. ap (λ (f : TableState). fix_count f.fixes w) h.1
        ∙ other-count old.fixes p w (fix_count old.fixes p + 1) other;
  }
  fixes-preserves old new (Err fault.SystemLimit) h = preserves-same (λ w. p == w) old new h.1
  fixes-preserves old new (Err fault.Memory) h = preserves-same (λ w. p == w) old new h.1

  module _ (old : TableState) where
    -- with this number of fixes of the process
    abbrev with_fixes : ℕ → TableState
    with_fixes n = record old { fixes = with_count old.fixes p n }

    without_tombstones-preserves : (n : ℕ) → (AreBounded old.fixes → n ≤ max_fixes) → KeepsKeys old (without_tombstones_if_unfixed (with_fixes n))
        → Preserves (λ w. p == w) old (without_tombstones_if_unfixed (with_fixes n))
    without_tombstones-preserves n most keys = record {
      buckets = without_tombstones-buckets (with_fixes n);
      bounded = λ bounded. subst AreBounded (sym (without_tombstones-fixes (with_fixes n))) (counted-bounded old.fixes p n (most bounded) bounded);
      keys = keys;
      ends = without_tombstones-or-fixed-free (with_fixes n);
      fixes =
          λ w other. ap (λ (m : FixCounts). fix_count m w) (without_tombstones-fixes (with_fixes n))
          ∙ other-count old.fixes p w n other;
    }

    pub released-observable : after_release p (observable_table_state old) ≡ observable_table_state (after_release p old)
    released-observable = without_tombstones-observable (with_fixes (fix_count old.fixes p - 1))

    pub released-preserves : Preserves (λ w. p == w) old (after_release p old)
    released-preserves = without_tombstones-preserves (fix_count old.fixes p - 1) (λ bounded. let most = bounded p in omega (arith, most)) (release-keeps p old)

    pub all_released-observable : after_release_all p (observable_table_state old) ≡ observable_table_state (after_release_all p old)
    all_released-observable = without_tombstones-observable (with_fixes 0)

    pub all_released-preserves : Preserves (λ w. p == w) old (after_release_all p old)
    all_released-preserves = without_tombstones-preserves 0 (λ bounded. omega arith) (release_all-keeps p old)
