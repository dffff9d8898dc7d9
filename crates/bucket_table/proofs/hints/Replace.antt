-- An index whose hints change.
use Rattle.std.proofs.Common.{◌≡◌, ◌≤◌, ℕ, ◌+◌, ◌^◌, sym, ap, subst, arith}
use Rattle.ets_term.specs.declared.term.Term.{Term}
use Rattle.bucket_table.specs.declared.split.hints.Hints.{Hints}
use Rattle.bucket_table.specs.declared.split.index.SplitIndex.{SplitIndex}
use Rattle.bucket_table.specs.inside.Intervals.{AreSound, HintsAreSound}
use Rattle.bucket_table.specs.inside.SplitIndex.{RowsInvariant}
use Rattle.bucket_table.proofs.hints.Invariant.{rows-hinted}

module _ {H : Type 0} (hash_of : H → Term → ℕ) (index : SplitIndex H) (r : RowsInvariant hash_of index) where
  -- Its hints are right.
  pub right : HintsAreSound index.hints index.list.cells
  right =
      let narrow : index.hints.interval_bits + r.rows.hinted.doublings ≤ 31 = r.rows.hinted.narrow in
      record { narrow = omega arith; current = r.rows.hinted.hints; previous = r.previous }

  -- Other hints of intervals that are not wider are right.
  pub anew : (hints : Hints) → hints.interval_bits ≤ index.hints.interval_bits → HintsAreSound hints index.list.cells → RowsInvariant hash_of (record index { hints = hints })
  anew hints e h = record {
    rows = rows-hinted (hash_of index.hasher) index.directory index.hints.interval_bits hints.interval_bits index.hints.current hints.current index.list.cells r.rows e h.current;
    previous = h.previous;
  }

  -- Other current hints that are right replace the old ones.
  pub with-current : (hints : Hints) → hints ≡ record index.hints { current = hints.current } → AreSound (2 ^ index.hints.interval_bits) hints.current index.list.cells → RowsInvariant hash_of (record index { hints = hints })
  with-current hints rest sound =
      let narrow : index.hints.interval_bits + r.rows.hinted.doublings ≤ 31 = r.rows.hinted.narrow in
      let interval_bits : hints.interval_bits ≡ index.hints.interval_bits = ap (λ (h : Hints). h.interval_bits) rest in
      let P : ℕ → Type 0 = λ z. AreSound (2 ^ z) hints.current index.list.cells in
      let Q : Hints → Type 0 = λ h. AreSound (2 ^ (h.interval_bits + 1)) h.previous index.list.cells in
      anew hints (omega (arith, interval_bits)) (record { narrow = omega (arith, narrow, interval_bits); current = subst P (sym interval_bits) sound; previous = subst Q (sym rest) r.previous })
