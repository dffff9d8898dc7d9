use Rattle.std.proofs.Common.{◌≡◌, ◌<◌, ◌≤◌, ◌+◌, ◌*◌, ◌^◌, ℕ, List, Option, Some, None, length, is_some, map, set, sym, ◌∙◌, ap, subst, arith}
use Rattle.std.proofs.lemmas.List.{length-map, length-set}
use Rattle.split_key.specs.Keys.{key_of_dummy}
use Rattle.node_list.specs.Cells.{new_cell}
use Rattle.node_list.specs.Changes.{put_cell}
use Rattle.node_list.specs.Places.{HasSplitKeyAtMost}
use Rattle.bucket_table.specs.Readying.{IsReadied}
use Rattle.bucket_table.specs.declared.growth.Readying.TheVariants.{Ready}
use Rattle.bucket_table.specs.Slots.{Slot}
use Rattle.bucket_table.specs.SplitRowsState.{SplitRowsState}
use Rattle.bucket_table.specs.inside.Directory.{AllReadyBelow}
use Rattle.bucket_table.specs.inside.Intervals.{ListInvariant}
use Rattle.bucket_table.specs.inside.Nodes.{slots_of}
use Rattle.bucket_table.specs.inside.TombstoneLog.{LogInvariant}
use Rattle.bucket_table.specs.inside.Order.{content_of}
use Rattle.bucket_table.proofs.hints.Change.{hints-dummy}
use Rattle.bucket_table.proofs.directory.FirstUnready.{ready-still}
use Rattle.bucket_table.proofs.list.Change.{content-dummy}
use Rattle.bucket_table.proofs.hints.Invariant.{rows-ready}
use Rattle.bucket_table.proofs.slots.Distinct.{slots-put-dummy}
use Rattle.bucket_table.proofs.directory.Change.{none-is, ready-none, ready-set}
use Rattle.bucket_table.proofs.split.rows.SplitRowsRows.ready.Goals as goal

pub insert_dummy-requires : goal.insert_dummy-requires
insert_dummy-requires g c =
    let K : ℕ → Type 0 = λ r. HasSplitKeyAtMost (2 * r) c.dummy_start-start.result c.self.inside.index.list.cells in
    record { start = subst K (sym c.rev32.ensures) c.dummy_start-start.ensures }

pub rehash_with_parent-requires : goal.rehash_with_parent-requires
rehash_with_parent-requires g c =
    let hash_of = g.H.KeyHash.hash c.self.inside.index.hasher in
    let items = c.self.inside.index.directory in
    let cells = c.self.inside.index.list.cells in
    let below : c.args.bucket < length items = omega arith in
    let none = sym c.get.ensures ∙ none-is c.get.result (sym c.is_some.ensures ∙ c.if-is_some.false) in
    let is = c.in_ok-at.ensures.cells ∙ ap (λ (r : ℕ). put_cell (new_cell c.in_ok-at.at (2 * r) None) cells) c.rev32.ensures in
    let base = rows-ready hash_of items c.self.inside.index.hints.interval_bits c.self.inside.index.hints.current cells c.self.invariant.rows.rows c.args.bucket c.in_ok-at.at below none c.in_ok-at.ensures.fresh c.insert_dummy.new.self.cells is in
    let hints = c.self.inside.index.hints in
    let D : List (Option ℕ) → Type 0 = λ ds. ListInvariant hash_of ds hints.interval_bits hints.current c.insert_dummy.new.self.cells in
    record {
      rows = record {
        rows = subst D (sym c.set.ensures) base;
        previous = hints-dummy (2 ^ (hints.interval_bits + 1)) hints.previous c.in_ok-at.at (key_of_dummy c.args.bucket) cells c.insert_dummy.new.self.cells c.self.invariant.rows.previous is;
      };
    }

pub returns-clause-content : goal.returns-clause-content
returns-clause-content g c =
    ap content_of (c.rehash_with_parent.ensures.cells ∙ c.in_ok-at.ensures.cells)
    ∙ (content-dummy c.in_ok-at.at (2 * c.rev32.result) c.self.inside.index.list.cells c.in_ok-at.ensures.fresh ∙ ap (λ (v : SplitRowsState g.row.H.Denot). v.slots) c.self.view_is)

pub returns-clause-hash : goal.returns-clause-hash
returns-clause-hash g c = ap (λ (h : g.row.H.Denot). g.H.KeyHash.hash h) (c.rehash_with_parent.ensures.keeps.hasher ∙ ap (λ (v : SplitRowsState g.row.H.Denot). v.hasher) c.self.view_is)

pub returns-clause-ok : goal.returns-clause-ok
returns-clause-ok g c =
    let items = c.self.inside.index.directory in
    let below : c.args.bucket < length items = omega arith in
    let none = sym c.get.ensures ∙ none-is c.get.result (sym c.is_some.ensures ∙ c.if-is_some.false) in
    let after = c.rehash_with_parent.new.self.directory in
    let P : SplitRowsState g.row.H.Denot → Type 0 = λ v. IsReadied c.args.bucket v.ready Ready (map is_some after) in
    let l : length (map is_some items) ≡ length items = length-map items is_some in
    let within : c.args.bucket < length (map is_some items) = omega (arith, l) in
    subst P c.self.view_is (within, ready-none items c.args.bucket below none, ready-set items after c.args.bucket c.in_ok-at.at (c.rehash_with_parent.ensures.keeps.directory ∙ c.set.ensures))

pub first_unready-self-inside-requires-clause-before : goal.first_unready-self-inside-requires-clause-before
first_unready-self-inside-requires-clause-before g c =
    let items = c.self.inside.index.directory in
    let below : c.args.bucket < length items = omega arith in
    let D : List (Option ℕ) → Type 0 = λ ds. AllReadyBelow ds c.self.inside.first_unready in
    subst D (sym (c.rehash_with_parent.ensures.keeps.directory ∙ c.set.ensures)) (ready-still items c.self.inside.first_unready c.args.bucket c.in_ok-at.at below c.self.invariant.due.before)

pub first_unready-self-inside-requires-clause-most : goal.first_unready-self-inside-requires-clause-most
first_unready-self-inside-requires-clause-most g c =
    let items = c.self.inside.index.directory in
    let l : length (set items c.args.bucket (Some c.in_ok-at.at)) ≡ length items = length-set items c.args.bucket (Some c.in_ok-at.at) in
    let D : List (Option ℕ) → Type 0 = λ ds. c.self.inside.first_unready ≤ length ds in
    subst D (sym (c.rehash_with_parent.ensures.keeps.directory ∙ c.set.ensures)) (omega (arith, l, c.self.invariant.due.most))

pub invariant_of-self-2 : goal.invariant_of-self-2
invariant_of-self-2 g c =
    let hash_of = g.H.KeyHash.hash c.self.inside.index.hasher in
    let cells = c.self.inside.index.list.cells in
    let same = ap slots_of (c.rehash_with_parent.ensures.cells ∙ c.in_ok-at.ensures.cells)
    ∙ slots-put-dummy c.in_ok-at.at (2 * c.rev32.result) cells in
    let N : g.row.H.Denot → Type 0 = λ h. LogInvariant (g.H.KeyHash.hash h) c.self.inside.log.overflowed c.self.inside.log.hashes.items (slots_of c.rehash_with_parent.new.self.list.cells) in
    let S : List Slot → Type 0 = λ ss. LogInvariant hash_of c.self.inside.log.overflowed c.self.inside.log.hashes.items ss in
    record {
      rows = c.rehash_with_parent.ensures.rows;
      counted = c.self.invariant.counted ∙ sym (ap length same);
      due = c.first_unready-self-inside.ensures;
      logged = subst N (sym c.rehash_with_parent.ensures.keeps.hasher) (subst S (sym same) c.self.invariant.logged);
    }
