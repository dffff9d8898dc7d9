-- After the end of a process: the tables reassigned so far, and the indices.
use Rattle.std.proofs.Common.{◌≡◌, ℕ, false, List, [], ◌∷◌, ◌++◌, None, refl, sym, ap, subst, ◌∙◌, set, map, filter, arith}
use Rattle.std.specs.Prelude.{vec_capacity}
use Rattle.ownership.specs.declared.indices.Indices.{Indices}
use Rattle.ownership.specs.World.{Tables, Processes, lives, table_at}
use Rattle.ownership.specs.End.{table_after_exit}
use Rattle.ownership.specs.inside.Ending.{ReassignsTables}
use Rattle.ownership.specs.inside.Indices.{HeirsOfOwnerAreIndexed, FixedAreListed, CoversTablesOf, RemovesOwner, IndicesInvariant, is_fixed_at}
use Rattle.ownership.proofs.Keeping.{bequeathed-still, kept-beside, owners-forgotten}
use Rattle.ownership.proofs.Owning.{forgets-order}
use Rattle.ownership.proofs.Reassigning.{reassigned-twice, reassigns-none, reassigns-more, reassigns-all, listed-after}

pub record HasReassigned (now : Indices) (ps : Processes) (p : ℕ) (ids : List ℕ) (old new : Tables) : Type 0 where
  pub kept : IndicesInvariant now new
  pub dirty : now.dirty ≡ None
  pub heirs : HeirsOfOwnerAreIndexed now ps p new
  pub listed : FixedAreListed now.fixed.items None old
  pub reassigns : ReassignsTables (table_after_exit ps p) ids old new

pub reassigned-none : (now : Indices) (ps : Processes) (p : ℕ) (tables : Tables) → IndicesInvariant now tables → now.dirty ≡ None → HeirsOfOwnerAreIndexed now ps p tables → HasReassigned now ps p [] tables tables
reassigned-none now ps p tables kept dirty heirs = record {
  kept = kept;
  dirty = dirty;
  heirs = heirs;
  listed = subst (λ l. FixedAreListed now.fixed.items l tables) dirty kept.listed;
  reassigns = reassigns-none (table_after_exit ps p) tables;
}

module _ (ps : Processes) (p : ℕ) (dead : lives ps p ≡ false) (now : Indices) where
  -- one more table is reassigned
  pub reassigned-more : (ids : List ℕ) (id : ℕ) (old mid new : Tables) → HasReassigned now ps p ids old mid → (next : Indices) → next ≡ record now { names = next.names } → IndicesInvariant next new → new ≡ set mid id (table_after_exit ps p (table_at mid id)) → HasReassigned next ps p (ids ++ id ∷ []) old new
  reassigned-more ids id old mid new reassigned next rest kept is = record {
    kept = kept;
    dirty = ap (λ (i : Indices). i.dirty) rest ∙ reassigned.dirty;
    heirs = subst (HeirsOfOwnerAreIndexed next ps p) (sym is) (bequeathed-still ps p dead now next mid rest id reassigned.heirs);
    listed = subst (λ (i : Indices). FixedAreListed i.fixed.items None old) (sym rest) reassigned.listed;
    reassigns = reassigns-more (table_after_exit ps p) refl (reassigned-twice ps p dead) ids id old mid new reassigned.reassigns is;
  }

  module _ (own : List ℕ) (old new : Tables) (owned : CoversTablesOf own p old) (reassigned : HasReassigned now ps p (own ++ now.fixed.items) old new) where
    -- then all tables are
    pub reassigned-all : new ≡ map (table_after_exit ps p) old
    reassigned-all = reassigns-all ps p dead old own now.fixed.items reassigned.listed owned new reassigned.reassigns

    -- tables that no process fixes are not listed
    pub kept-fixed-only : (next : Indices) → next ≡ record now { fixed = next.fixed } → next.fixed.items ≡ filter (is_fixed_at new) now.fixed.items → vec_capacity next.fixed ≡ vec_capacity now.fixed → IndicesInvariant next new
    kept-fixed-only next rest items room =
        let listed : FixedAreListed next.fixed.items None new = subst (λ ids. FixedAreListed ids None new) (sym items) (listed-after ps p dead old own now.fixed.items reassigned.listed owned new reassigned-all) in
        let kept : IndicesInvariant (record now { fixed = next.fixed; dirty = None }) new = kept-beside now new reassigned.kept next.fixed None listed (omega (arith, reassigned.kept.room, room)) in
        subst (λ (i : Indices). IndicesInvariant i new) (sym rest) (subst (λ l. IndicesInvariant (record now { fixed = next.fixed; dirty = l }) new) (sym reassigned.dirty) kept)

    -- no table is under the process
    pub kept-forgotten : (next last : Indices) → IndicesInvariant next new → RemovesOwner p next last → IndicesInvariant last new
    kept-forgotten next last kept forgets = subst (λ (i : Indices). IndicesInvariant i new) (sym forgets.rest) (record {
      few = kept.few;
      room = kept.room;
      by_name = kept.by_name;
      by_owner = owners-forgotten ps p dead old new next last forgets kept.by_owner reassigned-all;
      order = forgets-order p next last forgets kept.order;
      listed = kept.listed;
    })
