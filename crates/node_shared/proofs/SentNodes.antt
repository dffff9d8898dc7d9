-- Threads may share a node where they may share its hasher.
use denote.Builtin.{u32}
use denote.RattleType.{RattleType}
use denote.Param.Send.{IsSync, sendable, view_sync, recorded_sync, struct_sync}
use denote.Struct.Declared.{shape}
use Rattle.std.proofs.Crossing.{crosses, Box-sync, Vec-sync}
use Rattle.std.proofs.alloc.Global.TheSendSync as global
use Rattle.std.proofs.hash.BuildHasherDefault.TheSendSync as builder
use Rattle.std.proofs.hash.FoldHasher.TheSendSync as hasher
use Rattle.std.proofs.option.Option.TheSendSync as option
use Rattle.std.specs.contracts.hash.BuildHasherDefault as Builder
use Rattle.std.specs.contracts.hash.FoldHasher as FoldHasher
use Rattle.std.specs.contracts.impls.GlobalAllocator.TheImpl as heap
use Rattle.std.specs.declared.clone.Clone as Clone
use Rattle.indexmap.proofs.map.IndexMap.TheSendSync as map
use Rattle.ets_term.specs.declared.key_hash.KeyHash as KeyHash
use Rattle.ets_term.proofs.term.Term.TheLaws.TheKnot as terms
use Rattle.packed_term.specs.contracts.object.Object as Object
use Rattle.packed_term.proofs.packed.Packed.TheLaws.TheKnot as packed
use Rattle.node_list.specs.contracts.chain.Chain as Chain
use Rattle.node_list.specs.contracts.list.NodeList as NodeList
use Rattle.bucket_table.specs.declared.rows.Rows as Rows
use Rattle.bucket_table.specs.contracts.split.SplitRows as SplitRows
use Rattle.bucket_table.specs.contracts.split.rows.SplitRowsRows.TheImpl.{ghosts, no_dict}
use Rattle.fixed_walk.proofs.walked.Walked.TheSendSync as walked
use Rattle.ownership.proofs.indices.Indices.TheSendSync as indices
use Rattle.ownership.specs.contracts.metadata.Metadata as Metadata
use Rattle.ownership.specs.contracts.process.Process as Process
use Rattle.ownership.specs.contracts.table.Parts as Parts
use Rattle.ownership.specs.contracts.table.OwnedTable as Table
use Rattle.ownership.specs.contracts.table.OwnedTable.TheInside as table
use Rattle.ownership.specs.contracts.world.World as World
use Rattle.ownership.specs.contracts.world.World.TheInside as world
use Rattle.node_core.proofs.pending_tables.PendingTables.TheSendSync as identifiers
use Rattle.node_core.proofs.limits.Limits.TheSendSync as limits
use Rattle.node_core.specs.contracts.node.Node as Node
use Rattle.node_core.specs.contracts.node.Node.TheInside as node

object_sync : IsSync Object.the_row
object_sync = search (crosses, packed.crosses, sendable) depth 60 fits 20000

chain_sync : IsSync Chain.the_row
chain_sync = search (object_sync, crosses, sendable) depth 60 fits 20000

list_sync : IsSync NodeList.the_row
list_sync = search (chain_sync, crosses, packed.crosses, sendable) depth 60 fits 20000

rows_sync : (H : RattleType) (k : KeyHash.Ghosts H.Denot) → IsSync H → IsSync (SplitRows.the_row H k)
rows_sync H k s = search (list_sync, crosses, sendable) depth 60 fits 20000

metadata_sync : IsSync Metadata.the_field.row
metadata_sync = search (crosses, terms.crosses, sendable) depth 60 fits 20000

process_sync : IsSync Process.the_row
process_sync = search (crosses, terms.crosses, sendable) depth 60 fits 20000

number_sync : IsSync u32
number_sync = search sendable

spread_sync : IsSync (Builder.the_row FoldHasher.the_row)
spread_sync = builder.the_sync FoldHasher.the_row hasher.the_sync

module _ (R : RattleType) (g : Rows.Ghosts R.Denot) (s : IsSync R) where
  parts_sync : IsSync (Parts.the_row R g)
  parts_sync =
      recorded_sync (Parts.the_field R g).row _ _ (Parts.the_type R g).to_one (struct_sync (shape (Parts.the_type R g)) (
        metadata_sync,
        (walked.the_sync R g s, tt),
      ))

  table_sync : IsSync (Table.the_row R g)
  table_sync =
      view_sync (table.the_row R g) _ _ _ _ (recorded_sync (table.the_field R g).row _ _ (table.the_type R g).to_one (struct_sync (shape (table.the_type R g)) (Box-sync _ parts_sync, tt)))

  world_sync : IsSync (World.the_row R g)
  world_sync =
      view_sync (world.the_row R g) _ _ _ _ (recorded_sync (world.the_field R g).row _ _ (world.the_type R g).to_one (struct_sync (shape (world.the_type R g)) (
        global.the_field_sync,
        (
          number_sync,
          (
            number_sync,
            (
              map.the_sync _ _ _ _ FoldHasher.the_row _ _ _ _ heap.ghosts number_sync process_sync spread_sync global.the_sync,
              (
                Vec-sync _ (option.the_sync _ table_sync),
                (indices.the_field_sync, tt),
              ),
            ),
          ),
        ),
      )))

pub node_sync : (H : RattleType) (k : KeyHash.Ghosts H.Denot) (c : Clone.Ghosts H.Denot) → IsSync H → IsSync (Node.the_row H k c)
node_sync H k c s =
    view_sync (node.the_row H k c) _ _ _ _ (recorded_sync (node.the_field H k c).row _ _ (node.the_type H k c).to_one (struct_sync (shape (node.the_type H k c)) (
      global.the_field_sync,
      (
        limits.the_field_sync,
        (
          s,
          (
            world_sync (SplitRows.the_row H k) (ghosts H k no_dict c no_dict) (rows_sync H k s),
            (identifiers.the_sync, tt),
          ),
        ),
      ),
    )))
