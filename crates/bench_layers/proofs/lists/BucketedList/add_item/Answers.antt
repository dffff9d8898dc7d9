use Rattle.std.proofs.Common.{◌+◌, ◌*◌, Some}
use Rattle.node_list.specs.Cells.{new_cell, new_item}
use Rattle.bench_layers.proofs.DummyLaws.{put-keeps_dummies}
use Rattle.bench_layers.proofs.lists.BucketedList.add_item.Goals as goal

pub returns-clause-ready : goal.returns-clause-ready
returns-clause-ready c =
    let cell = new_cell c.insert_item.result (2 * c.rev32.result + 1) (Some (new_item c.in_ok-own_key.own_key c.one-chain.result)) in
    record {
      dummies = put-keeps_dummies cell c.args.self.now.dummies.items c.args.self.now.list.cells c.insert_item.new.self.cells c.insert_item.ensures.fresh c.insert_item.ensures.cells c.requires.ready.dummies;
      power = c.requires.ready.power;
      few = c.requires.ready.few;
    }
