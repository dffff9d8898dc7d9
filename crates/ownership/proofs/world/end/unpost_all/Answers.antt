use Rattle.std.proofs.Common.{◌+◌, ◌-◌, ap, ◌∙◌, length, get_or, take}
use Rattle.ownership.specs.inside.Ending.{after_transfers}
use Rattle.ownership.proofs.Ending.{posted-more, take-last}
use Rattle.ownership.proofs.world.end.unpost_all.Goals as goal

pub loop-i-preserved : goal.loop-i-preserved
loop-i-preserved g c = λ before all.
    let tables = c.args.tables.now in
    let ids = c.args.ids.now in
    let i = c.loop-i.i in
    let p = c.args.pid in
    let k = length ids - (i + 1) in
    c.unpost_transfer.ensures (after_transfers before p tables (take k ids)) (c.loop-i.invariant before all ∙ ap (after_transfers before p tables) (take-last ids i c.loop-i-test.true) ∙ posted-more before p tables (take k ids) (get_or ids (length ids - 1 - i) 0))
