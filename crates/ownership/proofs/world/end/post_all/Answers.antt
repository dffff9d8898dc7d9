use Rattle.std.proofs.Common.{sym, ap, ◌∙◌, get_or, take}
use Rattle.std.proofs.lemmas.List.{take_more}
use Rattle.ownership.specs.World.{Processes}
use Rattle.ownership.specs.inside.Ending.{after_transfers, after_transfer_of}
use Rattle.ownership.proofs.Ending.{posted-more}
use Rattle.ownership.proofs.world.end.post_all.Goals as goal

pub loop-i-preserved : goal.loop-i-preserved
loop-i-preserved g c =
    let tables = c.args.tables.now in
    let ids = c.args.ids.now in
    let i = c.loop-i.i in
    let p = c.args.pid in
    let start = c.args.processes.now.entries in
    let t = get_or ids i 0 in
    c.in_default.ensures.ok ∙ ap (λ (ps : Processes). after_transfer_of ps p tables t) c.loop-i.invariant
    ∙ sym (posted-more start p tables (take i ids) t) ∙ ap (after_transfers start p tables) (sym (take_more ids i 0 c.loop-i-test.true))
