use Rattle.std.proofs.Common.{◌*◌, ◌/◌, ◌^◌, ◌<◌, length, refl, arith}
use Rattle.bucket_table.proofs.hints.Double.{enough, enough-tried, tried, not-wider}
use Rattle.bucket_table.proofs.hints.Replace.{right, anew}
use Rattle.bucket_table.proofs.split.index.SplitIndex.narrow_intervals.Goals as goal

pub returns-then-intervals-len-clause-ok : goal.returns-then-intervals-len-clause-ok
returns-then-intervals-len-clause-ok g c =
    let index = c.args.self.now in
    let more : 4 * length index.directory < 2 ^ 33 / 2 ^ index.hints.interval_bits = omega (arith, c.intervals.ensures, c.len.ensures, c.if-intervals-len.true) in
    enough index.directory index.hints.interval_bits index.hints.current index.list.cells c.requires.rows.rows.hinted more

pub returns-clause-rows : goal.returns-clause-rows
returns-clause-rows g c =
    let index = c.args.self.now in
    let new = c.double.new.self in
    anew g.H.KeyHash.hash index c.requires.rows new (not-wider c.double.result index.hints new c.double.ensures.ok c.double.ensures.err)
    (tried c.double.result index.hints new index.list.cells (right g.H.KeyHash.hash index c.requires.rows) c.double.ensures.ok c.double.ensures.err)

pub returns-clause-ok : goal.returns-clause-ok
returns-clause-ok g c =
    let index = c.args.self.now in
    enough-tried index.directory index.hints.interval_bits index.hints.current index.list.cells c.requires.rows.rows.hinted c.double.result index.hints c.double.new.self refl c.double.ensures.ok
