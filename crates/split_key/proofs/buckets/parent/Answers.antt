use Rattle.std.proofs.Common.{arith}
use Rattle.split_key.proofs.Parents.{top-of}
use Rattle.split_key.proofs.buckets.parent.Goals as goal

pub overflow_sub-result : goal.overflow_sub-result
overflow_sub-result c =
    let t = top-of c.args.bucket c.requires c.ranges.bucket.fits in rw t.shifted t.low

pub returns-clause-top : goal.returns-clause-top
returns-clause-top c =
    let t = top-of c.args.bucket c.requires c.ranges.bucket.fits in
    rw t.shifted (record { top = t.top; low = (let a = t.low in let b = t.high in omega (arith, t.low, t.high)); sum = omega (arith, t.low) })
