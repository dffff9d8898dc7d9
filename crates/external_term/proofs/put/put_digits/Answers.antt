use Rattle.std.proofs.Common.{arith, ap, length, ◌-◌, ◌%◌, ◌∙◌}
use Rattle.external_term.specs.Encoding.{low_bytes}
use Rattle.external_term.proofs.Digits.{low_none, low_more, low_end, nothing_left, byte_put}
use Rattle.external_term.proofs.put.put_digits.Goals as goal

pub returns-then-left-eq0-clause-items : goal.returns-then-left-eq0-clause-items
returns-then-left-eq0-clause-items c =
    let l = c.loop-i in
    nothing_left l.out.items _ _ (ap (low_bytes (16 - l.i)) c.if-left-eq0.true ∙ low_none (16 - l.i)) l.invariant.items

pub returns-clause-items : goal.returns-clause-items
returns-clause-items c =
    let l = c.loop-i in
    nothing_left l.out.items _ _ (low_end l.i l.left (omega arith)) l.invariant.items

pub loop-i-preserved : goal.loop-i-preserved
loop-i-preserved c =
    let l = c.loop-i in
    let more = low_more l.i l.left (omega arith) c.if-left-eq0.false in
    let n = ap length more in record {
      items = byte_put l.out.items _ _ _ _ (l.left % 256) more c.push_reserved.ensures.items l.invariant.items;
      room = omega (arith, n);
      capacity = omega arith;
    }
