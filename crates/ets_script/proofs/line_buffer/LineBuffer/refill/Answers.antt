use Rattle.std.proofs.Common.{◌≤◌, ◌+◌, ◌-◌, ◌++◌, length, take, drop, ap, ◌∙◌, arith, rules}
use Rattle.ets_script.specs.inside.LineBuffers.{LineBufferState}
use Rattle.ets_script.proofs.LineBuffers.{part-len}
use Rattle.ets_script.proofs.KnownBytes.{part-grown, counted-part}
use Rattle.ets_script.proofs.line_buffer.LineBuffer.refill.Goals as goal

pub returns-clause-ok : goal.returns-clause-ok
returns-clause-ok g c =
    let i = c.self.inside in
    let new = c.read_into.new.buffer in
    let n = c.in_ok-count.count in
    let s = c.in_ok-count.ensures in
    let e = c.shift-self-inside.result + (i.end - i.start) in
    let fits : e + n ≤ length new.items = search rules in
    let fits-e : e ≤ length new.items = omega arith in
    let le : c.shift-self-inside.result ≤ e = omega arith in
    let few : e + n ≤ 131072 = search (arith, rules) in
    let made = ap (λ (v : LineBufferState). v.reads) c.self.view_is in
    record {
      more = take n (drop e new.items);
      counted = counted-part new.items e n fits;
      added = part-grown c.shift-self-inside.new.buffer.items new.items c.shift-self-inside.result e n le fits-e s.front ∙ ap (λ k. k ++ take n (drop e new.items)) (c.shift-self-inside.ensures.bytes ∙ ap (λ (v : LineBufferState). v.bytes) c.self.view_is);
      consumed = s.read;
      end = λ z. s.none z (search rules);
      skipping = ap (λ (v : LineBufferState). v.is_skipping) c.self.view_is;
      reads = omega (arith, made, c.if-self-eq0.false);
      fits = omega (arith, few, part-len new.items c.shift-self-inside.result (e + n) fits);
    }
