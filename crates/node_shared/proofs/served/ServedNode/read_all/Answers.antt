use Rattle.std.proofs.Common.{◌<◌, ap, ◌+◌, ◌∙◌, length, arith}
use Rattle.node_core.specs.Observable.{observable}
use Rattle.node_shared.proofs.Reading.{read-next}
use Rattle.node_shared.proofs.served.ServedNode.read_all.Goals as goal

pub loop-call-preserved : goal.loop-call-preserved
loop-call-preserved g c =
    let at = c.loop-call in
    let short : at.call-index < length c.args.calls.now = c.loop-call-test.true in
    record {
      read = read-next (observable c.args.self.now.state) c.args.pid c.args.calls.now at.replies.items c.push_reserved.new.self.items at.call-index c.call-item.result c.in_ok-read.field-0 at.invariant.read short c.call-item.is c.in_ok-read.ensures.answer c.push_reserved.ensures.items;
      count = c.push_reserved.ensures.len ∙ ap (λ n. n + 1) at.invariant.count;
      room = omega (arith, c.push_reserved.ensures.capacity, at.invariant.room);
    }
