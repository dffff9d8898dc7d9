use Rattle.std.proofs.Common.{rules, ◌<◌, ◌≤◌, length}
use Rattle.ets_term.specs.Depth.{depth, max_depth}
use Rattle.counters.proofs.ValueLaws.{one-deep, one-written}
use Rattle.counters.proofs.stored.check_one.Goals as goal

pub returns-then-depth-ge-MAX_DEPTH-clause-err : goal.returns-then-depth-ge-MAX_DEPTH-clause-err
returns-then-depth-ge-MAX_DEPTH-clause-err c =
    let some : 0 < c.args.position = search rules in
    let few : c.args.position ≤ length c.args.elements.now = search rules in
    let deep : max_depth ≤ depth c.args.value.now = search rules in
    one-deep (record { position = c.args.position; value = c.args.value.now }) c.args.elements.now some few deep

pub returns-clause-ok : goal.returns-clause-ok
returns-clause-ok c =
    let some : 0 < c.args.position = search rules in
    let few : c.args.position ≤ length c.args.elements.now = search rules in
    let flat : depth c.args.value.now < max_depth = search rules in
    one-written (record { position = c.args.position; value = c.args.value.now }) c.args.elements.now some few flat
