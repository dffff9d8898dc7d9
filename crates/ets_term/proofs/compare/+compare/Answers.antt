use Rattle.std.proofs.Common.{rules, sym, ◌∙◌, arith}
use Rattle.ets_term.proofs.DataLists.{tuples, decided, by_length}
use Rattle.ets_term.proofs.compare.+compare.Goals as goal

pub compare-returns-in-Equal : goal.compare-returns-in-Equal
compare-returns-in-Equal t c =
    let h = tuples c.in-Tuple-Tuple.x c.in-Tuple-Tuple.y c.args.a.now c.args.b.now (search rules) (search rules) in
    rw (h, ← c.len.ensures, ← c.len-in-Tuple-Tuple.ensures, ← c.in-Equal.ensures) (search rules)

pub compare-returns-in_default-cmp : goal.compare-returns-in_default-cmp
compare-returns-in_default-cmp t c =
    let h = tuples c.in-Tuple-Tuple.x c.in-Tuple-Tuple.y c.args.a.now c.args.b.now (search rules) (search rules) in
    rw (h, ← c.len.ensures, ← c.len-in-Tuple-Tuple.ensures, ← c.cmp-in-Tuple-Tuple.ensures) (decided c.cmp-in-Tuple-Tuple.result _ c.in_default-cmp.not-Equal)

pub compare_items-returns : goal.compare_items-returns
compare_items-returns t c = c.cmp.ensures ∙ sym (by_length _ _ c.loop-i.i (omega arith)) ∙ c.loop-i.invariant
