use Rattle.std.proofs.Common.{◌∙◌, sym}
use Rattle.std.proofs.lemmas.Result.{err_from_is_err_and}
use Rattle.node_core.proofs.walks.WalkEnds.{no-table, not-walked, walked-among}
use Rattle.node_core.proofs.walk.walk_among.Goals as goal

pub returns-in_default : goal.returns-in_default
returns-in_default g c =
    no-table c.args.pid c.args.node.now c.args.table.now c.args.limit (g.O.Others.keys c.args.others.now) (g.O.Others.steps c.args.others.now) (sym c.resolve.ensures ∙ c.in_default.is) c.requires.keys c.requires.steps

pub returns-in_err-fix_table : goal.returns-in_err-fix_table
returns-in_err-fix_table g c =
    let p = err_from_is_err_and c.from_residual.result c.from_residual.ensures.1 in
    rw (p.1, p.2) (not-walked c.args.pid c.in-Some.id c.args.node.now c.args.table.now c.args.limit (sym c.resolve.ensures ∙ c.in-Some.is)
    (g.O.Others.keys c.args.others.now) (g.O.Others.steps c.args.others.now) c.fix_table.new.self c.in_err-fix_table.field-0.0 c.requires.keys c.requires.steps c.in_err-fix_table.ensures.fix c.in_err-fix_table.ensures.buckets)

pub returns : goal.returns
returns g c =
    let walked = c.walk_fixed_table-walked in
    walked-among c.args.pid c.in-Some.id c.args.node.now c.args.table.now c.args.limit (sym c.resolve.ensures ∙ c.in-Some.is) (g.O.Others.keys walked.new.others) (g.O.Others.steps walked.new.others) c.unfix_table.new.self
    c.fix_table.new.self walked.new.node (c.in_ok-fix_table.ensures.fix, c.in_ok-fix_table.ensures.buckets) walked.result c.unfix_table.result walked.ensures c.unfix_table.ensures.release c.unfix_table.ensures.buckets
