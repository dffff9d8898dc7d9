use Rattle.std.proofs.Common.{◌≡◌, ◌+◌, ◌++◌, ◌∷◌, [], length, refl, sym, ap, ◌∙◌, append_assoc, length-append, arith, rules}
use Rattle.std.specs.Vec.Iter.{into_iter_items}
use Rattle.node_shared.proofs.Jobs.{did-none, did-next}
use Rattle.node_shared.proofs.workers.run_one.Goals as goal

pub loop-job-init : goal.loop-job-init
loop-job-init g c =
    let count : c.len-count.result ≡ length c.args.jobs.items = search rules in
    record { all = search rules; len = search rules; count = count; left = search rules; did = did-none c.args.client c.args.jobs.items c.len-count.result count }

pub loop-job-preserved : goal.loop-job-preserved
loop-job-preserved g c =
    let at = c.loop-job in
    let job = c.in-Some.job in
    let rest = into_iter_items c.next.new.self in
    let steps : into_iter_items at.job-iterator ≡ job ∷ rest = c.in-Some.ensures.steps.0 in
    let gone = c.in-Some.ensures.steps.1 in
    let short = ap length steps in
    let one : length (job ∷ []) ≡ 1 = refl in
    let more = length-append at.yielded (job ∷ []) in
    let all : (at.yielded ++ job ∷ []) ++ rest ≡ c.args.jobs.items = append_assoc at.yielded (job ∷ []) rest ∙ rw (← steps) at.invariant.all in
    let whole : length (at.yielded ++ job ∷ []) + length rest ≡ length c.args.jobs.items = sym (length-append (at.yielded ++ job ∷ []) rest) ∙ ap length all in
    record {
      all = all;
      len = omega (arith, at.invariant.len, gone, short);
      count = at.invariant.count;
      left = omega (arith, at.invariant.left, more, one, whole);
      did = did-next c.args.client at.client c.run_job.new.client at.yielded rest job c.args.jobs.items at.left (sym (append_assoc at.yielded (job ∷ []) rest) ∙ all) at.invariant.left at.invariant.did c.in-Ok.ensures.ok;
    }
