use Rattle.std.proofs.Common.{◌≡◌, ◌+◌, refl, ◌∷◌, [], List, length, sym, ap, subst, ◌∙◌, append_assoc, arith, rules, length-append}
use Rattle.std.proofs.lemmas.List.{append-nil, nil_from_length}
use Rattle.std.specs.Vec.Iter.{into_iter_items}
use Rattle.node_shared.specs.declared.job.Job.{Job}
use Rattle.ets_script.specs.inside.Processes.{AreEnrolled, IsNew}
use Rattle.ets_script.proofs.Clients.{enrolled-then}
use Rattle.ets_script.proofs.processes.enrol_each.Goals as goal

pub loop-own-init : goal.loop-own-init
loop-own-init g c =
    let none : c.in_ok-work.work.items ≡ [] = search rules in
    record { all = search rules; len = search rules; done = rw none tt; counted = search rules; seats = c.requires }

pub loop-own-preserved : goal.loop-own-preserved
loop-own-preserved g c =
    let at = c.loop-own in
    let own = c.in-Some.own in
    let steps : into_iter_items at.own-iterator ≡ own ∷ into_iter_items c.next.new.self = c.in-Some.ensures.steps.0 in
    let gone = c.in-Some.ensures.steps.1 in
    let short = ap length steps in
    let here : c.len-in-loop-own.result ≡ length at.yielded = c.len-in-loop-own.ensures ∙ sym at.invariant.counted in
    let counted : c.len-in-loop-own.result ≡ 0 + length at.yielded = omega (arith, here) in
    let one : length (own ∷ []) ≡ 1 = refl in
    let pushed = c.in_ok-push.ensures.len in
    record {
      all = append_assoc at.yielded (own ∷ []) _ ∙ rw (← steps) at.invariant.all;
      len = omega (arith, at.invariant.len, gone, short);
      done = rw c.in_ok-push.ensures.items
          (enrolled-then 0 at.yielded at.work.items own (c.in_ok-client.client, c.into_vec.result) at.invariant.done (subst (λ n. IsNew n c.in_ok-client.client) counted c.in_ok-client.ensures) c.into_vec.ensures);
      counted = omega (arith, at.invariant.counted, length-append at.yielded (own ∷ []), one, pushed);
      seats = c.draw.ensures;
    }

pub returns : goal.returns
returns g c =
    let at = c.loop-own in
    let none = c.in-None.ensures.steps in
    let empty : into_iter_items at.own-iterator ≡ [] = nil_from_length _ (sym at.invariant.len ∙ none.0) in
    let all : at.yielded ≡ c.args.jobs = sym (append-nil at.yielded) ∙ rw empty at at.invariant.all in
    subst (λ (l : List (List Job)). AreEnrolled 0 l at.work.items) all at.invariant.done
