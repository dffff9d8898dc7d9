use Rattle.std.proofs.Common.{◌≡◌, ◌++◌, ◌∷◌, [], length, map, sym, ap, ◌∙◌, append_assoc, arith, rules}
use Rattle.std.proofs.lemmas.List.{append-nil, map-append, nil_from_length}
use Rattle.std.specs.Vec.Iter.{into_iter_items}
use Rattle.ets_script.proofs.processes.unzip.Goals as goal

pub loop-worked-init : goal.loop-worked-init
loop-worked-init g c = record { all = search rules; len = search rules; clients = search rules; left = search rules }

pub loop-worked-preserved : goal.loop-worked-preserved
loop-worked-preserved g c =
    let at = c.loop-worked in
    let x = c.in-Some.worked in
    let steps : into_iter_items at.worked-iterator ≡ x ∷ into_iter_items c.next.new.self = c.in-Some.ensures.steps.0 in
    let gone = c.in-Some.ensures.steps.1 in
    let short = ap length steps in
    record {
      all = append_assoc at.yielded (x ∷ []) _ ∙ rw (← steps) at.invariant.all;
      len = omega (arith, at.invariant.len, gone, short);
      clients = c.in_ok-push.ensures.items ∙ ap (λ l. l ++ x.client ∷ []) at.invariant.clients ∙ sym (map-append (λ w. w.client) at.yielded (x ∷ []));
      left = c.in_ok-push-2.ensures.items ∙ ap (λ l. l ++ x.left ∷ []) at.invariant.left ∙ sym (map-append (λ w. w.left) at.yielded (x ∷ []));
    }

pub returns : goal.returns
returns g c =
    let at = c.loop-worked in
    let none = c.in-None.ensures.steps in
    let empty : into_iter_items at.worked-iterator ≡ [] = nil_from_length _ (sym at.invariant.len ∙ none.0) in
    let all : at.yielded ≡ c.args.workers.items = sym (append-nil at.yielded) ∙ rw empty at at.invariant.all in
    (at.invariant.clients ∙ ap (λ l. map (λ w. w.client) l) all, at.invariant.left ∙ ap (λ l. map (λ w. w.left) l) all)
