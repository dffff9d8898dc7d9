use Rattle.std.proofs.Common.{rules, ◌-◌, ◌≡◌, ◌++◌, ◌∷◌, [], set}
use Rattle.ets_term.specs.declared.term.Term.TheVariants.{Int}
use Rattle.counters.specs.declared.list.Overwritten.{Overwritten}
use Rattle.counters.proofs.RestoreLaws.{restore-next}
use Rattle.counters.proofs.list.apply_next.Goals as goal

pub returns-clause-back : goal.returns-clause-back
returns-clause-back c =
    let at = c.args.op.position - 1 in
    let last : Overwritten = record { at = at; value = c.in-Some.value } in
    let overwritten : c.push-2.new.self ≡ c.args.overwritten.now ++ last ∷ [] = search rules in
    let after : c.replace-old.new.self ≡ set c.args.elements.now at (Int c.in-Some-new_value.next) = search rules in
    restore-next c.args.overwritten.now c.push-2.new.self c.args.elements.now c.replace-old.new.self last (Int c.in-Some-new_value.next) (search rules) overwritten after
