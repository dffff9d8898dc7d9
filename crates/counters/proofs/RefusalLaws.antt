-- An update whose operations find integers is not refused with badarg.
use Rattle.std.proofs.Common.{◌≡◌, ◌∙◌, rules, refl, List, Option, Some, None, Bool, true, if◌then◌else◌, sym, Result, Err}
use Rattle.ets_term.specs.declared.term.Term.{Term}
use Rattle.counters.specs.declared.fault.CounterFault.{CounterFault}
use Rattle.counters.specs.declared.fault.CounterFault.TheVariants.{Badarg}
use Rattle.counters.specs.declared.ops.Ops.{Ops}
use Rattle.counters.specs.Counters.{are_counters, apply, or_limit, apply_to_elements}

or_limit-not_badarg : (counted : Option (List Term × Term)) → or_limit counted ≡ Err Badarg → ⊥
or_limit-not_badarg None e = search rules
or_limit-not_badarg (Some r) e = search rules

chosen : (b : Bool) (r s : Result (Term × Term) CounterFault) → b ≡ true → (if b then r else s) ≡ r
chosen b r s e = rw e refl

pub apply_to_elements-not_badarg : (ops : Ops) (elements : List Term) → are_counters ops elements ≡ true → apply_to_elements ops elements ≡ Err Badarg → ⊥
apply_to_elements-not_badarg ops elements t e = or_limit-not_badarg (apply ops elements) (sym (chosen _ (or_limit (apply ops elements)) (Err Badarg) t) ∙ e)
