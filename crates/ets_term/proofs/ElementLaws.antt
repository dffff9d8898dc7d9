-- Elements of tuples.
use Rattle.std.proofs.Common.{rules, ◌≡◌, ◌<◌, ◌-◌, ◌==◌, arith, refl, sym, ℕ, zero, suc, false, List, length, None}
use Rattle.std.proofs.lemmas.Bool.Decides.{nat_tests}
use Rattle.std.proofs.lemmas.Option.{slice_get_past}
use Rattle.ets_term.specs.declared.term.Term.{Term, the_lemmas}
use Rattle.ets_term.specs.declared.term.Term.TheVariants.{Tuple}
use Rattle.ets_term.specs.Depth.{elements, element_at}

elements_of : (ts : List Term) → elements (Tuple ts) ≡ ts
elements_of ts = search (rules, the_lemmas)

-- past its end a tuple has no element
pub element_past : (n : ℕ) (t : Term) (ts : List Term) → t ≡ Tuple ts → length ts < n → None ≡ element_at n t
element_past zero t ts is past = refl
element_past (suc i) t ts is past =
    let some : (suc i == 0) ≡ false = grind (arith, nat_tests) in
    let at : suc i - 1 ≡ i = omega arith in
    rw (is, some, at, elements_of ts) (sym (slice_get_past ts i (omega (arith, past))))
