-- When values may be written, and what they make.
use Rattle.std.proofs.Common.{◌≡◌, ◌∙◌, ◌-◌, ◌<◌, ◌≤◌, ◌&&◌, not, ◌||◌, Bool, true, false, if◌then◌else◌, List, [], ◌∷◌, length, slice_set, refl, sym, Result, Ok, Err, arith}
use Rattle.std.specs.Prelude.{nat_lt, nat_le}
use Rattle.std.proofs.lemmas.Bool.Decides.{nat_tests}
use Rattle.ets_term.specs.declared.term.Term.{Term}
use Rattle.ets_term.specs.Depth.{depth, max_depth}
use Rattle.counters.specs.Elements.{has_all_positions, make_too_deep, with_values, write_values}
use Rattle.counters.specs.inside.Values.{too_deep_as_element, write_each}
use Rattle.counters.specs.declared.elements.ElementSpec.{ElementSpec}
use Rattle.counters.specs.declared.fault.CounterFault.{CounterFault}
use Rattle.counters.specs.declared.fault.CounterFault.TheVariants.{Badarg, SystemLimit}
use Rattle.counters.proofs.DepthLaws.{each-with_values, deep-leaves}

-- how the code comes to its answer
abbrev pub WritesEach : List ElementSpec → List Term → Result (List Term) CounterFault
WritesEach ss es = if not (has_all_positions (length es) ss) then Err Badarg else if too_deep_as_element ss then Err SystemLimit else Ok (write_each ss es)

by-test : (b : Bool) (ss : List ElementSpec) (es : List Term) → has_all_positions (length es) ss ≡ b
    → (if not b then Err Badarg else if make_too_deep ss es then Err SystemLimit else Ok (with_values ss es)) ≡ (if not b then Err Badarg else if too_deep_as_element ss then Err SystemLimit else Ok (write_each ss es))
by-test false ss es h = refl
by-test true ss es h = rw (deep-leaves ss es h, each-with_values ss es h) refl

pub values-each : (ss : List ElementSpec) (es : List Term) → write_values ss es ≡ WritesEach ss es
values-each ss es = by-test (has_all_positions (length es) ss) ss es refl

pub list-deep : (ss : List ElementSpec) (es : List Term) → has_all_positions (length es) ss ≡ true → too_deep_as_element ss ≡ true → write_values ss es ≡ Err SystemLimit
list-deep ss es h d = values-each ss es ∙ rw (h, d) refl

pub list-written : (ss : List ElementSpec) (es : List Term) → has_all_positions (length es) ss ≡ true → too_deep_as_element ss ≡ false → write_values ss es ≡ Ok (write_each ss es)
list-written ss es h d = values-each ss es ∙ rw (h, d) refl

one-has : (s : ElementSpec) (es : List Term) → 0 < s.position → s.position ≤ length es → has_all_positions (length es) (s ∷ []) ≡ true
one-has s es some few =
    let a : nat_lt 0 s.position ≡ true = grind (arith, nat_tests, some) in
    let b : nat_le s.position (length es) ≡ true = grind (arith, nat_tests, few) in
    rw (a, b) refl

-- the test of one value is the test of a list of it
one-test : (s : ElementSpec) → too_deep_as_element (s ∷ []) ≡ nat_le max_depth (depth s.value)
one-test s = by (nat_le max_depth (depth s.value))
  where
    by : (b : Bool) → ((b && not false) || false) ≡ b
    by true = refl
    by false = refl

pub one-deep : (s : ElementSpec) (es : List Term) → 0 < s.position → s.position ≤ length es → max_depth ≤ depth s.value → write_values (s ∷ []) es ≡ Err SystemLimit
one-deep s es some few deep =
    let d : nat_le max_depth (depth s.value) ≡ true = grind (arith, nat_tests, deep) in
    list-deep (s ∷ []) es (one-has s es some few) (one-test s ∙ d)

pub one-written : (s : ElementSpec) (es : List Term) → 0 < s.position → s.position ≤ length es → depth s.value < max_depth → write_values (s ∷ []) es ≡ Ok (slice_set es (s.position - 1) s.value)
one-written s es some few flat =
    let d : nat_le max_depth (depth s.value) ≡ false = grind (arith, nat_tests, flat) in
    list-written (s ∷ []) es (one-has s es some few) (one-test s ∙ d)

values-by : (b d : Bool) (ss : List ElementSpec) (es fs : List Term) → too_deep_as_element ss ≡ d → (if not b then Err Badarg else if d then Err SystemLimit else Ok (write_each ss es)) ≡ Ok fs
    → (too_deep_as_element ss ≡ false) × (write_each ss es ≡ fs)
values-by false d ss es fs e h = cc
values-by true true ss es fs e h = cc
values-by true false ss es fs e h = let is : write_each ss es ≡ fs = cc in (e, is)

-- what is so of written values, for proofs that go through them one after another
pub values-at : (ss : List ElementSpec) (es fs : List Term) → write_values ss es ≡ Ok fs → (too_deep_as_element ss ≡ false) × (write_each ss es ≡ fs)
values-at ss es fs h = values-by (has_all_positions (length es) ss) (too_deep_as_element ss) ss es fs refl (sym (values-each ss es) ∙ h)
