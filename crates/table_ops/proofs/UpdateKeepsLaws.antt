-- An update keeps the key of an object, and keeps it from being too deep.
use Rattle.std.proofs.Common.{◌≡◌, ◌⊎◌, inl, inr, ℕ, zero, suc, ℤ, ◌+◌, ◌-◌, ◌<◌, ◌≤◌, ◌==◌, Bool, true, false, not, ◌&&◌, ◌||◌, List, [], ◌∷◌, Option, None, Some, Result, Ok, Err, refl, sym, ap, subst, ◌∙◌, length, slice_get, slice_set, true≢false, if◌then◌else◌, codes, arith}
use Rattle.std.specs.Prelude.{nat_lt, nat_le, unwrap_or}
use Rattle.std.specs.List.{list_all, list_any}
use Rattle.std.specs.Option.{option_map, option_map_or, option_and_then}
use Rattle.std.specs.Result.{result_map_both}
use Rattle.std.proofs.lemmas.Bool.Decides.{nat_tests}
use Rattle.std.proofs.lemmas.Option.{same_Some}
use Rattle.ets_term.specs.declared.term.Term.{Term, out-Term}
use Rattle.ets_term.specs.declared.term.Term.TheOpen.{Term-F}
use Rattle.ets_term.specs.declared.term.Term.TheVariants.{Tuple, Int}
use Rattle.ets_term.specs.declared.term.TheConstants.{MAX_DEPTH}
use Rattle.ets_term.specs.Atoms.{is_atom}
use Rattle.ets_term.specs.Depth.{depth, is_too_deep, elements, element_at}
use Rattle.ets_term.specs.Views.{tuple_form, as_tuple}
use Rattle.counters.specs.Counters.{apply_one, apply_all, apply, are_counters, or_limit, apply_to_elements, apply_ops}
use Rattle.counters.specs.Defaults.{with_key, start_counter, refuse_deep, start_elements}
use Rattle.counters.specs.Elements as elements
use Rattle.counters.specs.inside.Values as values
use Rattle.counters.proofs.ValueLaws.{values-at}
use Rattle.counters.specs.declared.elements.ElementSpec.{ElementSpec}
use Rattle.counters.specs.declared.elements.ElementSpecs.{ElementSpecs}
use Rattle.counters.specs.declared.fault.CounterFault.{CounterFault}
use Rattle.counters.specs.declared.fault.CounterFault.TheVariants as fault
use Rattle.counters.specs.declared.ops.Op.{Op}
use Rattle.counters.specs.declared.ops.Ops.{Ops}
use Rattle.counters.specs.declared.ops.Ops.TheVariants.{One, Many}
use Rattle.table_ops.specs.Content.{key_of}
use Rattle.table_ops.specs.Update.{may_update, ops_avoid_key, element_specs_avoid_key, with_true}
use Rattle.table_ops.proofs.InsertLaws.{both}
use Rattle.table_ops.proofs.InvariantLaws.{neither}
use Rattle.table_ops.proofs.TupleLaws.{Fits, AllFit, depth-Int, elements-Tuple, fit-of, shallow-Tuple, get-set, get-other}

-- an object has the same key as another, and is not too deep if the other is not
pub record KeepsKey (keypos : ℕ) (was object : Term) : Type 0 where
  pub key : key_of keypos object ≡ key_of keypos was
  pub shallow : is_too_deep was ≡ false → is_too_deep object ≡ false

-- the element at a position
abbrev at_pos : ℕ → List Term → Option Term
at_pos n es = if n == 0 then None else slice_get es (n - 1)

record KeepsAll (keypos : ℕ) (es fs : List Term) : Type 0 where
  own : at_pos keypos fs ≡ at_pos keypos es
  fit : AllFit es → AllFit fs

may-is : (keypos p : ℕ) → may_update keypos p ≡ true → (0 < p) × (p ≡ keypos → ⊥)
may-is keypos p h = let b = both (nat_lt 0 p) (not (p == keypos)) h in (grind (arith, nat_tests, b.0), λ e. grind (arith, nat_tests, b.1, e))

apart : (keypos p : ℕ) → (keypos == 0) ≡ false → (0 < p) × (p ≡ keypos → ⊥) → keypos - 1 ≡ p - 1 → ⊥
apart keypos p some o e =
    let k : 0 < keypos = grind (arith, nat_tests, some) in
    let same : p ≡ keypos = omega (arith, k, o.0, e) in
    o.1 same

own-at : (b : Bool) (keypos p : ℕ) (es : List Term) (v : Term) → (keypos == 0) ≡ b → (0 < p) × (p ≡ keypos → ⊥) → (if b then None else slice_get (slice_set es (p - 1) v) (keypos - 1)) ≡ (if b then None else slice_get es (keypos - 1))
own-at true keypos p es v e o = refl
own-at false keypos p es v e o = get-other es (p - 1) (keypos - 1) v (apart keypos p e o)

own-kept : (keypos p : ℕ) (es : List Term) (v : Term) → may_update keypos p ≡ true → at_pos keypos (slice_set es (p - 1) v) ≡ at_pos keypos es
own-kept keypos p es v h = own-at (keypos == 0) keypos p es v refl (may-is keypos p h)

fit-set : (es : List Term) (j : ℕ) (v : Term) → Fits v → AllFit es → AllFit (slice_set es j v)
fit-set es j v f fit i e h = by (get-set es j i v e h)
  where
    by : ((i ≡ j) × (e ≡ v)) ⊎ ((i ≡ j → ⊥) × (slice_get es i ≡ Some e)) → Fits e
    by (inl p) = subst Fits (sym p.1) f
    by (inr p) = fit i e p.1

int-fits : (n : ℤ) → Fits (Int n)
int-fits n = ap (nat_le MAX_DEPTH) (depth-Int n)

module _ (keypos : ℕ) where
  one-at : (op : Op) (es fs : List Term) (a : Term) (o : Option ℤ) → may_update keypos op.position ≡ true → option_map {U = List Term × Term} (λ n. (slice_set es (op.position - 1) (Int n), Int n)) o ≡ Some (fs, a) → KeepsAll keypos es fs
  one-at op es fs a None h e = cc
  one-at op es fs a (Some n) h e =
      let pair : (slice_set es (op.position - 1) (Int n), Int n) ≡ (fs, a) = same_Some _ _ e in
      let is : slice_set es (op.position - 1) (Int n) ≡ fs = ap (λ (p : List Term × Term). p.0) pair in
      subst (KeepsAll keypos es) is (record { own = own-kept keypos op.position es (Int n) h; fit = fit-set es (op.position - 1) (Int n) (int-fits n) })

  one-keeps : (op : Op) (es fs : List Term) (a : Term) → may_update keypos op.position ≡ true → apply_one op es ≡ Some (fs, a) → KeepsAll keypos es fs
  one-keeps op es fs a h e = one-at op es fs a _ h e

  keeps-on : (es mid fs : List Term) → KeepsAll keypos es mid → KeepsAll keypos mid fs → KeepsAll keypos es fs
  keeps-on es mid fs p q = record { own = q.own ∙ p.own; fit = λ f. q.fit (p.fit f) }

  rest-at : (o : Option (List Term × List Term)) (t : Term) (fs : List Term) (bs : List Term) → option_map {U = List Term × List Term} (λ rest. (rest.0, t ∷ rest.1)) o ≡ Some (fs, bs) → (cs : List Term) × (o ≡ Some (fs, cs))
  rest-at None t fs bs e = cc
  rest-at (Some r) t fs bs e =
      let pair : (r.0, t ∷ r.1) ≡ (fs, bs) = same_Some _ _ e in
      (r.1, λ i. Some ((pair i).0, r.1))

  all-at : (op : Op) (ops : List Op) (es fs : List Term) (bs : List Term) (o : Option (List Term × Term)) → apply_one op es ≡ o → may_update keypos op.position ≡ true → ((mid : List Term) (cs : List Term) → apply_all ops mid ≡ Some (fs, cs) → KeepsAll keypos mid fs)
      → option_and_then {U = List Term × List Term} (λ first. option_map {U = List Term × List Term} (λ rest. (rest.0, first.1 ∷ rest.1)) (apply_all ops first.0)) o ≡ Some (fs, bs) → KeepsAll keypos es fs
  all-at op ops es fs bs None first h rest e = cc
  all-at op ops es fs bs (Some r) first h rest e =
      let more = rest-at (apply_all ops r.0) r.1 fs bs e in
      keeps-on es r.0 fs (one-keeps op es r.0 r.1 h first) (rest r.0 more.0 more.1)

  all-keeps : (ops : List Op) (es fs bs : List Term) → list_all (λ op. may_update keypos op.position) ops ≡ true → apply_all ops es ≡ Some (fs, bs) → KeepsAll keypos es fs
  all-keeps [] es fs bs h e =
      let pair : (es, []) ≡ (fs, bs) = same_Some _ _ e in
      subst (KeepsAll keypos es) (ap (λ (p : List Term × List Term). p.0) pair) (record { own = refl; fit = λ f. f })
  all-keeps (op ∷ ops) es fs bs h e =
      let b = both (may_update keypos op.position) (list_all (λ o. may_update keypos o.position) ops) h in
      all-at op ops es fs bs (apply_one op es) refl b.0 (λ mid cs g. all-keeps ops mid fs cs b.1 g) e

  many-at : (o : Option (List Term × List Term)) (fs : List Term) (a : Term) (f : List Term → Term) → option_map {U = List Term × Term} (λ r. (r.0, f r.1)) o ≡ Some (fs, a) → (bs : List Term) × (o ≡ Some (fs, bs))
  many-at None fs a f e = cc
  many-at (Some r) fs a f e =
      let pair : (r.0, f r.1) ≡ (fs, a) = same_Some _ _ e in
      (r.1, λ i. Some ((pair i).0, r.1))

  count-keeps : (ops : Ops) (es fs : List Term) (a : Term) → ops_avoid_key keypos ops ≡ true → apply ops es ≡ Some (fs, a) → KeepsAll keypos es fs
  count-keeps (One op) es fs a h e = one-keeps op es fs a h e
  count-keeps (Many ops) es fs a h e = let m = many-at (apply_all ops es) fs a _ e in all-keeps ops es fs m.0 h m.1

  -- a property of the elements holds for the tuple
  tuple-keeps : (was object : Term) (es fs : List Term) → out-Term was ≡ Term-F.Tuple es → object ≡ Tuple fs → KeepsAll keypos es fs → KeepsKey keypos was object
  tuple-keeps was object es fs h is k =
      let own : elements was ≡ es = ap (λ y. unwrap_or (tuple_form y) []) h in
      let new : elements object ≡ fs = ap elements is ∙ elements-Tuple fs in
      let at : element_at keypos object ≡ element_at keypos was = ap (at_pos keypos) new ∙ k.own ∙ sym (ap (at_pos keypos) own) in
      record {
        key = ap (option_and_then (λ key. if is_atom (codes "$end_of_table") key then None else Some key)) at;
        shallow = λ s. ap is_too_deep is ∙ shallow-Tuple fs (k.fit (fit-of was es h s));
      }

  limit-at : (o : Option (List Term × Term)) (object answer : Term) → or_limit o ≡ Ok (object, answer) → (fs : List Term) × (o ≡ Some (fs, answer)) × (object ≡ Tuple fs)
  limit-at None object answer e = cc
  limit-at (Some r) object answer e =
      let pair : (Tuple r.0, r.1) ≡ (object, answer) = cc in
      (r.0, (λ i. Some (r.0, (pair i).1)), sym (ap (λ (p : Term × Term). p.0) pair))

  elements-at : (b : Bool) (ops : Ops) (es : List Term) (object answer : Term) → (if b then or_limit (apply ops es) else Err fault.Badarg) ≡ Ok (object, answer) → (fs : List Term) × (apply ops es ≡ Some (fs, answer)) × (object ≡ Tuple fs)
  elements-at true ops es object answer e = limit-at (apply ops es) object answer e
  elements-at false ops es object answer e = cc

  counted-form : (y : Term-F Term) (ops : Ops) (was object answer : Term) → out-Term was ≡ y → ops_avoid_key keypos ops ≡ true → option_map_or (apply_to_elements ops) (tuple_form y) (Err fault.Badarg) ≡ Ok (object, answer) → KeepsKey keypos was object
  counted-form (Term-F.Tuple es) ops was object answer h may e =
      let t = elements-at (are_counters ops es) ops es object answer e in
      tuple-keeps was object es t.0 h t.2 (count-keeps ops es t.0 answer may t.1)
  counted-form (Term-F.Int n) ops was object answer h may e = cc
  counted-form (Term-F.Atom n) ops was object answer h may e = cc
  counted-form (Term-F.Pid n) ops was object answer h may e = cc
  counted-form (Term-F.Tid n) ops was object answer h may e = cc
  counted-form (Term-F.List n) ops was object answer h may e = cc
  counted-form (Term-F.Binary n) ops was object answer h may e = cc

  pub counted-keeps : (ops : Ops) (was object answer : Term) → ops_avoid_key keypos ops ≡ true → apply_ops ops was ≡ Ok (object, answer) → KeepsKey keypos was object
  counted-keeps ops was object answer may e = counted-form (out-Term was) ops was object answer refl may e

  -- the Default with the key has that key
  set-same : (ts : List Term) (j : ℕ) (v : Term) → j < length ts → slice_get (slice_set ts j v) j ≡ Some v
  set-same [] j v h = absurd (omega (arith, h))
  set-same (x ∷ xs) zero v h = refl
  set-same (x ∷ xs) (suc j) v h = set-same xs j v (omega (arith, h))

  with_key-own-at : (b : Bool) (ts : List Term) (key : Term) → (keypos == 0) ≡ b → 0 < keypos → keypos ≤ length ts → (if b then None else slice_get (slice_set ts (keypos - 1) key) (keypos - 1)) ≡ Some key
  with_key-own-at true ts key e some few = absurd (grind (arith, nat_tests, e, some))
  with_key-own-at false ts key e some few = set-same ts (keypos - 1) key (omega (arith, some, few))

  key-at : (b : Bool) (key : Term) → is_atom (codes "$end_of_table") key ≡ b → not b ≡ true → (if is_atom (codes "$end_of_table") key then None else Some key) ≡ Some key
  key-at true key e h = absurd (true≢false (sym h))
  key-at false key e h = ap (λ (c : Bool). if c then None else Some key) e

  with_key-at : (b : Bool) (ts : List Term) (key object : Term) → ((nat_lt 0 keypos && nat_le keypos (length ts)) && not (is_atom (codes "$end_of_table") key)) ≡ b
      → (if b then Some (Tuple (slice_set ts (keypos - 1) key)) else None) ≡ Some object → key_of keypos object ≡ Some key
  with_key-at false ts key object t e = cc
  with_key-at true ts key object t e =
      let is : Tuple (slice_set ts (keypos - 1) key) ≡ object = cc in
      let d = both (nat_lt 0 keypos && nat_le keypos (length ts)) (not (is_atom (codes "$end_of_table") key)) t in
      let b = both (nat_lt 0 keypos) (nat_le keypos (length ts)) d.0 in
      let some : 0 < keypos = grind (arith, nat_tests, b.0) in
      let few : keypos ≤ length ts = grind (arith, nat_tests, b.1) in
      let own : element_at keypos object ≡ Some key = ap (element_at keypos) (sym is) ∙ ap (at_pos keypos) (elements-Tuple (slice_set ts (keypos - 1) key)) ∙ with_key-own-at (keypos == 0) ts key refl some few in
      ap (option_and_then (λ k. if is_atom (codes "$end_of_table") k then None else Some k)) own ∙ key-at (is_atom (codes "$end_of_table") key) key refl d.1

  with_key-by : (o : Option (List Term)) (key object : Term) → option_and_then (λ ts. if nat_lt 0 keypos && nat_le keypos (length ts) && not (is_atom (codes "$end_of_table") key) then Some (Tuple (slice_set ts (keypos - 1) key)) else None) o ≡ Some object → key_of keypos object ≡ Some key
  with_key-by None key object e = cc
  with_key-by (Some ts) key object e = with_key-at ((nat_lt 0 keypos && nat_le keypos (length ts)) && not (is_atom (codes "$end_of_table") key)) ts key object refl e

  with_key-key : (key default object : Term) → with_key keypos key default ≡ Some object → key_of keypos object ≡ Some key
  with_key-key key default object e = with_key-by (as_tuple default) key object e

  shallow-at : (b : Bool) (r : Term × Term) (object answer : Term) → is_too_deep r.0 ≡ b → (if b then Err fault.SystemLimit else Ok r) ≡ Ok (object, answer) → (r ≡ (object, answer)) × (is_too_deep object ≡ false)
  shallow-at true r object answer e h = cc
  shallow-at false r object answer e h = let is : r ≡ (object, answer) = cc in (is, ap (λ (p : Term × Term). is_too_deep p.0) (sym is) ∙ e)

  shallow-of : (r : Result (Term × Term) CounterFault) (object answer : Term) → refuse_deep {X = Term × Term} (λ p. p.0) r ≡ Ok (object, answer) → (r ≡ Ok (object, answer)) × (is_too_deep object ≡ false)
  shallow-of (Err f) object answer h = cc
  shallow-of (Ok r) object answer h = let s = shallow-at (is_too_deep r.0) r object answer refl h in (ap Ok s.0, s.1)

  started-at : (o : Option Term) (ops : Ops) (key object answer : Term) → ((made : Term) → o ≡ Some made → key_of keypos made ≡ Some key) → ops_avoid_key keypos ops ≡ true → start_counter ops o ≡ Ok (object, answer) → (key_of keypos object ≡ Some key) × (is_too_deep object ≡ false)
  started-at None ops key object answer its may h = cc
  started-at (Some made) ops key object answer its may h =
      let s = shallow-of (apply_ops ops made) object answer h in
      ((counted-keeps ops made object answer may s.0).key ∙ its made refl, s.1)

  -- an object counted from a Default is an object of the key
  pub started : (ops : Ops) (key default object answer : Term) → ops_avoid_key keypos ops ≡ true → start_counter ops (with_key keypos key default) ≡ Ok (object, answer) → (key_of keypos object ≡ Some key) × (is_too_deep object ≡ false)
  started ops key default object answer may h = started-at (with_key keypos key default) ops key object answer (λ made e. with_key-key key default made e) may h

-- if elements are set one after another, each fits, or a later one replaces it
abbrev Later : List ElementSpec → List Term → Type 0
Later specs es = (i : ℕ) (e : Term) → slice_get es i ≡ Some e → Fits e ⊎ (list_any (λ (s : ElementSpec). s.position == i + 1) specs ≡ true)

either : (a b : Bool) → (a || b) ≡ true → (a ≡ true) ⊎ (b ≡ true)
either true b h = inl refl
either false b h = inr h

not-both : (a b : Bool) → (a && not b) ≡ false → (a ≡ false) ⊎ (b ≡ true)
not-both true true h = inr refl
not-both true false h = absurd (true≢false h)
not-both false b h = inl refl

same-place : (p i : ℕ) → (p == i + 1) ≡ true → i ≡ p - 1
same-place p i h = grind (arith, nat_tests, h)

place-of : (p i : ℕ) → 0 < p → i ≡ p - 1 → p ≡ i + 1
place-of p i some e = omega (arith, some, e)

later-set : (spec : ElementSpec) (specs : List ElementSpec) (es : List Term) → 0 < spec.position → (nat_le MAX_DEPTH (depth spec.value) && not (list_any (λ (s : ElementSpec). s.position == spec.position) specs)) ≡ false → Later (spec ∷ specs) es → Later specs (slice_set es (spec.position - 1) spec.value)
later-set spec specs es some over later i e h = by (get-set es (spec.position - 1) i spec.value e h)
  where
    named : i ≡ spec.position - 1 → list_any (λ (s : ElementSpec). s.position == spec.position) specs ≡ true → list_any (λ (s : ElementSpec). s.position == i + 1) specs ≡ true
    named here g = subst (λ (n : ℕ). list_any (λ (s : ElementSpec). s.position == n) specs ≡ true) (place-of spec.position i some here) g

    new : i ≡ spec.position - 1 → e ≡ spec.value → (nat_le MAX_DEPTH (depth spec.value) ≡ false) ⊎ (list_any (λ (s : ElementSpec). s.position == spec.position) specs ≡ true) → Fits e ⊎ (list_any (λ (s : ElementSpec). s.position == i + 1) specs ≡ true)
    new here is (inl f) = inl (subst Fits (sym is) f)
    new here is (inr g) = inr (named here g)

    old-named : (i ≡ spec.position - 1 → ⊥) → ((spec.position == i + 1) ≡ true) ⊎ (list_any (λ (s : ElementSpec). s.position == i + 1) specs ≡ true) → Fits e ⊎ (list_any (λ (s : ElementSpec). s.position == i + 1) specs ≡ true)
    old-named apart (inl g) = absurd (apart (same-place spec.position i g))
    old-named apart (inr g) = inr g

    old : (i ≡ spec.position - 1 → ⊥) → Fits e ⊎ (list_any (λ (s : ElementSpec). s.position == i + 1) (spec ∷ specs) ≡ true) → Fits e ⊎ (list_any (λ (s : ElementSpec). s.position == i + 1) specs ≡ true)
    old apart (inl f) = inl f
    old apart (inr g) = old-named apart (either (spec.position == i + 1) (list_any (λ (s : ElementSpec). s.position == i + 1) specs) g)

    by : ((i ≡ spec.position - 1) × (e ≡ spec.value)) ⊎ ((i ≡ spec.position - 1 → ⊥) × (slice_get es i ≡ Some e)) → Fits e ⊎ (list_any (λ (s : ElementSpec). s.position == i + 1) specs ≡ true)
    by (inl p) = new p.0 p.1 (not-both (nat_le MAX_DEPTH (depth spec.value)) (list_any (λ (s : ElementSpec). s.position == spec.position) specs) over)
    by (inr p) = old p.0 (later i e p.1)

none-later : (es : List Term) → Later [] es → AllFit es
none-later es later i e h = by (later i e h)
  where
    by : Fits e ⊎ (false ≡ true) → Fits e
    by (inl f) = f
    by (inr g) = absurd (true≢false (sym g))

module _ (keypos : ℕ) where
  written-later : (specs : List ElementSpec) (es : List Term) → list_all (λ spec. may_update keypos spec.position) specs ≡ true → values.too_deep_as_element specs ≡ false → Later specs es → AllFit (values.write_each specs es)
  written-later [] es may over later = none-later es later
  written-later (spec ∷ specs) es may over later =
      let b = both (may_update keypos spec.position) (list_all (λ s. may_update keypos s.position) specs) may in
      let n = neither (nat_le MAX_DEPTH (depth spec.value) && not (list_any (λ (s : ElementSpec). s.position == spec.position) specs)) (values.too_deep_as_element specs) over in
      written-later specs (slice_set es (spec.position - 1) spec.value) b.1 n.1 (later-set spec specs es (may-is keypos spec.position b.0).0 n.0 later)

  written-own : (specs : List ElementSpec) (es : List Term) → list_all (λ spec. may_update keypos spec.position) specs ≡ true → at_pos keypos (values.write_each specs es) ≡ at_pos keypos es
  written-own [] es may = refl
  written-own (spec ∷ specs) es may =
      let b = both (may_update keypos spec.position) (list_all (λ s. may_update keypos s.position) specs) may in
      written-own specs (slice_set es (spec.position - 1) spec.value) b.1 ∙ own-kept keypos spec.position es spec.value b.0

  written-keeps-all : (specs : List ElementSpec) (es : List Term) → list_all (λ spec. may_update keypos spec.position) specs ≡ true → values.too_deep_as_element specs ≡ false → KeepsAll keypos es (values.write_each specs es)
  written-keeps-all specs es may over = record { own = written-own specs es may; fit = λ f. written-later specs es may over (λ i e h. inl (f i e h)) }

  tuple-at : (r : Result (List Term) CounterFault) (object : Term) → result_map_both Tuple (λ f. f) r ≡ Ok object → (fs : List Term) × (r ≡ Ok fs) × (object ≡ Tuple fs)
  tuple-at (Err f) object h = cc
  tuple-at (Ok fs) object h = let is : Tuple fs ≡ object = cc in (fs, refl, sym is)

  written-form : (y : Term-F Term) (specs : List ElementSpec) (was object : Term) → out-Term was ≡ y → list_all (λ spec. may_update keypos spec.position) specs ≡ true → elements.apply_elements_form specs y ≡ Ok object → KeepsKey keypos was object
  written-form (Term-F.Tuple es) specs was object h may e =
      let t = tuple-at (elements.write_values specs es) object e in
      let p = values-at specs es t.0 t.1 in
      tuple-keeps keypos was object es t.0 h t.2 (subst (KeepsAll keypos es) p.1 (written-keeps-all specs es may p.0))
  written-form (Term-F.Int n) specs was object h may e = cc
  written-form (Term-F.Atom n) specs was object h may e = cc
  written-form (Term-F.Pid n) specs was object h may e = cc
  written-form (Term-F.Tid n) specs was object h may e = cc
  written-form (Term-F.List n) specs was object h may e = cc
  written-form (Term-F.Binary n) specs was object h may e = cc

  pub written-keeps : (specs : ElementSpecs) (was object : Term) → element_specs_avoid_key keypos specs ≡ true → elements.apply_elements specs was ≡ Ok object → KeepsKey keypos was object
  written-keeps specs was object may e = written-form (out-Term was) (elements.element_spec_list specs) was object refl may e

  deep-at : (b : Bool) (made object : Term) → is_too_deep made ≡ b → (if b then Err fault.SystemLimit else Ok made) ≡ Ok object → (made ≡ object) × (is_too_deep object ≡ false)
  deep-at true made object e h = cc
  deep-at false made object e h = let is : made ≡ object = cc in (is, ap is_too_deep (sym is) ∙ e)

  deep-of : (r : Result Term CounterFault) (object : Term) → refuse_deep {X = Term} (λ new. new) r ≡ Ok object → (r ≡ Ok object) × (is_too_deep object ≡ false)
  deep-of (Err f) object h = cc
  deep-of (Ok made) object h = let s = deep-at (is_too_deep made) made object refl h in (ap Ok s.0, s.1)

  written-at : (o : Option Term) (specs : ElementSpecs) (key object : Term) → ((made : Term) → o ≡ Some made → key_of keypos made ≡ Some key) → element_specs_avoid_key keypos specs ≡ true → start_elements specs o ≡ Ok object → (key_of keypos object ≡ Some key) × (is_too_deep object ≡ false)
  written-at None specs key object its may h = cc
  written-at (Some made) specs key object its may h =
      let s = deep-of (elements.apply_elements specs made) object h in
      ((written-keeps specs made object may s.0).key ∙ its made refl, s.1)

  true-of : (r : Result Term CounterFault) (object : Term) (answer : Bool) → with_true r ≡ Ok (object, answer) → r ≡ Ok object
  true-of (Err f) object answer e = cc
  true-of (Ok made) object answer e = let is : (made, true) ≡ (object, answer) = cc in ap (λ (p : Term × Bool). let r : Result Term CounterFault = Ok p.0 in r) is

  -- a Default with new elements is an object of the key
  pub written-started : (specs : ElementSpecs) (key default object : Term) (answer : Bool) → element_specs_avoid_key keypos specs ≡ true → with_true (start_elements specs (with_key keypos key default)) ≡ Ok (object, answer)
      → (key_of keypos object ≡ Some key) × (is_too_deep object ≡ false)
  written-started specs key default object answer may h =
      written-at (with_key keypos key default) specs key object (λ made e. with_key-key keypos key default made e) may (true-of (start_elements specs (with_key keypos key default)) object answer h)
