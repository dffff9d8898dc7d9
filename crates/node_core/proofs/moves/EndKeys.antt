-- No change of a table gives it the key '$end_of_table'.
use Rattle.std.proofs.Common.{◌≡◌, ◌∙◌, Bool, true, false, ◌||◌, not, cond, List, [], ◌∷◌, ◌++◌, Option, Result, refl, sym, subst, ap}
use Rattle.std.specs.List.{AllByRecursion}
use Rattle.std.proofs.lemmas.Map.{keys-set_value}
use Rattle.ets_term.specs.declared.term.Term.{Term}
use Rattle.ets_term.specs.Order.{same}
use Rattle.bucket_table.specs.Slots.{Slot, has_objects, without_tombstones}
use Rattle.counters.specs.declared.elements.ElementSpecs.{ElementSpecs}
use Rattle.counters.specs.declared.ops.Ops.{Ops}
use Rattle.table_ops.specs.declared.refusal.Refusal.{Refusal}
use Rattle.table_ops.specs.Content.{Content}
use Rattle.table_ops.specs.Drop.{Which, objects_left, after_drop}
use Rattle.table_ops.specs.Put.{Inserts, InsertsNew}
use Rattle.table_ops.specs.Update.{UpdatesCounter, UpdatesElement}
use Rattle.fixed_walk.proofs.ChangeLaws.{Keeping, is_end, unchanged, inserts-keep, news-keep, counter-keeps, element-keeps}
use Rattle.node_core.specs.laws.Reached.{HasNoEnd}

-- a change keeps it so
abbrev pub StaysFree : List Slot → List Slot → Type 0
StaysFree old new = HasNoEnd old → HasNoEnd new

-- ---- fewer slots
one_fewer : (b : Bool) (s new : Slot) (rest : List Slot) → new.0 ≡ s.0 → is_end s.0 ≡ false → HasNoEnd rest → HasNoEnd (cond b (new ∷ rest) rest)
one_fewer true s new rest e own free = (ap is_end e ∙ own, free)
one_fewer false s new rest e own free = free

pub dropped-free : (hold : Bool) (which : Which) (slots : List Slot) → StaysFree slots (after_drop hold which slots)
dropped-free hold which [] free = tt
dropped-free hold which (s ∷ ss) free = one_fewer (hold || has_objects (objects_left which s) || not (has_objects s.1)) s (s.0, objects_left which s) (after_drop hold which ss) refl free.0 (dropped-free hold which ss free.1)

pub without_tombstones-free : (slots : List Slot) → StaysFree slots (without_tombstones slots)
without_tombstones-free [] free = tt
without_tombstones-free (s ∷ ss) free = one_fewer (has_objects s.1) s s (without_tombstones ss) refl free.0 (without_tombstones-free ss free.1)

-- ---- one slot more
between : (front back : List Slot) (s : Slot) → is_end s.0 ≡ false → HasNoEnd (front ++ back) → HasNoEnd (front ++ s ∷ back)
between [] back s own free = (own, free)
between (f ∷ front) back s own free = (free.0, between front back s own free.1)

keeping : Keeping StaysFree
keeping = record {
  staying = λ slots free. free;
  further = λ slots next last p q free. q (p free);
  enters = λ old new key os own h absent w free. subst HasNoEnd (sym w.after) (between w.front w.back (key, os) own (subst HasNoEnd w.before free));
  filled = λ old key os h free. subst (AllByRecursion (λ key. is_end key ≡ false)) (sym (keys-set_value (same key) old os)) free;
}

pub unchanged-free : (old new : Content) → new ≡ old → StaysFree old.slots new.slots
unchanged-free = unchanged StaysFree keeping

pub inserts-free : (objects : List Term) (old new : Content) (r : Result (Unit {0}) Refusal) → Inserts objects old r new → StaysFree old.slots new.slots
inserts-free = inserts-keep StaysFree keeping

pub news-free : (objects : List Term) (old new : Content) (r : Result Bool Refusal) → InsertsNew objects old r new → StaysFree old.slots new.slots
news-free = news-keep StaysFree keeping

pub counter-free : (key : Term) (ops : Ops) (default : Option Term) (old new : Content) (r : Result Term Refusal) → UpdatesCounter key ops default old r new → StaysFree old.slots new.slots
counter-free = counter-keeps StaysFree keeping

pub element-free : (key : Term) (specs : ElementSpecs) (default : Option Term) (old new : Content) (r : Result Bool Refusal) → UpdatesElement key specs default old r new → StaysFree old.slots new.slots
element-free = element-keeps StaysFree keeping
