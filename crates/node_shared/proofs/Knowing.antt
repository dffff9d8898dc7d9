-- The node knows each process that has an entry in the history.
use Rattle.std.proofs.Common.{◌≡◌, ◌≢◌, ℕ, Bool, true, false, List, [], ◌∷◌, ◌++◌, filter, if◌then◌else◌, refl, sym, ap, ◌∙◌, subst, true≢false, arith}
use Rattle.std.specs.Prelude.{is_some}
use Rattle.std.proofs.lemmas.Bool.Decides.{nat_tests}
use Rattle.std.proofs.lemmas.List.Elements.{filter-append}
use Rattle.ownership.specs.World.{process_at}
use Rattle.node_core.specs.declared.step.Step.{Step}
use Rattle.node_core.specs.declared.step.Step.TheVariants.{Enrol, End, Ask, Grow, Ready}
use Rattle.node_core.specs.declared.step.Reply.{Reply}
use Rattle.node_core.specs.State.{State}
use Rattle.node_core.specs.Observable.{observable}
use Rattle.node_core.specs.Woven.{is_step_of}
use Rattle.node_core.proofs.calls.EachCall.{step-remembers}
use Rattle.node_shared.specs.declared.entry.Entry.{Entry}
use Rattle.node_shared.specs.Journal.{entry, TakesStep, is_entry_of, entries_of}
use Rattle.node_shared.specs.inside.Known.{AreKnown}

-- a step is of one process at most
pub same-process : (p q : ℕ) (s : Step) → is_step_of p s ≡ true → is_step_of q s ≡ true → p ≡ q
same-process p q (Enrol w) a b = grind (arith, nat_tests)
same-process p q (End w) a b = grind (arith, nat_tests)
same-process p q (Ask w call) a b = grind (arith, nat_tests)
same-process p q (Grow t) a b = absurd (cc a)
same-process p q (Ready t bucket) a b = absurd (cc a)

-- what stays true was false before if it is false now
was-false : (a b : Bool) → (a ≡ true → b ≡ true) → b ≡ false → a ≡ false
was-false true b stays now = absurd (true≢false (sym (stays refl) ∙ now))
was-false false b stays now = refl

no-entry : (p : ℕ) (e : Entry) (b : Bool) → is_entry_of p e ≡ b → b ≡ false → filter (is_entry_of p) (e ∷ []) ≡ []
no-entry p e b is off = ap (λ (c : Bool). if c then e ∷ [] else []) (is ∙ off)

module _ (h : List Entry) (old new : State) (s : Step) (r : Reply) (was : AreKnown h old) (does : TakesStep old s r new) where
  stays : (p : ℕ) → is_some (process_at old.world.processes p) ≡ true → is_some (process_at new.world.processes p) ≡ true
  stays = let m = step-remembers (observable old) (observable new) s r does.0 in m.stay

  -- if the node knows the process of the step after it
  pub known-on : ((p : ℕ) → is_step_of p s ≡ true → is_some (process_at new.world.processes p) ≡ true) → AreKnown (h ++ entry s r ∷ []) new
  known-on its p unknown =
      let before = was-false (is_some (process_at old.world.processes p)) (is_some (process_at new.world.processes p)) (stays p) unknown in
      let another = was-false (is_step_of p s) (is_some (process_at new.world.processes p)) (its p) unknown in
      filter-append (is_entry_of p) h (entry s r ∷ []) ∙ (ap (λ (es : List Entry). es ++ filter (is_entry_of p) (entry s r ∷ [])) (was p before) ∙ no-entry p (entry s r) (is_step_of p s) refl another)

  -- or if the process has an entry already
  pub known-own : (p : ℕ) → is_step_of p s ≡ true → entries_of p h ≢ [] → AreKnown (h ++ entry s r ∷ []) new
  known-own p own some =
      known-on (λ q is. subst (λ (i : ℕ). is_some (process_at new.world.processes i) ≡ true) (same-process p q s own is) (stays p (by (is_some (process_at old.world.processes p)) refl)))
    where
      by : (b : Bool) → is_some (process_at old.world.processes p) ≡ b → is_some (process_at old.world.processes p) ≡ true
      by true is = is
      by false is = absurd (some (was p is))

-- a growth step is of no process
pub known-growth : (h : List Entry) (old new : State) (s : Step) (r : Reply) → AreKnown h old → TakesStep old s r new → ((p : ℕ) → is_step_of p s ≡ false) → AreKnown (h ++ entry s r ∷ []) new
known-growth h old new s r was does none = known-on h old new s r was does (λ p is. absurd (true≢false (sym is ∙ none p)))
