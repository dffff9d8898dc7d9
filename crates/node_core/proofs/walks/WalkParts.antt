-- The turn of a key, from the contracts of its functions.
use Rattle.std.proofs.Common.{◌≡◌, ℕ, true, false, List, [], ◌∷◌, ◌++◌, Option, Some, Result, Ok, Err, OnOk, OnErr, refl, sym, subst, subst₂, ap, ap₂, ◌∙◌, ◌-◌, length, take, drop, arith, true≢false}
use Rattle.std.specs.List.{AllByRecursion}
use Rattle.std.specs.Result.{is_err}
use Rattle.std.proofs.lemmas.List.{take_all, length-drop}
use Rattle.ets_term.specs.declared.term.Term.{Term}
use Rattle.node_core.specs.declared.step.Step.{Step}
use Rattle.node_core.specs.declared.walk.WalkFault.{WalkFault}
use Rattle.node_core.specs.declared.walk.WalkFault.TheVariants as fault
use Rattle.node_core.specs.State.{State}
use Rattle.node_core.specs.Observable.{observable}
use Rattle.node_core.specs.Buckets.{run_on_buckets}
use Rattle.node_core.specs.Woven.{is_step_of, Given, AddsTurn}
use Rattle.node_core.specs.inside.Walker.{CanContinue, FindsKey, WalkSoFar, WalkStopped, TurnResult, OthersRan, RunsOthers}
use Rattle.node_core.proofs.walks.Weaving.{paired}
use Rattle.node_core.proofs.walks.Turns.{steps-paired, after, stopped-here, stopped, not-found, turned}

-- ---- what a call answered
pub on-done : {E P : Type 0} (r : Result (Unit {0}) E) → false ≡ is_err r → OnOk r P → P
on-done (Ok done) e h = h
on-done (Err error) e h = absurd (true≢false (sym e))

pub on-refused : {E P : Type 0} (r : Result (Unit {0}) E) → true ≡ is_err r → OnErr r P → P
on-refused (Ok done) e h = absurd (true≢false e)
on-refused (Err error) e h = h

-- ---- the steps added last
drop-all : (xs ys : Given) → drop (length xs) (xs ++ ys) ≡ ys
drop-all [] ys = refl
drop-all (x ∷ xs) ys = drop-all xs ys

-- the slice from where those before end
pub sliced : (before now given given' : Given) → before ≡ given → now ≡ given' → take (length now - length before) (drop (length before) now) ≡ drop (length given) given'
sliced before now given given' e f =
    take_all (length now - length before) (drop (length before) now) (omega (arith, length-drop (length before) now))
    ∙ ap₂ (λ (n : ℕ) (gs : Given). drop n gs) (ap length e) f

module _ (p t : ℕ) (now : State) (keys : List Term) (given : Given) (key : Term) (keys' : List Term) (given' : Given) where
  -- the others do not get the key
  pub turn-out-of-memory : keys' ≡ keys → given' ≡ given → TurnResult p t keys given key now keys' given' (Err fault.Memory) now
  turn-out-of-memory e f = λ old st limit. subst₂ (λ ks gs. WalkStopped p t old limit ks gs fault.Memory now) (sym e) (sym f) (stopped-here p t old keys given key now limit st)

  module _ (adds : AddsTurn keys given key keys' given') (mid : State) where
    abbrev steps : List Step
    steps = adds.1.0

    abbrev pairs : Given
    pairs = paired (length keys) steps

    last-given : drop (length given) given' ≡ pairs
    last-given = ap (λ gs. drop (length given) gs) adds.1.1 ∙ drop-all given pairs

    -- one of the others' steps is not done
    pub turn-stopped : (why : WalkFault) → RunsOthers p now (drop (length given) given') (Err why) mid → TurnResult p t keys given key now keys' given' (Err why) mid
    turn-stopped why ran = λ old st limit.
        let own : RunsOthers p now pairs (Err why) mid = subst (λ gs. RunsOthers p now gs (Err why) mid) last-given ran in
        let did = own.1 in
        subst₂ (λ ks gs. WalkStopped p t old limit ks gs why mid) (sym adds.0) (sym adds.1.1) (stopped p t old keys given key now st steps own.0 mid did.replies did.ran did.others why limit own.2)

    module _ (ran : RunsOthers p now (drop (length given) given') (Ok tt) mid) where
      did : OthersRan p now pairs mid
      did = subst (λ gs. OthersRan p now gs mid) last-given ran

      did-run : run_on_buckets now steps did.replies mid
      did-run = subst (λ xs. run_on_buckets now xs did.replies mid) (steps-paired (length keys) steps) did.ran

      did-others : AllByRecursion (λ s. is_step_of p s ≡ false) steps
      did-others = subst (λ xs. AllByRecursion (λ s. is_step_of p s ≡ false) xs) (steps-paired (length keys) steps) did.others

      -- the walk can go on from the key
      pub goes-further : (old : State) → WalkSoFar p t old keys given (Some key) now → CanContinue t (observable mid) (Some key)
      goes-further old st =
          let made = after p t old keys given (Some key) now st steps did.replies mid did-run did-others in
          let before = st.goes_on in
          record { slot = made.place key before.slot; shallow = before.shallow; no_end = before.no_end }

      -- the next key is not found
      pub turn-unfound : (why : WalkFault) → FindsKey p t (Some key) (observable mid) (Err why) → TurnResult p t keys given key now keys' given' (Err why) mid
      turn-unfound why finds = λ old st limit.
          subst₂ (λ ks gs. WalkStopped p t old limit ks gs why mid) (sym adds.0) (sym adds.1.1) (not-found p t old keys given key now st steps did.replies mid did-run did-others why limit finds)

      pub turn-done : (found : Option Term) → FindsKey p t (Some key) (observable mid) (Ok found) → TurnResult p t keys given key now keys' given' (Ok found) mid
      turn-done found finds = λ old st.
          subst₂ (λ ks gs. WalkSoFar p t old ks gs found mid) (sym adds.0) (sym adds.1.1) (turned p t old keys given key now st steps did.replies mid did-run did-others found finds)
