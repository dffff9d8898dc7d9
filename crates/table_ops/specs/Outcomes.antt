-- The outcomes of a call that may be refused.
use Rattle.std.specs.Prelude.{◌≡◌, Bool, Option, MatchOption, Result}
use Rattle.std.specs.Bool.{MatchBool}
use Rattle.table_ops.specs.declared.refusal.Refusal.{Refusal}

-- an outcome of a call: the pairs of result and new state that it allows
abbrev pub Outcome : Type 0 → Type 0 → Type 1
Outcome R A = R → A → Type 0

-- the outcome with exactly this result and this new state
abbrev pub gives : {R A : Type 0} → R → A → Outcome R A
gives answer after given new = (given ≡ answer) × (new ≡ after)

-- if the test holds, the call gives this refusal and changes nothing; else it has the other outcome
abbrev pub refuse : {R A : Type 0} → A → Bool → R → Outcome R A → Outcome R A
refuse old test refusal otherwise given new =
    MatchBool test (gives refusal old given new) (otherwise given new)

-- if the option is None, the call gives this refusal and changes nothing; else it has the outcome for the option's
-- value
abbrev pub refuse_none : {X R A : Type 0} → A → Option X → R → (X → Outcome R A) → Outcome R A
refuse_none old found refusal otherwise given new =
    MatchOption found (gives refusal old given new) (λ x. otherwise x given new)

-- a call that may be refused, as an outcome
abbrev pub Change : Type 0 → Type 0 → Type 1
Change X A = Outcome (Result X Refusal) A
