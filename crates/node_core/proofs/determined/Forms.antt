-- Outcomes that have a result, and that change nothing if the result is a refusal. Each form of outcome is treated here once.
use Rattle.std.proofs.Common.{◌≡◌, Bool, true, false, Option, None, Some, Result, Ok, Err, refl, sym, ap, ◌∙◌, true≢false}
use Rattle.std.specs.Bool.{MatchBool}
use Rattle.table_ops.specs.declared.refusal.Refusal.{Refusal}
use Rattle.table_ops.specs.declared.refusal.Refusal.TheVariants as refusal
use Rattle.table_ops.specs.Outcomes.{Outcome, gives, refuse, refuse_none}
use Rattle.fixed_walk.specs.TableState.{TableState}
use Rattle.ownership.specs.declared.fault.WorldFault.{WorldFault}
use Rattle.ownership.specs.declared.fault.WorldFault.TheVariants as fault
use Rattle.node_core.specs.declared.step.Reply.{Reply}
use Rattle.node_core.specs.declared.step.Reply.TheVariants.{Badarg, SystemLimit, NoProcess}
use Rattle.node_core.specs.Access.{ChangeResultToReply, WorldResultToReply, replies}
use Rattle.node_core.specs.Values.{is_value}

-- a value is no refusal
pub contrary : {X : Type 0} (r answer : Reply) → r ≡ answer → is_value answer ≡ true → is_value r ≡ false → X
contrary r answer e v f = absurd (true≢false (sym v ∙ (sym (ap is_value e) ∙ f)))

-- ---- outcomes of replies
module _ {A : Type 0} (old : A) where
  -- it gives some reply if P holds, and each refusal leaves what was before
  pub record IsWhole (P : Type 0) (outcome : Outcome Reply A) : Type 0 where
    pub some : P → (r : Reply) × (new : A) × outcome r new
    pub refused : (r : Reply) (new : A) → outcome r new → is_value r ≡ false → new ≡ old

  module _ (P : Type 0) where
    pub gives-value : (answer : Reply) (new : A) → is_value answer ≡ true → IsWhole P (gives answer new)
    gives-value answer new v =
        record { some = λ p. (answer, new, (refl, refl)); refused = λ r n h f. contrary r answer h.0 v f }

    pub gives-same : (answer : Reply) → IsWhole P (gives answer old)
    gives-same answer = record { some = λ p. (answer, old, (refl, refl)); refused = λ r n h f. h.1 }

    pub either-whole : (test : Bool) {one other : Outcome Reply A} → IsWhole P one → IsWhole P other
        → IsWhole P (λ r new. MatchBool test (one r new) (other r new))
    either-whole true a b = a
    either-whole false a b = b

    pub refuse-whole : (test : Bool) (answer : Reply) {otherwise : Outcome Reply A} → IsWhole P otherwise
        → IsWhole P (refuse old test answer otherwise)
    refuse-whole true answer w = gives-same answer
    refuse-whole false answer w = w

    pub refuse_none-whole : {X : Type 0} (o : Option X) {otherwise : X → Outcome Reply A}
        → ((x : X) → o ≡ Some x → IsWhole P (otherwise x)) → IsWhole P (refuse_none old o Badarg otherwise)
    refuse_none-whole None w = gives-same Badarg
    refuse_none-whole (Some x) w = w x refl

-- ---- outcomes of results
-- an error that a step may meet: it is not about memory
abbrev pub Fair : {X E : Type 0} → (E → Type 0) → Result X E → Type 0
Fair may (Ok x) = Unit {0}
Fair may (Err e) = may e

module _ {A E : Type 0} (may : E → Type 0) (old : A) where
  -- it gives some result, and each error leaves what was before
  pub record IsFair {X : Type 0} (outcome : Outcome (Result X E) A) : Type 0 where
    pub some : (r : Result X E) × (new : A) × outcome r new × Fair may r
    pub refused : (e : E) (new : A) → outcome (Err e) new → new ≡ old

  pub ok-fair : {X : Type 0} (x : X) (new : A) → IsFair (gives (Ok x) new)
  ok-fair x new = record { some = (Ok x, new, (refl, refl), tt); refused = λ e n h. cc }

  pub err-fair : {X : Type 0} (e : E) → may e → IsFair {X = X} (gives (Err e) old)
  err-fair e m = record { some = (Err e, old, (refl, refl), m); refused = λ e n h. h.1 }

  module _ {X : Type 0} where
    pub either-fair : (test : Bool) {one other : Outcome (Result X E) A} → (test ≡ true → IsFair one) → IsFair other
        → IsFair (λ r new. MatchBool test (one r new) (other r new))
    either-fair true a b = a refl
    either-fair false a b = b

    pub refuse-fair : (test : Bool) (e : E) → may e → {otherwise : Outcome (Result X E) A} → IsFair otherwise
        → IsFair (refuse old test (Err e) otherwise)
    refuse-fair true e m w = err-fair e m
    refuse-fair false e m w = w

    pub refuse_none-fair : {Y : Type 0} (o : Option Y) (e : E) → may e → {otherwise : Y → Outcome (Result X E) A}
        → ((y : Y) → IsFair (otherwise y)) → IsFair (refuse_none old o (Err e) otherwise)
    refuse_none-fair None e m w = err-fair e m
    refuse_none-fair (Some y) e m w = w y

-- ---- changes of a table, as rules of calls
abbrev pub of_table : Refusal → Type 0
of_table refusal.Memory = ⊥
of_table _ = Unit {0}

module _ {X : Type 0} (answer : X → Reply) where
  replied : (r : Result X Refusal) → Fair of_table r → (reply : Reply) × ChangeResultToReply answer r reply
  replied (Ok x) m = (answer x, refl)
  replied (Err refusal.Badarg) m = (Badarg, refl)
  replied (Err refusal.SystemLimit) m = (SystemLimit, refl)
  replied (Err refusal.Memory) m = absurd m

  module _ (valued : (x : X) → is_value (answer x) ≡ true) (change : TableState → Outcome (Result X Refusal) TableState) (old : TableState) (fair : IsFair of_table old (change old)) where
    replied-refused : (r : Result X Refusal) (reply : Reply) (new : TableState) → change old r new → ChangeResultToReply answer r reply → is_value reply ≡ false → new ≡ old
    replied-refused (Ok x) reply new h e f = contrary reply (answer x) e (valued x) f
    replied-refused (Err why) reply new h e f = fair.refused why new h

    pub replies-whole : (P : Type 0) → IsWhole old P (replies answer change old)
    replies-whole P = record {
      some = λ p. let s = fair.some in let a = replied s.0 s.3 in (a.0, s.1, (s.0, s.2, a.1));
      refused = λ reply new h f. replied-refused h.0 reply new h.1 h.2 f;
    }

-- ---- changes of the world
abbrev pub of_world : WorldFault → Type 0
of_world fault.Memory = ⊥
of_world _ = Unit {0}

module _ {X : Type 0} (answer : X → Reply) where
  pub world_replied : (r : Result X WorldFault) → Fair of_world r → (reply : Reply) × WorldResultToReply answer r reply
  world_replied (Ok x) m = (answer x, refl)
  world_replied (Err fault.Badarg) m = (Badarg, refl)
  world_replied (Err fault.SystemLimit) m = (SystemLimit, refl)
  world_replied (Err fault.NoProcess) m = (NoProcess, refl)
  world_replied (Err fault.Memory) m = absurd m
