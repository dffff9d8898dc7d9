-- A message that is removed again leaves the processes as they were.
use Rattle.std.proofs.Common.{◌≡◌, ℕ, ◌==◌, Bool, true, false, cond, List, [], ◌∷◌, ◌++◌, Option, None, Some, refl, sym, ap, ◌∙◌}
use Rattle.std.specs.Option.{option_map_or}
use Rattle.std.specs.Prelude.{MatchOption}
use Rattle.std.specs.Map.{lookup, set_value}
use Rattle.ets_term.specs.declared.term.Term.{Term}
use Rattle.ownership.specs.declared.process.Process.{Process}
use Rattle.ownership.specs.World.{process_at}
use Rattle.ownership.specs.Messages.{with_message, push_message}

module _ {K X : Type 0} (t : K → Bool) where
  twice_at : (b : Bool) (e : K × X) (es : List (K × X)) (v w : X) → set_value t (set_value t es v) w ≡ set_value t es w → t e.0 ≡ b → set_value t (cond b ((e.0, v) ∷ es) (e ∷ set_value t es v)) w ≡ cond b ((e.0, w) ∷ es) (e ∷ set_value t es w)
  twice_at true e es v w ih at = rw at
  twice_at false e es v w ih at = rw at (ap (λ l. e ∷ l) ih)

  pub set_value-twice : (es : List (K × X)) (v w : X) → set_value t (set_value t es v) w ≡ set_value t es w
  set_value-twice [] v w = refl
  set_value-twice (e ∷ es) v w = twice_at (t e.0) e es v w (set_value-twice es v w) refl

  same_at : (b : Bool) (e : K × X) (es : List (K × X)) (v : X) → (lookup t es ≡ Some v → set_value t es v ≡ es) → cond b (Some e.1) (lookup t es) ≡ Some v → cond b ((e.0, v) ∷ es) (e ∷ set_value t es v) ≡ e ∷ es
  same_at true e es v ih h = let e1 : e.1 ≡ v = cc in λ i. (e.0, sym e1 i) ∷ es
  same_at false e es v ih h = ap (λ l. e ∷ l) (ih h)

  pub set_value-same : (es : List (K × X)) (v : X) → lookup t es ≡ Some v → set_value t es v ≡ es
  set_value-same [] v h = cc
  set_value-same (e ∷ es) v h = same_at (t e.0) e es v (set_value-same es v) h

  read_at : (b : Bool) (e : K × X) (es : List (K × X)) (v w : X) → (lookup t es ≡ Some v → lookup t (set_value t es w) ≡ Some w) → t e.0 ≡ b → cond b (Some e.1) (lookup t es) ≡ Some v → lookup t (cond b ((e.0, w) ∷ es) (e ∷ set_value t es w)) ≡ Some w
  read_at true e es v w ih at h = rw at
  read_at false e es v w ih at h = rw at (ih h)

  pub lookup-set_value : (es : List (K × X)) (v w : X) → lookup t es ≡ Some v → lookup t (set_value t es w) ≡ Some w
  lookup-set_value [] v w h = cc
  lookup-set_value (e ∷ es) v w h = read_at (t e.0) e es v w (lookup-set_value es v w) refl h

push_message-is : (before : List (ℕ × Process)) (p : ℕ) (message : Term) (process : Process) → process_at before p ≡ Some process → push_message before p message ≡ set_value (λ q. p == q) before (with_message process message)
push_message-is before p message process e = ap (λ o. option_map_or (λ own. set_value (λ q. p == q) before (with_message own message)) o before) e

push_message-none : (before : List (ℕ × Process)) (p : ℕ) (message : Term) → process_at before p ≡ None → push_message before p message ≡ before
push_message-none before p message e = ap (λ o. option_map_or (λ own. set_value (λ q. p == q) before (with_message own message)) o before) e

-- a process with one more message, without its last one, is the process before
taken_at : (o : Option Process) (before now new : List (ℕ × Process)) (p : ℕ) (message : Term) (own left : Process) → process_at before p ≡ o → now ≡ push_message before p message → process_at now p ≡ Some own
    → ((mailbox : List Term) (lives : Bool) → own ≡ record { lives = lives; mailbox = mailbox ++ message ∷ [] } → left ≡ record { lives = lives; mailbox = mailbox }) → new ≡ set_value (λ q. p == q) now left → new ≡ before
taken_at None before now new p message own left e after_transfers there took is =
    let same : now ≡ before = after_transfers ∙ push_message-none before p message e in
    let none : process_at now p ≡ None = ap (λ ps. process_at ps p) same ∙ e in
    absurd (cc (none, there))
taken_at (Some process) before now new p message own left e after_transfers there took is =
    let set : now ≡ set_value (λ q. p == q) before (with_message process message) = after_transfers ∙ push_message-is before p message process e in
    let found : process_at now p ≡ Some (with_message process message) = ap (λ ps. process_at ps p) set ∙ lookup-set_value (λ q. p == q) before process (with_message process message) e in
    let own_is : own ≡ with_message process message = cc (found, there) in
    let left_is : left ≡ process = took process.mailbox process.lives own_is in
    is ∙ ap (λ ps. set_value (λ q. p == q) ps left) set ∙ set_value-twice (λ q. p == q) before (with_message process message) left ∙ ap (set_value (λ q. p == q) before) left_is
    ∙ set_value-same (λ q. p == q) before process e

pub taken : (before now new : List (ℕ × Process)) (p : ℕ) (message : Term) (own left : Process) → now ≡ push_message before p message → process_at now p ≡ Some own
    → ((mailbox : List Term) (lives : Bool) → own ≡ record { lives = lives; mailbox = mailbox ++ message ∷ [] } → left ≡ record { lives = lives; mailbox = mailbox }) → new ≡ set_value (λ q. p == q) now left → new ≡ before
taken before now new p message own left after_transfers there took is = taken_at (process_at before p) before now new p message own left refl after_transfers there took is

-- if the process does not exist, nothing was posted
absent_at : (o : Option Process) (before now : List (ℕ × Process)) (p : ℕ) (message : Term) → process_at before p ≡ o → now ≡ push_message before p message → process_at now p ≡ None → now ≡ before
absent_at None before now p message e after_transfers none = after_transfers ∙ push_message-none before p message e
absent_at (Some process) before now p message e after_transfers none =
    let set : now ≡ set_value (λ q. p == q) before (with_message process message) = after_transfers ∙ push_message-is before p message process e in
    let found : process_at now p ≡ Some (with_message process message) = ap (λ ps. process_at ps p) set ∙ lookup-set_value (λ q. p == q) before process (with_message process message) e in
    absurd (cc (found, none))

pub absent : (before now : List (ℕ × Process)) (p : ℕ) (message : Term) → now ≡ push_message before p message → process_at now p ≡ None → now ≡ before
absent before now p message after_transfers none = absent_at (process_at before p) before now p message refl after_transfers none

no-empty : (xs : List Term) (x : Term) → xs ++ x ∷ [] ≡ [] → ⊥
no-empty [] x e = cc
no-empty (y ∷ xs) x e = cc

init-same : (xs ys : List Term) (x y : Term) → xs ++ x ∷ [] ≡ ys ++ y ∷ [] → xs ≡ ys
init-same [] [] x y e = refl
init-same [] (b ∷ ys) x y e = let rest : ys ++ y ∷ [] ≡ [] = cc in absurd (no-empty ys y rest)
init-same (a ∷ xs) [] x y e = let rest : xs ++ x ∷ [] ≡ [] = cc in absurd (no-empty xs x rest)
init-same (a ∷ xs) (b ∷ ys) x y e =
    let first : a ≡ b = cc in
    let rest : xs ++ x ∷ [] ≡ ys ++ y ∷ [] = cc in
    let same = init-same xs ys x y rest in
    λ i. first i ∷ same i

-- what `pop` leaves of a mailbox with one more message
pub popped : (o : Option Term) (old new mailbox : List Term) (message : Term) → MatchOption o ((old ≡ []) × (new ≡ [])) (λ last. old ≡ new ++ last ∷ []) → old ≡ mailbox ++ message ∷ [] → new ≡ mailbox
popped None old new mailbox message p e = absurd (no-empty mailbox message (sym e ∙ p.0))
popped (Some last) old new mailbox message p e = init-same new mailbox last message (sym p ∙ e)
