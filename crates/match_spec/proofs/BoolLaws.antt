-- Booleans and options by cases.
use Rattle.std.proofs.Common.{◌≡◌, ◌&&◌, ◌||◌, Bool, true, false, Option, Some, None, is_some, refl}
use Rattle.std.specs.Prelude.{Result, Ok, Err, IfOk}

pub both-true : (a b : Bool) → (a && b) ≡ true → (a ≡ true) × (b ≡ true)
both-true true b h = (refl, h)
both-true false b h = cc

pub or_assoc : (a b c : Bool) → (a || (b || c)) ≡ ((a || b) || c)
or_assoc true b c = refl
or_assoc false b c = refl

pub or-left : (a b : Bool) → a ≡ true → (a || b) ≡ true
or-left a b h = rw h refl

pub or-right : (a b : Bool) → b ≡ true → (a || b) ≡ true
or-right true b h = refl
or-right false b h = h

pub or-cases : (a b a' b' : Bool) → (a || b) ≡ true → (a ≡ true → a' ≡ true) → (b ≡ true → b' ≡ true) → (a' || b') ≡ true
or-cases true b a' b' h f g = or-left a' b' (f refl)
or-cases false b a' b' h f g = or-right a' b' (g h)

pub clash : {x : Bool} → x ≡ true → x ≡ false → ⊥
clash h e = cc

pub same_Some : {X : Type 0} {x y : X} → Some x ≡ Some y → x ≡ y
same_Some h = cc

pub None-Some : {X : Type 0} {x : X} → None ≡ Some x → ⊥
None-Some h = cc

pub none-is_some : {X : Type 0} (o : Option X) → o ≡ None → is_some o ≡ true → ⊥
none-is_some None e h = cc
none-is_some (Some x) e h = cc

-- what follows from a fact about the value of an `Ok`
pub IfOk-map : {T E : Type 0} (r : Result T E) (P Q : T → Type 0) → ((x : T) → P x → Q x) → IfOk r P → IfOk r Q
IfOk-map (Ok x) P Q f h = f x h
IfOk-map (Err e) P Q f h = h
