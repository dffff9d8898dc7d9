-- The tombstone log.
use Rattle.std.proofs.Common.{◌≡◌, ◌≢◌, ◌⊎◌, inl, inr, ℕ, Bool, true, false, cond, List, [], ◌∷◌, ◌++◌, length, nat_eq, refl, sym, ap, subst, ◌∙◌}
use Rattle.std.proofs.lemmas.List.Elements.{filter-append}
use Rattle.ets_term.specs.declared.term.Term.{Term}
use Rattle.ets_term.specs.Order.{same}
use Rattle.ets_term.specs.laws.Same.{same-exact}
use Rattle.bucket_table.specs.Slots.{Slot, Enters, has_objects, with_objects, without_tombstones}
use Rattle.bucket_table.specs.Rows.{without}
use Rattle.bucket_table.specs.declared.split.sweep.SweepMode.{SweepMode}
use Rattle.bucket_table.specs.declared.split.sweep.SweepMode.TheVariants.{RemoveTombstones}
use Rattle.bucket_table.specs.inside.Sweeps.{after_sweep}
use Rattle.bucket_table.specs.inside.TombstoneLog.{IsAmong, TombstonesAreAmong, LogsHash}

-- ---- among hashes

pub among-last : (h : ℕ) (hs : List ℕ) → IsAmong h (hs ++ h ∷ [])
among-last h [] = inl refl
among-last h (x ∷ xs) = inr (among-last h xs)

pub among-front : (h x : ℕ) (hs : List ℕ) → IsAmong h hs → IsAmong h (hs ++ x ∷ [])
among-front h x [] a = absurd a
among-front h x (y ∷ ys) (inl e) = inl e
among-front h x (y ∷ ys) (inr a) = inr (among-front h x ys a)

turn-on : (h x y : ℕ) (ys : List ℕ) → (x ≡ h) ⊎ IsAmong h ys → (x ≡ h) ⊎ ((y ≡ h) ⊎ IsAmong h ys)
turn-on h x y ys (inl e) = inl e
turn-on h x y ys (inr a) = inr (inr a)

pub among-turn : (h x : ℕ) (hs : List ℕ) → IsAmong h (hs ++ x ∷ []) → IsAmong h (x ∷ hs)
among-turn h x [] a = a
among-turn h x (y ∷ ys) (inl e) = inr (inl e)
among-turn h x (y ∷ ys) (inr a) = turn-on h x y ys (among-turn h x ys a)

module _ (hash_of : Term → ℕ) where
  pub among-more : (hs more : List ℕ) → ((h : ℕ) → IsAmong h hs → IsAmong h more) → (ss : List Slot) → TombstonesAreAmong hash_of hs ss → TombstonesAreAmong hash_of more ss
  among-more hs more f [] a = tt
  among-more hs more f (s ∷ ss) a = ((λ e. f (hash_of s.0) (a.0 e)), among-more hs more f ss a.1)

  pub among-append : (hs : List ℕ) (xs ys : List Slot) → TombstonesAreAmong hash_of hs xs → TombstonesAreAmong hash_of hs ys → TombstonesAreAmong hash_of hs (xs ++ ys)
  among-append hs [] ys a b = b
  among-append hs (x ∷ xs) ys a b = (a.0, among-append hs xs ys a.1 b)

  pub among-first : (hs : List ℕ) (xs ys : List Slot) → TombstonesAreAmong hash_of hs (xs ++ ys) → TombstonesAreAmong hash_of hs xs
  among-first hs [] ys a = tt
  among-first hs (x ∷ xs) ys a = (a.0, among-first hs xs ys a.1)

  pub among-second : (hs : List ℕ) (xs ys : List Slot) → TombstonesAreAmong hash_of hs (xs ++ ys) → TombstonesAreAmong hash_of hs ys
  among-second hs [] ys a = a
  among-second hs (x ∷ xs) ys a = among-second hs xs ys a.1

  -- ---- through each change

  pub among-entered : (hs : List ℕ) (old new : List Slot) (key : Term) (objects : List Term) → Enters old key objects new → (has_objects objects ≡ false → IsAmong (hash_of key) hs) → TombstonesAreAmong hash_of hs old → TombstonesAreAmong hash_of hs new
  among-entered hs old new key objects e own a =
      let parts : TombstonesAreAmong hash_of hs (e.front ++ e.back) = subst (TombstonesAreAmong hash_of hs) e.before a in
      subst (TombstonesAreAmong hash_of hs) (sym e.after) (among-append hs e.front ((key, objects) ∷ e.back) (among-first hs e.front e.back parts) (own, among-second hs e.front e.back parts))

  without-on : (hs : List ℕ) (key : Term) (s : Slot) (ss : List Slot) (b : Bool) → TombstonesAreAmong hash_of hs (s ∷ ss) → TombstonesAreAmong hash_of hs (without ss key) → TombstonesAreAmong hash_of hs (cond b ss (s ∷ without ss key))
  without-on hs key s ss true a ih = a.1
  without-on hs key s ss false a ih = (a.0, ih)

  pub among-without : (hs : List ℕ) (key : Term) (ss : List Slot) → TombstonesAreAmong hash_of hs ss → TombstonesAreAmong hash_of hs (without ss key)
  among-without hs key [] a = tt
  among-without hs key (s ∷ ss) a = without-on hs key s ss (same key s.0) a (among-without hs key ss a.1)

  with-on : (hs : List ℕ) (key : Term) (w : List Term) (s : Slot) (ss : List Slot) (b : Bool) → same key s.0 ≡ b → (has_objects w ≡ false → IsAmong (hash_of key) hs) → TombstonesAreAmong hash_of hs (s ∷ ss) → TombstonesAreAmong hash_of hs (with_objects ss key w) → TombstonesAreAmong hash_of hs (cond b ((s.0, w) ∷ ss) (s ∷ with_objects ss key w))
  with-on hs key w s ss true e own a ih = let is : key ≡ s.0 = same-exact key s.0 e in ((λ h. subst (λ t. IsAmong (hash_of t) hs) is (own h)), a.1)
  with-on hs key w s ss false e own a ih = (a.0, ih)

  pub among-with : (hs : List ℕ) (key : Term) (w : List Term) (ss : List Slot) → (has_objects w ≡ false → IsAmong (hash_of key) hs) → TombstonesAreAmong hash_of hs ss → TombstonesAreAmong hash_of hs (with_objects ss key w)
  among-with hs key w [] own a = tt
  among-with hs key w (s ∷ ss) own a = with-on hs key w s ss (same key s.0) refl own a (among-with hs key w ss own a.1)

  without_tombstones-on : (hs : List ℕ) (s : Slot) (ss : List Slot) (b : Bool) → has_objects s.1 ≡ b → TombstonesAreAmong hash_of hs (without_tombstones ss) → TombstonesAreAmong hash_of hs (cond b (s ∷ without_tombstones ss) (without_tombstones ss))
  without_tombstones-on hs s ss true e ih = ((λ f. let no : true ≡ false = sym e ∙ f in absurd (cc)), ih)
  without_tombstones-on hs s ss false e ih = ih

  -- After a purge there are no tombstones.
  pub among-purged : (hs : List ℕ) (ss : List Slot) → TombstonesAreAmong hash_of hs (without_tombstones ss)
  among-purged hs [] = tt
  among-purged hs (s ∷ ss) = without_tombstones-on hs s ss (has_objects s.1) refl (among-purged hs ss)

  all-stay : (s : Slot) (ss : List Slot) (b : Bool) → has_objects s.1 ≡ b → (has_objects s.1 ≡ false → ⊥) → without_tombstones ss ≡ ss → cond b (s ∷ without_tombstones ss) (without_tombstones ss) ≡ s ∷ ss
  all-stay s ss true e n ih = ap (λ (zs : List Slot). s ∷ zs) ih
  all-stay s ss false e n ih = absurd (n e)

  -- Without tombstones a purge does nothing.
  pub without_tombstones-none : (ss : List Slot) → TombstonesAreAmong hash_of [] ss → without_tombstones ss ≡ ss
  without_tombstones-none [] a = refl
  without_tombstones-none (s ∷ ss) a = all-stay s ss (has_objects s.1) refl a.0 (without_tombstones-none ss a.1)

  -- ---- one hash

  -- No tombstone has this hash.
  abbrev pub AreNone : ℕ → List Slot → Type 0
  AreNone hash [] = Unit {0}
  AreNone hash (s ∷ ss) = (has_objects s.1 ≡ false → hash_of s.0 ≢ hash) × AreNone hash ss

  pub none-append : (hash : ℕ) (xs ys : List Slot) → AreNone hash xs → AreNone hash ys → AreNone hash (xs ++ ys)
  none-append hash [] ys a b = b
  none-append hash (x ∷ xs) ys a b = (a.0, none-append hash xs ys a.1 b)

  pub none-first : (hash : ℕ) (xs ys : List Slot) → AreNone hash (xs ++ ys) → AreNone hash xs
  none-first hash [] ys a = tt
  none-first hash (x ∷ xs) ys a = (a.0, none-first hash xs ys a.1)

  none-on : (hash : ℕ) (s : Slot) (ss : List Slot) (b : Bool) → has_objects s.1 ≡ b → AreNone hash (without_tombstones ss) → AreNone hash (cond b (s ∷ without_tombstones ss) (without_tombstones ss))
  none-on hash s ss true e ih = ((λ f. let no : true ≡ false = sym e ∙ f in absurd (cc)), ih)
  none-on hash s ss false e ih = ih

  pub none-purged : (hash : ℕ) (ss : List Slot) → AreNone hash (without_tombstones ss)
  none-purged hash [] = tt
  none-purged hash (s ∷ ss) = none-on hash s ss (has_objects s.1) refl (none-purged hash ss)

  other : (hash own : ℕ) (hs : List ℕ) → own ≢ hash → IsAmong own (hash ∷ hs) → IsAmong own hs
  other hash own hs n (inl e) = absurd (n (sym e))
  other hash own hs n (inr a) = a

  pub among-others : (hash : ℕ) (hs : List ℕ) (ss : List Slot) → AreNone hash ss → TombstonesAreAmong hash_of (hash ∷ hs) ss → TombstonesAreAmong hash_of hs ss
  among-others hash hs [] n a = tt
  among-others hash hs (s ∷ ss) n a = ((λ e. other hash (hash_of s.0) hs (n.0 e) (a.0 e)), among-others hash hs ss n.1 a.1)

again-on : (s : Slot) (ss : List Slot) (b : Bool) → has_objects s.1 ≡ b → without_tombstones (without_tombstones ss) ≡ without_tombstones ss → without_tombstones (cond b (s ∷ without_tombstones ss) (without_tombstones ss)) ≡ cond b (s ∷ without_tombstones ss) (without_tombstones ss)
again-on s ss true e ih = ap (λ (b : Bool). cond b (s ∷ without_tombstones (without_tombstones ss)) (without_tombstones (without_tombstones ss))) e ∙ ap (λ (zs : List Slot). s ∷ zs) ih
again-on s ss false e ih = ih

pub without_tombstones-again : (ss : List Slot) → without_tombstones (without_tombstones ss) ≡ without_tombstones ss
without_tombstones-again [] = refl
without_tombstones-again (s ∷ ss) = again-on s ss (has_objects s.1) refl (without_tombstones-again ss)

pub without_tombstones-parts : (xs ys : List Slot) → without_tombstones (xs ++ without_tombstones ys) ≡ without_tombstones (xs ++ ys)
without_tombstones-parts xs ys = filter-append (λ slot. has_objects slot.1) xs (without_tombstones ys) ∙ (ap (λ (zs : List Slot). without_tombstones xs ++ zs) (without_tombstones-again ys) ∙ sym (filter-append (λ slot. has_objects slot.1) xs ys))

pub among-swept : (hash_of : Term → ℕ) (hs : List ℕ) (mode : SweepMode) (ss : List Slot) → mode ≡ RemoveTombstones → TombstonesAreAmong hash_of hs (after_sweep mode ss)
among-swept hash_of hs mode ss e = subst (λ mode. TombstonesAreAmong hash_of hs (after_sweep mode ss)) (sym e) (among-purged hash_of hs ss)

-- The length of a chain shows whether it has objects.
pub tombstone-counted : (chain : List Term) (n : ℕ) → n ≡ length chain → has_objects chain ≡ false → nat_eq n 0 ≡ true
tombstone-counted [] n e h = ap (λ (z : ℕ). nat_eq z 0) e
tombstone-counted (x ∷ xs) n e h = absurd (cc)

-- The log after a hash was logged.
pub among-marked : (hash_of : Term → ℕ) (is_tombstone : Bool) (hash : ℕ) (had_overflowed : Bool) (old : List ℕ) (overflowed : Bool) (new : List ℕ) (ss : List Slot) → LogsHash is_tombstone hash had_overflowed old overflowed new → (had_overflowed ≡ false → TombstonesAreAmong hash_of old ss) → overflowed ≡ false → TombstonesAreAmong hash_of new ss
among-marked hash_of is_tombstone hash had_overflowed old overflowed new ss n a kept = let m = n kept in among-more hash_of old new m.1 ss (a m.0)
