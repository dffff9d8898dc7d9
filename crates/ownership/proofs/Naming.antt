-- The index by name: what it finds, and that each change of the tables preserves it.
use Rattle.std.proofs.Common.{◌≡◌, ◌≢◌, ℕ, ◌<◌, ◌≤◌, ◌&&◌, ◌⊎◌, Bool, true, false, cond, List, [], ◌∷◌, ◌++◌, Option, None, Some, refl, sym, ap, ◌∙◌, length, set, arith, inl, inr, true≢false, length-append}
use Rattle.std.specs.Prelude.{◌↔◌}
use Rattle.std.specs.Str.{bytes_eq}
use Rattle.std.proofs.lemmas.Bool.{cases_lt, cases_eq}
use Rattle.std.proofs.lemmas.List.{get_or_past, get_or_append_left, get_or-set_same, get_or-set_other}
use Rattle.std.proofs.Math.Seq.{get_or-append_seam}
use Rattle.std.proofs.lemmas.List.Quantifiers.{position-Some}
use Rattle.std.proofs.lemmas.Slice.Eq.{bytes_eq-Decides}
use Rattle.ownership.specs.declared.metadata.Metadata.{Metadata}
use Rattle.ownership.specs.World.{is_named}
use Rattle.ownership.specs.inside.Names.{metadata_at, find_named, NameIndexIsExact}
use Rattle.ownership.proofs.Places.{position-None}

-- one place has changed
pub record ChangesAt (place : ℕ) (now : Option Metadata) (old new : List (Option Metadata)) : Type 0 where
  pub here : metadata_at new place ≡ now
  pub there : (t : ℕ) → t ≢ place → metadata_at new t ≡ metadata_at old t

pub none_past : (tables : List (Option Metadata)) (t : ℕ) → length tables ≤ t → metadata_at tables t ≡ None
none_past tables t past = get_or_past tables t None past

pub pushed : (tables : List (Option Metadata)) (now : Option Metadata) → ChangesAt (length tables) now tables (tables ++ now ∷ [])
pushed tables now = record {
  here = get_or-append_seam tables now [] None;
  there = λ t other. by t other (cases_lt t (length tables));
}
  where
    by : (t : ℕ) → t ≢ length tables → (t < length tables) ⊎ (length tables ≤ t) → metadata_at (tables ++ now ∷ []) t ≡ metadata_at tables t
    by t other (inl within) = get_or_append_left tables (now ∷ []) None t within
    by t other (inr past) =
        let beyond : length (tables ++ now ∷ []) ≤ t = omega (arith, length-append {A = Option Metadata}) in
        none_past (tables ++ now ∷ []) t beyond ∙ sym (none_past tables t past)

pub written : (tables : List (Option Metadata)) (place : ℕ) (now : Option Metadata) → place < length tables → ChangesAt place now tables (set tables place now)
written tables place now within = record {
  here = get_or-set_same tables place now None within;
  there = λ t other. get_or-set_other tables place t now None other;
}

-- a table has a place
pub is_within : (tables : List (Option Metadata)) (t : ℕ) (metadata : Metadata) → metadata_at tables t ≡ Some metadata → t < length tables
is_within tables t metadata at = elim (cases_lt t (length tables)) [
  | inl within ↦ within
  | inr past ↦ let none = none_past tables t past in absurd (cc (none, at))
]

at_eq : (name own : List ℕ) (named : Bool) → (named && bytes_eq name own) ≡ true → (named ≡ true) × (name ≡ own)
at_eq name own true e = (refl, (bytes_eq-Decides name own).0 e)
at_eq name own false e = cc

-- the index by name finds the table that the name means
pub name-found : (names : List ℕ → Option ℕ) (tables : List (Option Metadata)) → NameIndexIsExact names tables → (name : List ℕ) → names name ≡ find_named tables name
name-found names tables index name = by (names name) (find_named tables name) refl refl
  where
    by : (o w : Option ℕ) → names name ≡ o → find_named tables name ≡ w → o ≡ w
    by None None e f = refl
    by None (Some i) e f =
        let named = (position-Some (is_named name) tables i None f).1 in
        let found = (index name i).1 named in
        cc
    by (Some t) None e f =
        let named : is_named name (metadata_at tables t) ≡ true = (index name t).0 e in
        elim (cases_lt t (length tables)) [
          | inl within ↦ absurd (true≢false (sym named ∙ position-None (is_named name) tables t None f within))
          | inr past ↦ absurd (true≢false (sym named ∙ ap (is_named name) (none_past tables t past)))
        ]
    by (Some t) (Some i) e f =
        let found = (index name i).1 (position-Some (is_named name) tables i None f).1 in
        cc

module _ (names : List ℕ → Option ℕ) (old new : List (Option Metadata)) (place : ℕ) (now : Option Metadata) (index : NameIndexIsExact names old) (change : ChangesAt place now old new) where
  -- a change of a table that keeps its name
  pub names_kept : ((name : List ℕ) → is_named name now ≡ is_named name (metadata_at old place)) → NameIndexIsExact names new
  names_kept same name t =
      let as_before : is_named name (metadata_at new t) ≡ is_named name (metadata_at old t) = by (cases_eq t place) in
      ((λ found. as_before ∙ (index name t).0 found), (λ named. (index name t).1 (sym as_before ∙ named)))
    where
      by : (t ≡ place) ⊎ (t ≡ place → ⊥) → is_named name (metadata_at new t) ≡ is_named name (metadata_at old t)
      by (inl here) = ap (λ i. is_named name (metadata_at new i)) here ∙ ap (is_named name) change.here ∙ same name ∙ ap (λ i. is_named name (metadata_at old i)) (sym here)
      by (inr other) = ap (is_named name) (change.there t other)

-- a table more with a free name
module _ (names after : List ℕ → Option ℕ) (old new : List (Option Metadata)) (table : Metadata) (index : NameIndexIsExact names old) (change : ChangesAt (length old) (Some table) old new)
    (named : table.named ≡ true) (free : names table.name ≡ None) (updated : (q : List ℕ) → after q ≡ cond (bytes_eq table.name q) (Some (length old)) (names q)) where
  more_at : (q : List ℕ) (t : ℕ) (b : Bool) → bytes_eq table.name q ≡ b → (t ≡ length old) ⊎ (t ≡ length old → ⊥) → (after q ≡ Some t) ↔ (is_named q (metadata_at new t) ≡ true)
  more_at q t true same (inl here) =
      let q_is : table.name ≡ q = (bytes_eq-Decides table.name q).0 same in (
        (λ _. ap (λ i. is_named q (metadata_at new i)) here ∙ ap (is_named q) change.here ∙ ap (λ n. n && bytes_eq q table.name) named ∙ (bytes_eq-Decides q table.name).1 (sym q_is)),
        (λ _. updated q ∙ ap (λ b. cond b (Some (length old)) (names q)) same ∙ ap Some (sym here)),
      )
  more_at q t true same (inr other) =
      let q_is : table.name ≡ q = (bytes_eq-Decides table.name q).0 same in
      let now_is : after q ≡ Some (length old) = updated q ∙ ap (λ b. cond b (Some (length old)) (names q)) same in (
        (λ found. let e : Some t ≡ Some (length old) = sym found ∙ now_is in absurd (other (cc))),
        (λ is. let found : names q ≡ Some t = (index q t).1 (ap (is_named q) (sym (change.there t other)) ∙ is) in let none : names q ≡ None = ap names (sym q_is) ∙ free in cc),
      )
  more_at q t false differs (inl here) =
      let now_is : after q ≡ names q = updated q ∙ ap (λ b. cond b (Some (length old)) (names q)) differs in (
        (λ found. let is = (index q t).0 (sym now_is ∙ found) in absurd (true≢false (sym is ∙ ap (λ i. is_named q (metadata_at old i)) here ∙ ap (is_named q) (none_past old (length old) (omega arith))))),
        (λ is. let both = at_eq q table.name table.named (sym (ap (is_named q) change.here) ∙ ap (λ i. is_named q (metadata_at new i)) (sym here) ∙ is) in
            absurd (true≢false (sym ((bytes_eq-Decides table.name q).1 (sym both.1)) ∙ differs))),
      )
  more_at q t false differs (inr other) =
      let now_is : after q ≡ names q = updated q ∙ ap (λ b. cond b (Some (length old)) (names q)) differs in (
        (λ found. ap (is_named q) (change.there t other) ∙ (index q t).0 (sym now_is ∙ found)),
        (λ is. now_is ∙ (index q t).1 (ap (is_named q) (sym (change.there t other)) ∙ is)),
      )

  pub named_more : NameIndexIsExact after new
  named_more q t = more_at q t (bytes_eq table.name q) refl (cases_eq t (length old))

-- a named table less
module _ (names after : List ℕ → Option ℕ) (old new : List (Option Metadata)) (place : ℕ) (table : Metadata) (index : NameIndexIsExact names old) (was : metadata_at old place ≡ Some table) (change : ChangesAt place None old new)
    (named : table.named ≡ true) (updated : (q : List ℕ) → after q ≡ cond (bytes_eq table.name q) None (names q)) where
  led : names table.name ≡ Some place
  led = (index table.name place).1 (ap (is_named table.name) was ∙ ap (λ n. n && bytes_eq table.name table.name) named ∙ (bytes_eq-Decides table.name table.name).1 refl)

  less_at : (q : List ℕ) (t : ℕ) (b : Bool) → bytes_eq table.name q ≡ b → (t ≡ place) ⊎ (t ≡ place → ⊥) → (after q ≡ Some t) ↔ (is_named q (metadata_at new t) ≡ true)
  less_at q t true same (inl here) =
      let now_is : after q ≡ None = updated q ∙ ap (λ b. cond b None (names q)) same in (
        (λ found. let e : Some t ≡ None = sym found ∙ now_is in cc),
        (λ is. absurd (true≢false (sym is ∙ ap (λ i. is_named q (metadata_at new i)) here ∙ ap (is_named q) change.here))),
      )
  less_at q t true same (inr other) =
      let q_is : table.name ≡ q = (bytes_eq-Decides table.name q).0 same in
      let now_is : after q ≡ None = updated q ∙ ap (λ b. cond b None (names q)) same in (
        (λ found. let e : Some t ≡ None = sym found ∙ now_is in cc),
        (λ is. let found : names q ≡ Some t = (index q t).1 (ap (is_named q) (sym (change.there t other)) ∙ is) in
            let e : Some t ≡ Some place = sym found ∙ ap names (sym q_is) ∙ led in absurd (other (cc))),
      )
  less_at q t false differs (inl here) =
      let now_is : after q ≡ names q = updated q ∙ ap (λ b. cond b None (names q)) differs in (
        (λ found. let is = (index q t).0 (sym now_is ∙ found) in
            let both = at_eq q table.name table.named (sym (ap (is_named q) was) ∙ ap (λ i. is_named q (metadata_at old i)) (sym here) ∙ is) in
            absurd (true≢false (sym ((bytes_eq-Decides table.name q).1 (sym both.1)) ∙ differs))),
        (λ is. absurd (true≢false (sym is ∙ ap (λ i. is_named q (metadata_at new i)) here ∙ ap (is_named q) change.here))),
      )
  less_at q t false differs (inr other) =
      let now_is : after q ≡ names q = updated q ∙ ap (λ b. cond b None (names q)) differs in (
        (λ found. ap (is_named q) (change.there t other) ∙ (index q t).0 (sym now_is ∙ found)),
        (λ is. now_is ∙ (index q t).1 (ap (is_named q) (sym (change.there t other)) ∙ is)),
      )

  pub named_less : NameIndexIsExact after new
  named_less q t = less_at q t (bytes_eq table.name q) refl (cases_eq t place)
