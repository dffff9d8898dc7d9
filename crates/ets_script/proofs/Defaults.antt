-- An argument that has a default has a value, and is read as its parser says.
use Rattle.std.proofs.Common.{zero, suc, ◌≡◌, ◌∙◌, subst, ◌<◌, ◌≤◌, ap, ℕ, Bool, true, false, List, [], ◌∷◌, length, is_some, Option, Some, None, refl, sym, inl, inr, arith}
use Rattle.std.specs.List.{All, slice_index_or}
use Rattle.std.specs.Str.{bytes_eq}
use Rattle.std.specs.Prelude.{find, option_map, slice_get}
use Rattle.std.specs.Borrow.{Bor}
use Rattle.std.proofs.lemmas.List.Elements.{All-get_or}
use Rattle.std.proofs.lemmas.Slice.Eq.{bytes_eq-Decides}
use Rattle.clap.specs.Facts.{Entry, EntryPasses, HasIn, PassesArg, WantsDefault, args_of, groups_of, least_values, parser_of, parser_of_value}
use Rattle.clap.specs.Built.{IsPlain, IsParsedFrom, IsAuto, SameRules}
use Rattle.clap.specs.Matches.{matched_of, one_text, found_of}
use Rattle.clap.specs.Values.{Accepts, read_as, reading_of}
use Rattle.clap.specs.declared.builder.action.ArgAction.TheVariants.{Count, Set}
use Rattle.clap.specs.declared.builder.arg.Arg.{Arg}
use Rattle.clap.specs.declared.builder.command.Command.{Command}
use Rattle.clap.specs.declared.builder.command.Command.TheViews.{out-Command}
use Rattle.clap.specs.declared.builder.value_parser.Reading.{Reading}
use Rattle.clap.specs.declared.builder.value_parser.ValueParser.{ValueParser}
use Rattle.clap.specs.declared.parser.matches.ArgMatches.{ArgMatches}
use Rattle.clap.specs.declared.parser.matches.Found.{Found}
use Rattle.clap.specs.declared.parser.matches.MatchedArg.{MatchedArg}
use Rattle.clap.proofs.CallerLemmas.{default_present, entry_by_id, same_rules_by_id}

-- an entry that is there is found
found-entry : (xs : List Entry) (id : List ℕ) → HasIn xs id → is_some (option_map (λ e. e.1) (find (λ e. bytes_eq e.0.now id) xs)) ≡ true
found-entry [] id h = absurd (omega (arith, h.1))
found-entry (x ∷ xs) id h = go (bytes_eq x.0.now id) refl h.0 h.1 h.2 (λ n. found-entry xs id n)
  where
    go : (t : Bool) → bytes_eq x.0.now id ≡ t → (i : ℕ) → i < length (x ∷ xs) → ((d : Entry) → bytes_eq (slice_index_or (x ∷ xs) i d).0.now id ≡ true)
        → (HasIn xs id → is_some (option_map (λ e. e.1) (find (λ e. bytes_eq e.0.now id) xs)) ≡ true)
        → is_some (option_map (λ e. e.1) (find (λ e. bytes_eq e.0.now id) (x ∷ xs))) ≡ true
    go true t i lt at rest = rw t refl
    go false t zero lt at rest =
        let bad : false ≡ true = rw t at (at x) in
        cc
    go false t (suc i) lt at rest = rw t (rest (i, omega arith, at))

-- the first of values that all pass, as it is read
first-read : (P : Bor (List ℕ) → Type 0) (how : Reading) (vs : List (Bor (List ℕ))) → All P vs → 0 < length vs
    → (v : Bor (List ℕ)) × (option_map (λ s. read_as how s.now) (slice_get vs 0) ≡ Some (read_as how v.now)) × P v
first-read P how [] h lt = absurd (omega arith)
first-read P how (v ∷ vs) h lt = (v, refl, All-get_or P (v ∷ vs) 0 v (omega arith) h)

accepted : (a b : Arg) (q : ValueParser) (t : List ℕ) → SameRules a b → a.value_parser ≡ Some q → Accepts b.ignore_case (parser_of b) t → Accepts a.ignore_case q t
accepted a b q t s parser read =
    let is_q : parser_of b ≡ q = ap parser_of_value (s.parser q parser) in
    let as_q : Accepts b.ignore_case q t = subst (λ (w : ValueParser). Accepts b.ignore_case w t) is_q read in
    subst (λ (c : Bool). Accepts c q t) s.ignore_case as_q

one-text-at : (f : Found) (id : List ℕ) (x : MatchedArg) (how : Reading) (t : List ℕ) → matched_of f id ≡ Some x → x.reading ≡ how
    → option_map (λ s. read_as how s.now) (slice_get x.vals.items 0) ≡ Some t → one_text f id ≡ Some t
one-text-at f id x how t found is v = rw (found, is) v

-- Where nothing excludes anything, an argument of the caller's that has a default, and of which each use has a value, has
-- a text that passed its parser.
module _ (old : Command) (m : ArgMatches) (p : IsParsedFrom old m) (plain : IsPlain old) (globals : (out-Command old).has_globals ≡ false)
    (k : ℕ) (d : Arg) (lt : k < length (args_of old)) (wants : WantsDefault (slice_index_or (args_of old) k d))
    (set : (slice_index_or (args_of old) k d).action ≡ Some Set) (delim : (slice_index_or (args_of old) k d).val_delim ≡ None)
    (least : 1 ≤ least_values (slice_index_or (args_of old) k d))
    (unique : (j : ℕ) (e : Arg) → j < length (args_of old) → bytes_eq (slice_index_or (args_of old) j e).id.now (slice_index_or (args_of old) k d).id.now ≡ true → j ≡ k)
    (named : (slice_index_or (args_of old) k d).id.now ≡ [] → ⊥) (own : IsAuto (slice_index_or (args_of old) k d) → ⊥)
    (q : ValueParser) (parser : (slice_index_or (args_of old) k d).value_parser ≡ Some q) where
  abbrev arg : Arg
  arg = slice_index_or (args_of old) k d

  abbrev id : List ℕ
  id = arg.id.now

  -- an argument of the built command with this id is the caller's
  same : (j : ℕ) (x : Arg) → j < length (args_of p.built) → slice_index_or (args_of p.built) j x ≡ x → bytes_eq x.id.now id ≡ true → SameRules arg x
  same = same_rules_by_id old m p k d lt unique own

  no_groups : groups_of p.built ≡ []
  no_groups = (p.from.plain plain).1

  -- the entry is not one of a group
  no_group : (e : Entry) → e.0.now ≡ id → EntryPasses p.built e → e.1.is_group ≡ true → ⊥
  no_group e key pass group = elim (pass.3 group) [
    | inl empty ↦ named (sym key ∙ empty)
    | inr lots ↦
        let bad : 0 < 0 = rw no_groups at lots in
        absurd (omega arith)
  ]

  has_values : (e : Entry) → e.0.now ≡ id → EntryPasses p.built e → 0 < length e.1.vals.items
  has_values e key pass = elim pass.1 [
    | inl h ↦ absurd (no_group e key pass h.0)
    | inr (inl v) ↦ v
    | inr (inr (inl h)) ↦
        let any = h.1 in
        let is_set : any.1.action ≡ Some Set = (same any.0 any.1 any.2 any.3 (rw key at any.4.0)).action Set set in
        let bad : Set ≡ Count = rw is_set at any.4.1 in
        cc
    | inr (inr (inr h)) ↦
        let s = same h.0 h.1 h.2 h.3 (rw key at h.4.0) in
        elim h.4.1 [
          | inl none ↦
              let one = s.least set least in
              absurd (omega arith)
          | inr has ↦
              let bad : false ≡ true = rw (s.val_delim, delim) at has in
              cc
        ]
  ]

  values_pass : (e : Entry) → e.0.now ≡ id → EntryPasses p.built e → All (λ v. PassesArg p.built id v.now) e.1.vals.items
  values_pass e key pass = elim pass.0 [
    | inl g ↦ absurd (no_group e key pass g)
    | inr vals ↦ subst (λ (w : List ℕ). All (λ v. PassesArg p.built w v.now) e.1.vals.items) key vals
  ]

  is_read : (e : Entry) → e.0.now ≡ id → EntryPasses p.built e → e.1.reading ≡ reading_of q
  is_read e key pass = elim pass.4 [
    | inl g ↦ absurd (no_group e key pass g)
    | inr h ↦
        let s = same h.0 h.1 h.2 h.3 (rw key at h.4.0) in
        sym h.4.1 ∙ ap reading_of (ap parser_of_value (s.parser q parser))
  ]

  entry_reads : (e : Entry) → e.0.now ≡ id → EntryPasses p.built e → matched_of (found_of m) id ≡ Some e.1
      → (t : List ℕ) × (one_text (found_of m) id ≡ Some (read_as (reading_of q) t)) × Accepts arg.ignore_case q t
  entry_reads e key pass found =
      let first = first-read (λ v. PassesArg p.built id v.now) (reading_of q) e.1.vals.items (values_pass e key pass) (has_values e key pass) in
      let any = first.2 in (
        first.0.now,
        one-text-at (found_of m) id e.1 (reading_of q) (read_as (reading_of q) first.0.now) found (is_read e key pass) first.1,
        accepted arg any.1 q first.0.now (same any.0 any.1 any.2 any.3 any.4.0) parser any.4.1,
      )

  at_entry : (o : Option MatchedArg) → matched_of (found_of m) id ≡ o → is_some o ≡ true
      → (t : List ℕ) × (one_text (found_of m) id ≡ Some (read_as (reading_of q) t)) × Accepts arg.ignore_case q t
  at_entry None e some = cc
  at_entry (Some x) e some =
      let got = entry_by_id (EntryPasses p.built) (found_of m).entries.items id x (p.parsed (p.from.globals ∙ globals)).values e in
      entry_reads got.0 ((bytes_eq-Decides _ _).0 got.2) got.3 (e ∙ ap (λ (y : MatchedArg). Some y) (sym got.1))

  pub default_reads : (t : List ℕ) × (one_text (found_of m) id ≡ Some (read_as (reading_of q) t)) × Accepts arg.ignore_case q t
  default_reads =
      at_entry (matched_of (found_of m) id) refl (found-entry (found_of m).entries.items id (default_present old m p globals k d lt wants))
