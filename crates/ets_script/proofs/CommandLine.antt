-- What holds of the command line's words.
use Rattle.std.proofs.Common.{zero, suc, ◌≡◌, ◌∙◌, ◌&&◌, ◌<◌, ◌≤◌, not, sym, ap, ap₂, subst, refl, inl, inr, arith, ℕ, Bool, true, false, List, [], ◌∷◌, length, map, codes, Option, Some, None, Result, Ok, Err, is_some}
use Rattle.std.specs.List.{All, list_all, slice_index_or}
use Rattle.std.specs.Result.{IsErrAnd, IfOk}
use Rattle.std.specs.Prelude.{pos}
use Rattle.std.specs.Borrow.{Bor}
use Rattle.std.specs.Str.{bytes_eq}
use Rattle.std.proofs.lemmas.Bool.{and_parts}
use Rattle.std.proofs.lemmas.List.{get_or-map}
use Rattle.clap.specs.Built.{AddsArg, IsAuto, IsParsedFrom, IsPlain, IsPlainArg}
use Rattle.clap.specs.Facts.{args_of, groups_of, least_values, unwrap_or_range}
use Rattle.clap.specs.Simple.{app_of_fields, has_plain_fields, has_simple_rules, with_rule}
use Rattle.clap.specs.Texts.{items_of}
use Rattle.clap.specs.Walk.{is_empty, is_free_arg, is_simple_arg}
use Rattle.clap.specs.Words.{App, FailsBy, HasKind, HasMatchesOf, Rule, Shape, Text, app_of, fault_of, found_of, is_simple, is_simple_and_free, kind_of, matches_of, rows_of, rule_of}
use Rattle.clap.specs.Kinds.{Kinds, or_else}
use Rattle.clap.specs.declared.builder.arg.Arg.{Arg}
use Rattle.clap.specs.declared.builder.command.Command.{Command}
use Rattle.clap.specs.declared.builder.command.Command.TheViews.{out-Command}
use Rattle.clap.specs.declared.builder.value_parser.ValueParser.{ValueParser}
use Rattle.clap.specs.declared.builder.value_parser.ValueParser.TheVariants.{Signed}
use Rattle.clap.specs.declared.error.Error.{Error}
use Rattle.clap.specs.declared.error.kind.ErrorKind.TheVariants.{OutOfMemory}
use Rattle.clap.specs.declared.parser.matches.ArgMatches.{ArgMatches}
use Rattle.clap.proofs.SimpleLemmas.{is_false, is_nil}
use Rattle.ets_script.proofs.Defaults.{default_reads}
use Rattle.ets_script.specs.CommandLine.{command_line, flag_option, flagged_line, limited_line, number_option, options_line, with_version}
use Rattle.ets_script.specs.inside.Options.{HasNumber}

abbrev error_or : {T : Type 0} → Result T Error → Error → Error
error_or (Ok m) e = e
error_or (Err f) e = f

-- a parse failed, and its error is returned
pub parse-fault : {T U : Type 0} (kinds : Kinds) (parsed : Result T Error) (e : Error) (r : Result U Error) → FailsBy kinds parsed → parsed ≡ Err e → IsErrAnd r (λ returned. returned ≡ e) → FailsBy kinds r
parse-fault kinds (Ok m) e r fails is returned = cc
parse-fault kinds (Err f) e (Ok s) fails is returned = absurd returned
parse-fault {T} kinds (Err f) e (Err g) fails is returned =
    let same : f ≡ g = ap (λ (r : Result T Error). error_or r f) is ∙ sym returned in
    subst (HasKind kinds) same fails

among-more : (kinds next : Kinds) (e : Error) → HasKind kinds e → HasKind (or_else kinds next) e
among-more [] next e (inl memory) = inl memory
among-more [] next e (inr among) = absurd among
among-more (k ∷ ks) next e h = h

-- an error of the first kinds is one of these or else of others
pub fails-first : {U : Type 0} (kinds next : Kinds) (Q : Error → Type 0) (r : Result U Error) → IsErrAnd r Q → FailsBy kinds r → FailsBy (or_else kinds next) r
fails-first kinds next Q (Ok s) returned fails = absurd returned
fails-first kinds next Q (Err e) returned fails = among-more kinds next e fails

-- memory ran out
pub lacks-memory : {U : Type 0} (kinds : Kinds) (r : Result U Error) → IsErrAnd r (λ e. kind_of e ≡ OutOfMemory) → FailsBy kinds r
lacks-memory kinds (Ok s) h = absurd h
lacks-memory kinds (Err e) h = inl h

-- where there is an error, nothing is answered
pub unanswered : {U : Type 0} (P : U → Type 0) (Q : Error → Type 0) (r : Result U Error) → IsErrAnd r Q → IfOk r P
unanswered P Q (Ok s) h = absurd h
unanswered P Q (Err e) h = tt

-- a parse succeeded, so that nothing was at fault
pub parse-no_fault : {T : Type 0} (kinds : Kinds) (parsed : Result T Error) (m : T) → FailsBy kinds parsed → parsed ≡ Ok m → kinds ≡ []
parse-no_fault kinds (Ok n) m fails is = fails
parse-no_fault kinds (Err e) m fails is = cc

-- what holds of an answer follows from what it ensures
pub then-ok : {T E : Type 0} (P Q : T → Type 0) (r : Result T E) → ((x : T) → P x → Q x) → IfOk r P → IfOk r Q
then-ok P Q (Ok x) f h = f x h
then-ok P Q (Err e) f h = tt

-- the faults of a command that is this one
pub faults : {T : Type 0} (line app : App) (words : List Text) (parsed : Result T Error) → app ≡ line → is_simple_and_free line ≡ true
    → (is_simple_and_free app ≡ true → FailsBy (fault_of app words) parsed) → FailsBy (fault_of line words) parsed
faults line app words parsed is known fails = subst (λ (a : App). is_simple_and_free a ≡ true → FailsBy (fault_of a words) parsed) is fails known

-- and its matches
pub rows : (line app : App) (words : List Text) (m : ArgMatches) → app ≡ line → is_simple line ≡ true → HasMatchesOf app words m → rows_of (found_of m) ≡ matches_of line words
rows line app words m is known has = (subst (λ (a : App). HasMatchesOf a words m) is has known).0

is-none : {X : Type 0} (o : Option X) → not (is_some o) ≡ true → o ≡ None
is-none None e = refl
is-none (Some x) e = cc

-- what a simple argument, and a free one, has nothing of
record Simple (a : Arg) : Type 0 where
  overrides : a.overrides.items ≡ []
  ifs : a.default_vals_ifs.items ≡ []
  groups : a.groups.items ≡ []
  undelimited : a.val_delim ≡ None
  own : a.global ≡ false

simple : (a : Arg) → is_simple_arg a ≡ true → Simple a
simple a e =
    let p = and_parts (is_empty a.overrides.items) _ e in
    let q = and_parts (is_empty a.default_vals_ifs.items) _ p.1 in
    let r = and_parts (is_empty a.groups.items) _ q.1 in
    let s = and_parts (not (is_some a.val_delim)) _ r.1 in
    let t = and_parts (not (is_some a.terminator)) _ s.1 in
    let u = and_parts (not a.allow_hyphen_values) _ t.1 in
    let v = and_parts (not a.allow_negative_numbers) _ u.1 in
    let w = and_parts (not a.require_equals) _ v.1 in
    let x = and_parts (not a.last) (not a.global) w.1 in
    record { overrides = is_nil _ p.0; ifs = is_nil _ q.0; groups = is_nil _ r.0; undelimited = is-none _ s.0; own = is_false _ x.1 }

plain : (a : Arg) → is_simple_arg a ≡ true → is_free_arg a ≡ true → IsPlainArg a
plain a s f =
    let p = and_parts (not a.exclusive) _ f in
    let q = and_parts (is_empty a.conflicts.items) _ p.1 in
    let h = simple a s in
    (is_false _ p.0, is_nil _ q.0, h.overrides, h.groups)

plain-each : (xs : List Arg) → list_all (λ (r : Rule). r.is_simple) (map rule_of xs) ≡ true → list_all (λ (r : Rule). r.is_free) (map rule_of xs) ≡ true → All IsPlainArg xs
plain-each [] s f k d lt = absurd (omega arith)
plain-each (x ∷ xs) s f zero d lt = plain x (and_parts (is_simple_arg x) _ s).0 (and_parts (is_free_arg x) _ f).0
plain-each (x ∷ xs) s f (suc k) d lt = plain-each xs (and_parts (is_simple_arg x) _ s).1 (and_parts (is_free_arg x) _ f).1 k d (omega arith)

-- a command and one more option of it
pub added : (old new : Command) (a : Arg) (app : App) (r : Rule) → AddsArg old a new → app_of old ≡ app → rule_of a ≡ r → r.is_simple ≡ true → app_of new ≡ with_rule app r
added old new a app r adds is rule e =
    let known : is_simple_arg a ≡ true = ap (λ (x : Rule). x.is_simple) rule ∙ e in
    let shape = adds.shape (simple a known).own in
    shape ∙ ap₂ with_rule is rule

-- the command of the settings, with the options of the limits
pub limited_line-of_rules : (hashes : ValueParser) (one two three : Command) (processes tables : Arg) → app_of one ≡ command_line hashes
    → AddsArg one processes two → rule_of processes ≡ number_option (codes "max-processes") (codes "4096")
    → AddsArg two tables three → rule_of tables ≡ number_option (codes "max-tables") (codes "65536")
    → app_of three ≡ limited_line hashes
limited_line-of_rules hashes one two three processes tables is adds first adds2 second =
    let with_first = added one two processes (command_line hashes) (number_option (codes "max-processes") (codes "4096")) adds is first refl in
    added two three tables _ (number_option (codes "max-tables") (codes "65536")) adds2 with_first second refl

-- with those of reasons and packets
pub flagged_line-of_rules : (hashes : ValueParser) (three four five : Command) (why external : Arg) → app_of three ≡ limited_line hashes
    → AddsArg three why four → rule_of why ≡ flag_option (codes "why")
    → AddsArg four external five → rule_of external ≡ flag_option (codes "external")
    → app_of five ≡ flagged_line hashes
flagged_line-of_rules hashes three four five why external is adds first adds2 second =
    let with_why = added three four why (limited_line hashes) (flag_option (codes "why")) adds is first refl in
    added four five external _ (flag_option (codes "external")) adds2 with_why second refl

-- and with those of a packet's limit, a seed and a version it is that of a request
pub options_line-of_rules : (hashes : ValueParser) (five six seven eight : Command) (packet seed : Arg) (version : Bor Text) → app_of five ≡ flagged_line hashes
    → AddsArg five packet six → rule_of packet ≡ number_option (codes "max-packet") (codes "16777216")
    → AddsArg six seed seven → rule_of seed ≡ number_option (codes "seed") (codes "0")
    → out-Command eight ≡ record (out-Command seven) { version = Some version } → app_of eight ≡ options_line hashes
options_line-of_rules hashes five six seven eight packet seed version is adds first adds2 second versioned =
    let with_packet = added five six packet (flagged_line hashes) (number_option (codes "max-packet") (codes "16777216")) adds is first refl in
    let with_both = added six seven seed _ (number_option (codes "seed") (codes "0")) adds2 with_packet second refl in
    let as_fields : app_of eight ≡ with_version (app_of seven) = ap app_of_fields versioned in
    as_fields ∙ ap with_version with_both

-- the k-th of these has this name, and no other has it
abbrev only : List Rule → ℕ → Text → Bool
only [] k name = false
only (x ∷ xs) zero name = list_all (λ (y : Rule). not (bytes_eq y.id name)) xs
only (x ∷ xs) (suc k) name = not (bytes_eq x.id name) && only xs k name

none-there : (xs : List Arg) (name : Text) (j : ℕ) (d : Arg) → list_all (λ (y : Rule). not (bytes_eq y.id name)) (map rule_of xs) ≡ true → j < length xs → bytes_eq (slice_index_or xs j d).id.now name ≡ true → ⊥
none-there [] name j d h lt same = absurd (omega arith)
none-there (x ∷ xs) name zero d h lt same =
    let other : bytes_eq x.id.now name ≡ false = is_false _ (and_parts (not (bytes_eq x.id.now name)) _ h).0 in
    let bad : false ≡ true = sym other ∙ same in
    cc
none-there (x ∷ xs) name (suc j) d h lt same = none-there xs name j d (and_parts (not (bytes_eq x.id.now name)) _ h).1 (omega arith) same

only-there : (xs : List Arg) (k : ℕ) (name : Text) (j : ℕ) (d : Arg) → only (map rule_of xs) k name ≡ true → j < length xs → bytes_eq (slice_index_or xs j d).id.now name ≡ true → j ≡ k
only-there [] k name j d h lt same = absurd (omega arith)
only-there (x ∷ xs) zero name zero d h lt same = refl
only-there (x ∷ xs) zero name (suc j) d h lt same = absurd (none-there xs name j d h (omega arith) same)
only-there (x ∷ xs) (suc k) name zero d h lt same =
    let other : bytes_eq x.id.now name ≡ false = is_false _ (and_parts (not (bytes_eq x.id.now name)) _ h).0 in
    let bad : false ≡ true = sym other ∙ same in
    cc
only-there (x ∷ xs) (suc k) name (suc j) d h lt same = ap suc (only-there xs k name j d (and_parts (not (bytes_eq x.id.now name)) _ h).1 (omega arith) same)

-- a name that no option added by clap has
abbrev is_own : Text → Bool
is_own name = not (bytes_eq name []) && (not (bytes_eq name (codes "help")) && not (bytes_eq name (codes "version")))

other : (name t : Text) → bytes_eq t t ≡ true → not (bytes_eq name t) ≡ true → name ≡ t → ⊥
other name t same h e =
    let no : bytes_eq t t ≡ false = subst (λ (n : Text). bytes_eq n t ≡ false) e (is_false _ h) in
    let bad : true ≡ false = sym same ∙ no in
    cc

some-text : (xs : List (Bor Text)) (t : Text) → map (λ (s : Bor Text). s.now) xs ≡ t ∷ [] → 0 < length xs
some-text [] t e = cc
some-text (x ∷ xs) t e = omega arith

first-arg : (xs : List Arg) → 0 < length xs → Arg
first-arg [] lt = absurd (omega arith)
first-arg (x ∷ xs) lt = x

length-rules : (xs : List Arg) → length (map rule_of xs) ≡ length xs
length-rules [] = refl
length-rules (x ∷ xs) = ap suc (length-rules xs)

-- Of a command of these options, of which the k-th takes a number and alone has its name: a parse has that number.
module _ (c : Command) (m : ArgMatches) (shape : Shape) (k : ℕ) (name default : Text) (parsed : IsParsedFrom c m) (is : (app_of c).top ≡ shape)
    (known : (has_simple_rules shape && list_all (λ (r : Rule). r.is_free) shape.rules) ≡ true) (there : k < length shape.rules)
    (numbers : slice_index_or shape.rules k (number_option name default) ≡ number_option name default) (unique : (is_own name && only shape.rules k name) ≡ true) where
  rules : map rule_of (args_of c) ≡ shape.rules
  rules = ap (λ (s : Shape). s.rules) is

  low : k < length (args_of c)
  low =
      let same : length (args_of c) ≡ length shape.rules = sym (length-rules (args_of c)) ∙ ap length rules in
      omega arith

  d : Arg
  d = first-arg (args_of c) (omega (arith, low))

  abbrev a : Arg
  a = slice_index_or (args_of c) k d

  rule : rule_of a ≡ number_option name default
  rule = sym (get_or-map rule_of (args_of c) k d (number_option name default) low) ∙ (ap (λ (l : List Rule). slice_index_or l k (number_option name default)) rules ∙ numbers)

  facts : Simple a
  facts = simple a (ap (λ (r : Rule). r.is_simple) rule)

  id : a.id.now ≡ name
  id = ap (λ (r : Rule). r.id) rule

  own_name : (is_own name ≡ true) × (only shape.rules k name ≡ true)
  own_name = and_parts (is_own name) (only shape.rules k name) unique

  named : name ≡ [] → ⊥
  named e = other name [] refl (and_parts (not (bytes_eq name [])) _ own_name.0).0 e

  not_added : IsAuto a → ⊥
  not_added auto =
      let names = and_parts (not (bytes_eq name (codes "help"))) (not (bytes_eq name (codes "version"))) (and_parts (not (bytes_eq name [])) _ own_name.0).1 in
      elim auto [ inl h ↦ other name (codes "help") refl names.0 (sym id ∙ h) | inr h ↦ other name (codes "version") refl names.1 (sym id ∙ h) ]

  fields : (has_plain_fields (out-Command c) ≡ true) × (list_all (λ (r : Rule). r.is_simple) shape.rules ≡ true)
  fields =
      let both = and_parts shape.is_plain _ (and_parts (has_simple_rules shape) _ known).0 in
      (ap (λ (s : Shape). s.is_plain) is ∙ both.0, both.1)

  groups : groups_of c ≡ []
  groups = is_nil _ (and_parts (is_empty (groups_of c)) _ fields.0).0

  globals : (out-Command c).has_globals ≡ false
  globals =
      let p = and_parts (is_empty (groups_of c)) _ fields.0 in
      let q = and_parts (not (out-Command c).allow_external_subcommands) _ p.1 in
      is_false _ (and_parts (not (out-Command c).has_globals) _ q.1).0

  all_plain : IsPlain c
  all_plain = (
    plain-each (args_of c) (ap (list_all (λ (r : Rule). r.is_simple)) rules ∙ fields.1)
        (ap (list_all (λ (r : Rule). r.is_free)) rules ∙ (and_parts (has_simple_rules shape) _ known).1),
    groups,
  )

  least : 1 ≤ least_values a
  least =
      let one : least_values a ≡ 1 = ap (λ (r : Rule). (unwrap_or_range r.range).start_inclusive) rule in
      omega arith

  pub has_number : HasNumber (found_of m) name
  has_number =
      let same : (j : ℕ) (e : Arg) → j < length (args_of c) → bytes_eq (slice_index_or (args_of c) j e).id.now a.id.now ≡ true → j ≡ k =
      λ j e lt eq. only-there (args_of c) k name j e (ap (λ (l : List Rule). only l k name) rules ∙ own_name.1) lt (subst (λ (n : Text). bytes_eq (slice_index_or (args_of c) j e).id.now n ≡ true) id eq) in
      let got = default_reads c m parsed all_plain globals k d low (facts.ifs, some-text (items_of a.default_vals) default (ap (λ (r : Rule). r.defaults) rule)) (ap (λ (r : Rule). r.action) rule) facts.undelimited least same
      (λ empty. named (sym id ∙ empty)) not_added
      (Signed (pos 0) (pos 4294967295)) (ap (λ (r : Rule). r.parser) rule) in
      subst (HasNumber (found_of m)) id got
