-- Lines in their forms are read as their commands.
use Rattle.std.proofs.Common.{◌≡◌, ℕ, zero, suc, ◌+◌, ◌-◌, ◌*◌, ◌≤◌, Bool, true, false, List, [], ◌∷◌, ◌++◌, length, take, drop, refl, sym, ap, ◌∙◌, arith, append_assoc, length-append, inl, inr}
use Rattle.std.specs.Prelude.{codes, nat_le, ◌==◌, ◌||◌}
use Rattle.std.proofs.lemmas.Bool.{and_parts}
use Rattle.std.proofs.lemmas.Bool.Decides.{nat_tests}
use Rattle.std.specs.List.{prefix_len, list_all}
use Rattle.std.specs.Str.{bytes_eq}
use Rattle.term_text.specs.Text.{is_digit, is_lowercase, is_name, begins, value_of_digits}
use Rattle.ets_script.specs.Classes.{is_line_blank, is_printable, skip_blanks, is_sign}
use Rattle.ets_script.specs.Reads.{read}
use Rattle.ets_script.specs.Commands.{Command, spawn, exit, grow, ready, gap, word, bucket, line_end, name_command, grow_command, ready_command, ask_command, ask, open_parenthesis, separator, arguments, arguments_from, by_word, command_of, printable_prefix, command, is_silent}
use Rattle.ets_script.specs.Terms.{term, term_of}
use Rattle.ets_script.specs.LineForms.{AreBlanks, IsGap, IsName, IsPrintable, IsNameLine, IsTerm, IsBucket, IsGrowLine, IsReadyLine, AreTerms, AreArguments, IsCallLine, is_command, IsSilentLine, Means}
use Rattle.ets_term.specs.declared.term.Term.{Term}
use Rattle.term_text.proofs.Spelled.{front-read}

-- a text that does not begin with a blank is left as it is
skip_blanks-text : (rest : List ℕ) → begins is_line_blank rest ≡ false → skip_blanks rest ≡ rest
skip_blanks-text [] e = refl
skip_blanks-text (b ∷ bs) e = rw e refl

skip_blanks-blanks : (a rest : List ℕ) → AreBlanks a → begins is_line_blank rest ≡ false → skip_blanks (a ++ rest) ≡ rest
skip_blanks-blanks [] rest h e = skip_blanks-text rest e
skip_blanks-blanks (b ∷ bs) rest h e =
    let parts = and_parts (is_line_blank b) (list_all is_line_blank bs) h in
    rw parts.0 (skip_blanks-blanks bs rest parts.1 e)

skip_blanks-none : (a : List ℕ) → AreBlanks a → skip_blanks a ≡ []
skip_blanks-none [] h = refl
skip_blanks-none (b ∷ bs) h =
    let parts = and_parts (is_line_blank b) (list_all is_line_blank bs) h in
    rw parts.0 (skip_blanks-none bs parts.1)

prefix_len-append : (p : ℕ → Bool) (xs rest : List ℕ) → list_all p xs ≡ true → begins p rest ≡ false → prefix_len p (xs ++ rest) ≡ length xs
prefix_len-append p [] [] h e = refl
prefix_len-append p [] (b ∷ bs) h e = rw e refl
prefix_len-append p (x ∷ xs) rest h e =
    let parts = and_parts (p x) (list_all p xs) h in
    let others = prefix_len-append p xs rest parts.1 e in
    rw parts.0 (omega (arith, others))

take-length : (xs rest : List ℕ) → take (length xs) (xs ++ rest) ≡ xs
take-length [] rest = refl
take-length (x ∷ xs) rest = ap (λ l. x ∷ l) (take-length xs rest)

drop-length : (xs rest : List ℕ) → drop (length xs) (xs ++ rest) ≡ rest
drop-length [] rest = refl
drop-length (x ∷ xs) rest = drop-length xs rest

begins-append : (p : ℕ → Bool) (xs rest : List ℕ) → begins p xs ≡ true → begins p (xs ++ rest) ≡ true
begins-append p [] rest e = cc
begins-append p (x ∷ xs) rest e = e

within : (n : ℕ) → n ≤ 255 → nat_le n 255 ≡ true
within n h = grind (arith, nat_tests)

word-name : (name rest : List ℕ) → IsName name → begins is_name rest ≡ false → word (name ++ rest) ≡ read name rest
word-name name rest n e =
    let len = prefix_len-append is_name name rest n.each e in
    let first = begins-append is_lowercase name rest n.first in
    rw (first, len, within (length name) n.short, take-length name rest, drop-length name rest) refl

blank-lowercase : (b : ℕ) → is_lowercase b ≡ true → is_line_blank b ≡ false
unfolding is_lowercase
blank-lowercase b e = grind (arith, nat_tests)

name-blank : (b : ℕ) → is_line_blank b ≡ true → is_name b ≡ false
unfolding is_name is_lowercase is_digit
name-blank b e = grind (arith, nat_tests)

name-no_blank : (name rest : List ℕ) → begins is_lowercase name ≡ true → begins is_line_blank (name ++ rest) ≡ false
name-no_blank [] rest e = cc
name-no_blank (x ∷ xs) rest e = blank-lowercase x e

blanks-no_name : (bs : List ℕ) → AreBlanks bs → begins is_name bs ≡ false
blanks-no_name [] h = refl
blanks-no_name (b ∷ bs) h = name-blank b (and_parts (is_line_blank b) (list_all is_line_blank bs) h).0

gap-no_name : (bs rest : List ℕ) → IsGap bs → begins is_name (bs ++ rest) ≡ false
gap-no_name [] rest (h, some) = absurd (omega (arith, some))
gap-no_name (b ∷ bs) rest (h, some) = name-blank b (and_parts (is_line_blank b) (list_all is_line_blank bs) h).0

gap-begins : (bs rest : List ℕ) → IsGap bs → begins is_line_blank (bs ++ rest) ≡ true
gap-begins [] rest (h, some) = absurd (omega (arith, some))
gap-begins (b ∷ bs) rest (h, some) = (and_parts (is_line_blank b) (list_all is_line_blank bs) h).0

gap-blanks : (bs rest : List ℕ) → IsGap bs → begins is_line_blank rest ≡ false → gap (bs ++ rest) ≡ read tt rest
gap-blanks bs rest g e = rw (gap-begins bs rest g, skip_blanks-blanks bs rest g.0 e) refl

line_end-blanks : (bs : List ℕ) → AreBlanks bs → line_end bs ≡ read tt []
line_end-blanks bs h = rw (skip_blanks-none bs h) refl

-- a name after a gap, before blanks
name_command-form : (says : List ℕ → Command) (space name after : List ℕ) → IsGap space → IsName name → AreBlanks after → name_command says (space ++ (name ++ after)) ≡ read (says name) []
name_command-form says space name after g n h =
    rw (gap-blanks space (name ++ after) g (name-no_blank name after n.first)) (rw (word-name name after n (blanks-no_name after h)) (rw (line_end-blanks after h) refl))

-- a line whose bytes are all printable is the command of its bytes
whole : (p : ℕ → Bool) (bs : List ℕ) → list_all p bs ≡ true → prefix_len p bs ≡ length bs
whole p [] e = refl
whole p (b ∷ bs) e =
    let parts = and_parts (p b) (list_all p bs) e in
    let others = whole p bs parts.1 in
    rw parts.0 (omega (arith, others))

take-all : (xs : List ℕ) → take (length xs) xs ≡ xs
take-all [] = refl
take-all (x ∷ xs) = ap (λ l. x ∷ l) (take-all xs)

same-length : (n : ℕ) → (n == n) ≡ true
same-length n = grind (arith, nat_tests)

pub command-printable : (line rest : List ℕ) (c : Command) → IsPrintable line → command_of line ≡ read c rest → command line ≡ c
command-printable line rest c h is =
    let all : printable_prefix line ≡ line = ap (λ n. take n line) (whole is_printable line h) ∙ take-all line in
    rw all (rw is (rw (same-length (length line)) refl))

-- the first word of a line
command_of-word : (before name more : List ℕ) → AreBlanks before → IsName name → begins is_name more ≡ false → command_of (before ++ (name ++ more)) ≡ by_word name more
command_of-word before name more h n e =
    rw (skip_blanks-blanks before (name ++ more) h (name-no_blank name more n.first)) (rw (word-name name more n e) refl)

-- a line with a word is not silent
lowercase-sign : (b : ℕ) → is_lowercase b ≡ true → (b == 37) ≡ false
unfolding is_lowercase
lowercase-sign b e = grind (arith, nat_tests)

not_empty : (n : ℕ) → (suc n == 0) ≡ false
not_empty n = grind (arith, nat_tests)

pub not_silent : (text : List ℕ) → begins is_lowercase text ≡ true → ((length text == 0) || begins (is_sign (codes "%")) text) ≡ false
not_silent [] e = cc
not_silent (x ∷ xs) e = rw (not_empty (length xs)) (lowercase-sign x e)

word-not_silent : (line before name more : List ℕ) → line ≡ before ++ (name ++ more) → AreBlanks before → IsName name → is_silent line ≡ false
word-not_silent line before name more is h n =
    rw is (rw (skip_blanks-blanks before (name ++ more) h (name-no_blank name more n.first)) (not_silent (name ++ more) (begins-append is_lowercase name more n.first)))

pub silent-form : (line : List ℕ) → IsSilentLine line → is_silent line ≡ true
silent-form line (inl blanks) = rw (skip_blanks-none line blanks) refl
silent-form line (inr (before, comment, blanks, is)) = rw is (rw (skip_blanks-blanks before (codes "%" ++ comment) blanks refl) (or-true (length (codes "%" ++ comment) == 0) refl))
  where
    or-true : (a : Bool) → true ≡ true → (a || true) ≡ true
    or-true true h = refl
    or-true false h = refl

spawn-name : IsName (codes "spawn")
unfolding is_lowercase is_name
spawn-name = record { first = refl; each = refl; short = omega arith }

exit-name : IsName (codes "exit")
unfolding is_lowercase is_name
exit-name = record { first = refl; each = refl; short = omega arith }

pub spawn-form : (line name : List ℕ) → IsPrintable line → IsNameLine (codes "spawn") name line → Means line (spawn name)
spawn-form line name p (before, space, after, b, g, a, n, is) = (
  word-not_silent line before (codes "spawn") (space ++ (name ++ after)) is b spawn-name,
  command-printable line [] (spawn name) p
      (ap command_of is ∙ command_of-word before (codes "spawn") (space ++ (name ++ after)) b spawn-name (gap-no_name space (name ++ after) g) ∙ name_command-form spawn space name after g n a),
)

pub exit-form : (line name : List ℕ) → IsPrintable line → IsNameLine (codes "exit") name line → Means line (exit name)
exit-form line name p (before, space, after, b, g, a, n, is) = (
  word-not_silent line before (codes "exit") (space ++ (name ++ after)) is b exit-name,
  command-printable line [] (exit name) p
      (ap command_of is ∙ command_of-word before (codes "exit") (space ++ (name ++ after)) b exit-name (gap-no_name space (name ++ after) g) ∙ name_command-form exit space name after g n a),
)

term-form : (s : List ℕ) (t : Term) (rest : List ℕ) → IsTerm s t rest → term (s ++ rest) ≡ read t rest
unfolding term
term-form s t rest f =
    ap (λ r. term_of (s ++ rest) r) (front-read (s ++ rest) t (length s) f) ∙ ap (λ l. read t l) (drop-length s rest)

grow-name : IsName (codes "grow")
unfolding is_lowercase is_name
grow-name = record { first = refl; each = refl; short = omega arith }

ready-name : IsName (codes "ready")
unfolding is_lowercase is_name
ready-name = record { first = refl; each = refl; short = omega arith }

grow_command-form : (space s after : List ℕ) (t : Term) → IsGap space → begins is_line_blank (s ++ after) ≡ false → IsTerm s t after → AreBlanks after → grow_command (space ++ (s ++ after)) ≡ read (grow t) []
grow_command-form space s after t g e f h =
    rw (gap-blanks space (s ++ after) g e) (rw (term-form s t after f) (rw (line_end-blanks after h) refl))

pub grow-form : (line : List ℕ) (t : Term) → IsPrintable line → IsGrowLine t line → Means line (grow t)
grow-form line t p (before, space, s, after, b, g, e, f, a, is) = (
  word-not_silent line before (codes "grow") (space ++ (s ++ after)) is b grow-name,
  command-printable line [] (grow t) p
      (ap command_of is ∙ command_of-word before (codes "grow") (space ++ (s ++ after)) b grow-name (gap-no_name space (s ++ after) g) ∙ grow_command-form space s after t g e f a),
)

digit-blank : (b : ℕ) → is_line_blank b ≡ true → is_digit b ≡ false
unfolding is_digit
digit-blank b e = grind (arith, nat_tests)

blank-digit : (b : ℕ) → is_digit b ≡ true → is_line_blank b ≡ false
unfolding is_digit
blank-digit b e = grind (arith, nat_tests)

digits-no_blank : (digits rest : List ℕ) → begins is_digit digits ≡ true → begins is_line_blank (digits ++ rest) ≡ false
digits-no_blank [] rest e = cc
digits-no_blank (x ∷ xs) rest e = blank-digit x e

blanks-no_digit : (bs : List ℕ) → AreBlanks bs → begins is_digit bs ≡ false
blanks-no_digit [] h = refl
blanks-no_digit (b ∷ bs) h = digit-blank b (and_parts (is_line_blank b) (list_all is_line_blank bs) h).0

value_of_digits-rest : (n : ℕ) (rest : List ℕ) → begins is_digit rest ≡ false → value_of_digits n rest ≡ n
value_of_digits-rest n [] e = refl
value_of_digits-rest n (b ∷ bs) e = rw e refl

value_of_digits-append : (n : ℕ) (digits rest : List ℕ) → list_all is_digit digits ≡ true → begins is_digit rest ≡ false → value_of_digits n (digits ++ rest) ≡ value_of_digits n digits
value_of_digits-append n [] rest h e = value_of_digits-rest n rest e
value_of_digits-append n (b ∷ bs) rest h e =
    let parts = and_parts (is_digit b) (list_all is_digit bs) h in
    rw parts.0 (value_of_digits-append (n * 10 + (b - 48)) bs rest parts.1 e)

in-range : (n : ℕ) → n ≤ 4294967295 → nat_le n 4294967295 ≡ true
in-range n h = grind (arith, nat_tests)

bucket-form : (digits rest : List ℕ) (n : ℕ) → IsBucket digits n → begins is_digit rest ≡ false → bucket (digits ++ rest) ≡ read n rest
bucket-form digits rest n b e =
    let len = prefix_len-append is_digit digits rest b.each e in
    let value : value_of_digits 0 (digits ++ rest) ≡ n = value_of_digits-append 0 digits rest b.each e ∙ sym b.value in
    rw (begins-append is_digit digits rest b.first, value, in-range n b.below, len, drop-length digits rest) refl

ready_command-form : (gap1 s gap2 digits after : List ℕ) (t : Term) (n : ℕ) → IsGap gap1 → begins is_line_blank (s ++ (gap2 ++ (digits ++ after))) ≡ false → IsTerm s t (gap2 ++ (digits ++ after)) → IsGap gap2 → IsBucket digits n → AreBlanks after
    → ready_command (gap1 ++ (s ++ (gap2 ++ (digits ++ after)))) ≡ read (ready t n) []
ready_command-form gap1 s gap2 digits after t n g e f g2 b h =
    rw (gap-blanks gap1 (s ++ (gap2 ++ (digits ++ after))) g e) (rw (term-form s t (gap2 ++ (digits ++ after)) f)
    (rw (gap-blanks gap2 (digits ++ after) g2 (digits-no_blank digits after b.first)) (rw (bucket-form digits after n b (blanks-no_digit after h)) (rw (line_end-blanks after h) refl))))

pub ready-form : (line : List ℕ) (t : Term) (n : ℕ) → IsPrintable line → IsReadyLine t n line → Means line (ready t n)
ready-form line t n p (before, gap1, s, gap2, digits, after, b, g, e, f, g2, d, a, is) = (
  word-not_silent line before (codes "ready") (gap1 ++ (s ++ (gap2 ++ (digits ++ after)))) is b ready-name,
  command-printable line [] (ready t n) p
      (ap command_of is ∙ command_of-word before (codes "ready") (gap1 ++ (s ++ (gap2 ++ (digits ++ after)))) b ready-name (gap-no_name gap1 (s ++ (gap2 ++ (digits ++ after))) g)
      ∙ ready_command-form gap1 s gap2 digits after t n g e f g2 d a),
)

separator-comma : (blanks rest : List ℕ) → AreBlanks blanks → separator (blanks ++ (codes "," ++ rest)) ≡ read true rest
separator-comma blanks rest h = rw (skip_blanks-blanks blanks (codes "," ++ rest) h refl) refl

separator-close : (blanks rest : List ℕ) → AreBlanks blanks → separator (blanks ++ (codes ")" ++ rest)) ≡ read false rest
separator-close blanks rest h = rw (skip_blanks-blanks blanks (codes ")" ++ rest) h refl) refl

opening-form : (blanks rest : List ℕ) → AreBlanks blanks → open_parenthesis (blanks ++ (codes "(" ++ rest)) ≡ read tt rest
opening-form blanks rest h = rw (skip_blanks-blanks blanks (codes "(" ++ rest) h refl) refl

terms-length : (ts : List Term) (text rest : List ℕ) → AreTerms ts text rest → length ts ≤ length text
terms-length [] text rest f = absurd f
terms-length (t ∷ []) text rest (s, blanks, b, term, is) =
    rw is (omega (arith, length-append s (blanks ++ codes ")"), length-append blanks (codes ")")))
terms-length (t ∷ (u ∷ us)) text rest (s, blanks, more, b, term, is, others) =
    let shorter = terms-length (u ∷ us) more rest others in
    rw is (omega (arith, shorter, length-append s (blanks ++ (codes "," ++ more)), length-append blanks (codes "," ++ more)))

arguments_from-terms : (k : ℕ) (before ts : List Term) (text rest : List ℕ) → AreTerms ts text rest → length ts ≤ k → arguments_from k before (text ++ rest) ≡ read (before ++ ts) rest
arguments_from-terms k before [] text rest f le = absurd f
arguments_from-terms zero before (t ∷ ts) text rest f le = absurd (omega (arith, le))
arguments_from-terms (suc k) before (t ∷ []) text rest (s, blanks, b, front, is) le =
    let whole : text ++ rest ≡ s ++ (blanks ++ (codes ")" ++ rest)) = ap (λ l. l ++ rest) is ∙ append_assoc s (blanks ++ codes ")") rest ∙ ap (λ l. s ++ l) (append_assoc blanks (codes ")") rest) in
    rw whole (rw (term-form s t (blanks ++ (codes ")" ++ rest)) front) (rw (separator-close blanks rest b) refl))
arguments_from-terms (suc k) before (t ∷ (u ∷ us)) text rest (s, blanks, more, b, front, is, others) le =
    let whole : text ++ rest ≡ s ++ (blanks ++ (codes "," ++ (more ++ rest))) = ap (λ l. l ++ rest) is ∙ append_assoc s (blanks ++ (codes "," ++ more)) rest ∙ ap (λ l. s ++ l) (append_assoc blanks (codes "," ++ more) rest) in
    let fewer : length (u ∷ us) ≤ k = omega (arith, le) in
    rw whole (rw (term-form s t (blanks ++ (codes "," ++ (more ++ rest))) front) (rw (separator-comma blanks (more ++ rest) b)
    (arguments_from-terms k (before ++ t ∷ []) (u ∷ us) more rest others fewer ∙ ap (λ l. read l rest) (append_assoc before (t ∷ []) (u ∷ us)))))

arguments-form : (ts : List Term) (text rest : List ℕ) → AreArguments ts text rest → arguments (text ++ rest) ≡ read ts rest
arguments-form [] text rest (blanks, b, is) =
    let whole : text ++ rest ≡ blanks ++ (codes ")" ++ rest) = ap (λ l. l ++ rest) is ∙ append_assoc blanks (codes ")") rest in
    rw whole (rw (skip_blanks-blanks blanks (codes ")" ++ rest) b refl) refl)
arguments-form (t ∷ ts) text rest (blanks, row, b, e, n, f, is) =
    let whole : text ++ rest ≡ blanks ++ (row ++ rest) = ap (λ l. l ++ rest) is ∙ append_assoc blanks row rest in
    let short : length (t ∷ ts) ≤ length (row ++ rest) = let le = terms-length (t ∷ ts) row rest f in omega (arith, le, length-append row rest) in
    rw whole (rw (skip_blanks-blanks blanks (row ++ rest) b e) (rw n (arguments_from-terms (length (row ++ rest)) [] (t ∷ ts) row rest f short)))

or-false : (a b : Bool) → (a || b) ≡ false → (a ≡ false) × (b ≡ false)
or-false true b e = cc
or-false false b e = (refl, e)

by_word-call : (name more : List ℕ) → is_command name ≡ false → by_word name more ≡ ask_command name more
by_word-call name more e =
    let three = or-false (bytes_eq name (codes "spawn") || bytes_eq name (codes "exit") || bytes_eq name (codes "grow")) (bytes_eq name (codes "ready")) e in
    let two = or-false (bytes_eq name (codes "spawn") || bytes_eq name (codes "exit")) (bytes_eq name (codes "grow")) three.0 in
    let one = or-false (bytes_eq name (codes "spawn")) (bytes_eq name (codes "exit")) two.0 in
    rw (one.0, one.1, two.1, three.1) refl

paren-no_name : (space rest : List ℕ) → AreBlanks space → begins is_name (space ++ (codes "(" ++ rest)) ≡ false
unfolding is_name is_lowercase is_digit
paren-no_name [] rest h = refl
paren-no_name (b ∷ bs) rest h = name-blank b (and_parts (is_line_blank b) (list_all is_line_blank bs) h).0

ask_command-form : (name space1 w space arguments after : List ℕ) (terms : List Term) → IsGap space1 → IsName w → AreBlanks space → AreArguments terms arguments after → AreBlanks after
    → ask_command name (space1 ++ (w ++ (space ++ (codes "(" ++ (arguments ++ after))))) ≡ read (ask name w terms) []
ask_command-form name space1 w space row after terms g n b f h =
    rw (gap-blanks space1 (w ++ (space ++ (codes "(" ++ (row ++ after)))) g (name-no_blank w (space ++ (codes "(" ++ (row ++ after))) n.first))
    (rw (word-name w (space ++ (codes "(" ++ (row ++ after))) n (paren-no_name space (row ++ after) b))
    (rw (opening-form space (row ++ after) b) (rw (arguments-form terms row after f) (rw (line_end-blanks after h) refl))))

pub call-form : (line name w : List ℕ) (terms : List Term) → IsPrintable line → IsCallLine name w terms line → Means line (ask name w terms)
call-form line name w terms p (before, space1, space, row, after, b, n, e, g, m, s, f, a, is) =
    let more = space1 ++ (w ++ (space ++ (codes "(" ++ (row ++ after)))) in (
      word-not_silent line before name more is b n,
      command-printable line [] (ask name w terms) p
          (ap command_of is ∙ command_of-word before name more b n (gap-no_name space1 (w ++ (space ++ (codes "(" ++ (row ++ after)))) g) ∙ by_word-call name more e ∙ ask_command-form name space1 w space row after terms g m s f a),
    )
