-- A text with one byte more, and how many brackets it can have open.
use Rattle.std.proofs.Common.{◌≡◌, refl, ap, ◌∙◌, ◌||◌, ◌==◌, ℕ, suc, ◌+◌, ◌-◌, ◌≤◌, List, [], ◌∷◌, ◌++◌, length, fold, Bool, true, false, if◌then◌else◌, codes, arith}
use Rattle.std.specs.List.{list_any}
use Rattle.std.specs.Str.{byte}
use Rattle.std.proofs.lemmas.Grind.{fold-append}
use Rattle.std.proofs.lemmas.List.Folds.{list_any-append}
use Rattle.node_reasons.specs.declared.lex_state.LexState.{LexState}
use Rattle.node_reasons.specs.declared.lex_state.QuoteState.{QuoteState}
use Rattle.node_reasons.specs.declared.lex_state.QuoteState.TheVariants.{Outside}
use Rattle.node_reasons.specs.Classes.{among}
use Rattle.node_reasons.specs.LexStates.{is_quoted, next_quote_state, quote_state_of, without_quotes_from, without_quotes, next_levels, lex_state_of}
use Rattle.node_reasons.specs.inside.Advance.{advance}

-- what a byte adds to a text without the bytes in quotes
abbrev added : Bool → ℕ → List ℕ
added in_quotes b = if in_quotes then [] else b ∷ []

joined : (v : Bool) (x : ℕ) (bs ks : List ℕ) → (if v then bs ++ ks else x ∷ (bs ++ ks)) ≡ (if v then bs else x ∷ bs) ++ ks
joined true x bs ks = refl
joined false x bs ks = refl

without_quotes-push : (q : QuoteState) (xs : List ℕ) (b : ℕ) → without_quotes_from q (xs ++ b ∷ []) ≡ without_quotes_from q xs ++ added (is_quoted (fold next_quote_state q xs)) b
without_quotes-push q [] b = refl
without_quotes-push q (x ∷ xs) b = ap (λ (r : List ℕ). if is_quoted q then r else x ∷ r) (without_quotes-push (next_quote_state q x) xs b)
    ∙ joined (is_quoted q) x (without_quotes_from (next_quote_state q x) xs) (added (is_quoted (fold next_quote_state (next_quote_state q x) xs)) b)

or-false : (v : Bool) → (v || false) ≡ v
or-false true = refl
or-false false = refl

append-none : (bs : List ℕ) → bs ++ [] ≡ bs
append-none [] = refl
append-none (b ∷ bs) = ap (λ (r : List ℕ). b ∷ r) (append-none bs)

abbrev opens : ℕ → Bool
opens b = b == byte "("

abbrev closes : ℕ → Bool
closes b = b == byte ")"

-- the state after such a text
abbrev at : QuoteState → ℕ → Bool → Bool → LexState
at q n o c = record { quotes = q; levels = n; has_opened = o; has_closed = c }

abbrev made : QuoteState → List ℕ → LexState
made q bs = at q (fold next_levels 0 bs) (list_any opens bs) (list_any closes bs)

same : (q : QuoteState) (m n : ℕ) (o p c d : Bool) → m ≡ n → o ≡ p → c ≡ d → at q m o c ≡ at q n p d
same q m n o p c d e f g = cc

any-push : (p : ℕ → Bool) (bs : List ℕ) (b : ℕ) → list_any p (bs ++ b ∷ []) ≡ (list_any p bs || p b)
any-push p bs b = list_any-append p bs (b ∷ []) ∙ ap (λ (v : Bool). list_any p bs || v) (or-false (p b))

made-push : (q : QuoteState) (bs : List ℕ) (b : ℕ) (v : Bool) → made (next_quote_state q b) (bs ++ added v b)
    ≡ (if v then made (next_quote_state q b) bs else at (next_quote_state q b) (next_levels (fold next_levels 0 bs) b) (list_any opens bs || opens b) (list_any closes bs || closes b))
made-push q bs b true = ap (made (next_quote_state q b)) (append-none bs)
made-push q bs b false = same (next_quote_state q b) _ _ _ _ _ _ (fold-append next_levels 0 bs (b ∷ [])) (any-push opens bs b) (any-push closes bs b)

-- the state after one more byte is that of the longer text
pub lex_state-push : (xs : List ℕ) (b : ℕ) → lex_state_of (xs ++ b ∷ []) ≡ advance (lex_state_of xs) b
lex_state-push xs b = let by_bytes : lex_state_of (xs ++ b ∷ []) ≡ made (next_quote_state (quote_state_of xs) b) (without_quotes xs ++ added (is_quoted (quote_state_of xs)) b) =
    ap (λ (q : QuoteState). made q (without_quotes (xs ++ b ∷ []))) (fold-append next_quote_state Outside xs (b ∷ []))
    ∙ ap (made (next_quote_state (quote_state_of xs) b)) (without_quotes-push Outside xs b) in
    by_bytes ∙ made-push (quote_state_of xs) (without_quotes xs) b (is_quoted (quote_state_of xs))

grows : (u v : Bool) (n : ℕ) → (if u then n + 1 else if v then n - 1 else n) ≤ n + 1
grows true v n = omega arith
grows false true n = omega arith
grows false false n = omega arith

fold-low : (n : ℕ) (bs : List ℕ) → fold next_levels n bs ≤ n + length bs
fold-low n [] = omega arith
fold-low n (b ∷ bs) = omega (arith, fold-low (next_levels n b) bs, grows (among (codes "[{") b) (among (codes "]}") b) n)

shorter : (v : Bool) (x : ℕ) (bs xs : List ℕ) → length bs ≤ length xs → length (if v then bs else x ∷ bs) ≤ suc (length xs)
shorter true x bs xs h = omega arith
shorter false x bs xs h = omega arith

without_quotes-short : (q : QuoteState) (xs : List ℕ) → length (without_quotes_from q xs) ≤ length xs
without_quotes-short q [] = omega arith
without_quotes-short q (x ∷ xs) = shorter (is_quoted q) x (without_quotes_from (next_quote_state q x) xs) xs (without_quotes-short (next_quote_state q x) xs)

-- no more brackets are open than there are bytes
pub levels-low : (xs : List ℕ) → (lex_state_of xs).levels ≤ length xs
levels-low xs = omega (arith, fold-low 0 (without_quotes xs), without_quotes-short Outside xs)
