-- The lexical state of a line at an offset: its open quotes and brackets.
use Rattle.std.specs.Prelude.{ℕ, ◌+◌, ◌-◌, List, [], ◌∷◌, Bool, true, false, ◌==◌, if◌then◌else◌, fold, codes}
use Rattle.std.specs.List.{list_any}
use Rattle.std.specs.Str.{byte}
use Rattle.node_reasons.specs.Classes.{among}
use Rattle.node_reasons.specs.declared.lex_state.LexState.{LexState}
use Rattle.node_reasons.specs.declared.lex_state.QuoteState.{QuoteState}
use Rattle.node_reasons.specs.declared.lex_state.QuoteState.TheVariants.{Outside, Inside, Escaped}

abbrev pub is_quoted : QuoteState → Bool
is_quoted Outside = false
is_quoted (Inside quote) = true
is_quoted (Escaped quote) = true

-- after one more byte: a quote `'` or `"` is closed by the same sign, unless a backslash comes before it
abbrev pub next_quote_state : QuoteState → ℕ → QuoteState
next_quote_state Outside b = if among (codes "'\"") b then Inside b else Outside
next_quote_state (Inside quote) b = if b == quote then Outside else if b == byte "\\" then Escaped quote else Inside quote
next_quote_state (Escaped quote) b = Inside quote

-- whether a text ends in quotes
abbrev pub quote_state_of : List ℕ → QuoteState
quote_state_of text = fold next_quote_state Outside text

-- a text that begins in this state, without the bytes in quotes
abbrev pub without_quotes_from : QuoteState → List ℕ → List ℕ
without_quotes_from before [] = []
without_quotes_from before (b ∷ bs) = if is_quoted before then without_quotes_from (next_quote_state before b) bs else b ∷ without_quotes_from (next_quote_state before b) bs

-- a text without the bytes in quotes
abbrev pub without_quotes : List ℕ → List ℕ
without_quotes text = without_quotes_from Outside text

-- the number of open brackets after one more byte
abbrev pub next_levels : ℕ → ℕ → ℕ
next_levels n b = if among (codes "[{") b then n + 1 else if among (codes "]}") b then n - 1 else n

-- the state at the end of a text: whether it is in quotes; the number of open brackets; and whether each parenthesis
-- was read; signs in quotes do not count
abbrev pub lex_state_of : List ℕ → LexState
lex_state_of text = record {
  quotes = quote_state_of text;
  levels = fold next_levels 0 (without_quotes text);
  has_opened = list_any (λ b. b == byte "(") (without_quotes text);
  has_closed = list_any (λ b. b == byte ")") (without_quotes text);
}
