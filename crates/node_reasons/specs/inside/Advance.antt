-- How a lexical state advances by one byte.
use Rattle.std.specs.Prelude.{ℕ, ◌||◌, ◌==◌, if◌then◌else◌}
use Rattle.std.specs.Str.{byte}
use Rattle.node_reasons.specs.declared.lex_state.LexState.{LexState}
use Rattle.node_reasons.specs.LexStates.{is_quoted, next_quote_state, next_levels}

-- a state after one more byte
abbrev pub advance : LexState → ℕ → LexState
advance state b = if is_quoted state.quotes
    then record state { quotes = next_quote_state state.quotes b }
    else record {
      quotes = next_quote_state state.quotes b;
      levels = next_levels state.levels b;
      has_opened = state.has_opened || (b == byte "(");
      has_closed = state.has_closed || (b == byte ")");
    }
