-- A name of more characters than an atom has.
use Rattle.std.proofs.Common.{◌≡◌, ◌+◌, ◌≤◌, refl, ℕ, List, true, nat_lt, arith, rules}
use Rattle.std.specs.List.{prefix_len}
use Rattle.ets_term.specs.Character.{max_characters}
use Rattle.term_text.specs.Text.{is_lowercase, is_name}
use Rattle.node_reasons.specs.declared.syntax_problem.SyntaxProblem.TheVariants.{LongName}
use Rattle.node_reasons.specs.SyntaxProblems.{diagnose_word}

small-name : (b : ℕ) → is_lowercase b ≡ true → is_name b ≡ true
unfolding is_name
small-name b h = rw h refl

above : (m n : ℕ) → m ≤ n → nat_lt m (1 + n) ≡ true
above m n h = search (arith, rules)

pub diagnose_word-long : (b : ℕ) (after : List ℕ) → is_lowercase b ≡ true → max_characters ≤ prefix_len is_name after → diagnose_word b after ≡ LongName
diagnose_word-long b after h k = let named : is_name b ≡ true = small-name b h in
    let longer : nat_lt max_characters (1 + prefix_len is_name after) ≡ true = above max_characters (prefix_len is_name after) k in
    rw (h, named, longer) refl
