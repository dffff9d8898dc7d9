-- A line that is a call, from its first word to its end.
use Rattle.std.proofs.Common.{◌≡◌, ℕ, Bool, true, false, List, [], refl, ap, ◌∙◌}
use Rattle.std.specs.Prelude.{nat_le, ◌&&◌, if◌then◌else◌}
use Rattle.std.specs.List.{prefix_len}
use Rattle.ets_term.specs.declared.atom.TheConstants.{MAX_CHARACTERS}
use Rattle.term_text.specs.Text.{is_lowercase, is_name, begins}
use Rattle.ets_script.specs.Classes.{skip_blanks}
use Rattle.ets_script.specs.Reads.{Read, read, fault, and_then}
use Rattle.ets_script.specs.Commands.{Command, word, by_word, ask_command, is_silent}
use Rattle.ets_script.specs.LineForms.{IsPrintable, Means}
use Rattle.ets_script.specs.inside.Parsing.{IsCaller}
use Rattle.ets_script.proofs.LineForms.{command-printable, not_silent}

passed : (b c : Bool) (taken rest bs name after : List ℕ) → (if b && c then read taken rest else fault bs) ≡ read name after → b ≡ true
passed true c taken rest bs name after e = refl
passed false c taken rest bs name after e = cc

-- a line that begins with a word is not silent
pub word-not_silent : (line name rest : List ℕ) → word (skip_blanks line) ≡ read name rest → is_silent line ≡ false
word-not_silent line name rest e =
    let text = skip_blanks line in
    not_silent text (passed (begins is_lowercase text) (nat_le (prefix_len is_name text) MAX_CHARACTERS) _ _ text name rest e)

-- a clean line that is read as a call means that call
pub call-means : (line name rest : List ℕ) (call_command : Command) → IsPrintable line → word (skip_blanks line) ≡ read name rest → IsCaller name → ask_command name rest ≡ read call_command [] → Means line call_command
call-means line name rest call_command clean front caller call = (
  word-not_silent line name rest front,
  command-printable line [] call_command clean (ap (λ (r : Read (List ℕ)). and_then r by_word) front ∙ (caller rest ∙ call)),
)
