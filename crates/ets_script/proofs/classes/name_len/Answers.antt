use Rattle.std.proofs.Common.{◌≡◌, ℕ, true, refl, sym}
use Rattle.term_text.specs.Text.{is_lowercase, is_name}
use Rattle.ets_script.proofs.NamePrefixes.{front-after}
use Rattle.ets_script.proofs.classes.name_len.Goals as goal

named : (b : ℕ) → is_lowercase b ≡ true → is_name b ≡ true
unfolding is_name
named b low = rw low refl

pub returns-clause-len : goal.returns-clause-len
returns-clause-len c =
    let text = c.args.text.now in
    rw c.lowercase_len-letters.ensures.len (rw c.name_bytes_len.ensures.len (rw c.split_at.ensures.back (rw c.lowercase_len-letters.ensures.len (sym (front-after is_lowercase is_name named text)))))
