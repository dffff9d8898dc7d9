-- The last byte that is neither a space nor a tab, in a text with one byte more.
use Rattle.std.proofs.Common.{◌≡◌, refl, ap, ◌∙◌, ℕ, ◌+◌, ◌<◌, List, [], ◌∷◌, ◌++◌, length, take, get_or, filter, Bool, true, false, not, if◌then◌else◌, arith}
use Rattle.std.proofs.lemmas.Grind.{common_steps}
use Rattle.std.proofs.lemmas.List.{take_more}
use Rattle.std.proofs.lemmas.List.Elements.{filter-append}
use Rattle.node_reasons.specs.Classes.{is_gap, last_byte, last_non_blank}

last_byte-push : (bs : List ℕ) (b : ℕ) → last_byte (bs ++ b ∷ []) ≡ b
last_byte-push bs b = grind (arith, common_steps)

append-none : (bs : List ℕ) → bs ++ [] ≡ bs
append-none [] = refl
append-none (b ∷ bs) = ap (λ (r : List ℕ). b ∷ r) (append-none bs)

last_byte-kept : (gap : Bool) (bs : List ℕ) (b : ℕ) → last_byte (bs ++ (if not gap then b ∷ [] else [])) ≡ (if gap then last_byte bs else b)
last_byte-kept true bs b = ap last_byte (append-none bs)
last_byte-kept false bs b = last_byte-push bs b

pub sign_more : (text : List ℕ) (i : ℕ) → i < length text → last_non_blank (take (i + 1) text) ≡ (if is_gap (get_or text i 0) then last_non_blank (take i text) else get_or text i 0)
sign_more text i h = let test : ℕ → Bool = λ b. not (is_gap b) in
    ap last_non_blank (take_more text i 0 h) ∙ ap last_byte (filter-append test (take i text) (get_or text i 0 ∷ [])) ∙ last_byte-kept (is_gap (get_or text i 0)) (filter test (take i text)) (get_or text i 0)
