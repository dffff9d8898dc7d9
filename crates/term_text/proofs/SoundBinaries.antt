-- The bytes after the `<` of a binary or pid.
use Rattle.std.proofs.Common.{ℕ, ◌≡◌, refl, ap, sym, subst, ◌∙◌, ◌++◌, ◌==◌, suc, List, [], ◌∷◌, length, append_assoc}
use Rattle.ets_term.specs.declared.term.Term.TheVariants.{Binary}
use Rattle.term_text.specs.declared.fault.TextFault.TheVariants.{Unexpected}
use Rattle.term_text.specs.Text.{is_blank, is_digit}
use Rattle.term_text.specs.inside.Reader.{OpenBracket, byte, whole, angle, opened_binary, after_string, next}
use Rattle.term_text.specs.Faults.{opened}
use Rattle.term_text.specs.Grammar.{AreBlanks, SpellsQuoted, Spells, none, no_bytes, byte_string}
use Rattle.term_text.proofs.Meaning.{At, Holds, at_more, blank-more, holds-if, noticed}
use Rattle.term_text.proofs.Signs.{is-byte}
use Rattle.term_text.proofs.SoundNumbers.{one-digit}
use Rattle.term_text.proofs.SoundTerms.{angle-text, after-form, sign-holds}

pub angle-second : (at : ℕ) (os : List OpenBracket) (pre : List ℕ) (b : ℕ) → at ≡ length pre → At os pre (60 ∷ []) → Holds (pre ++ b ∷ []) (next at angle os b)
angle-second at os pre b len a = holds-if (b == 60) _ _
    (λ e. record { meaning = ([], at_more os pre (60 ∷ []) ((60 ∷ 60 ∷ []) ++ []) b a (ap (λ (x : ℕ). 60 ∷ x ∷ []) (is-byte b 60 e)), refl) })
    (λ e. holds-if (b == 48) _ _
    (λ f. record { meaning = (60 ∷ 48 ∷ [], at_more os pre (60 ∷ []) (60 ∷ 48 ∷ []) b a (ap (λ (x : ℕ). 60 ∷ x ∷ []) (is-byte b 48 f)), (refl, tt), angle-text (48 ∷ [])) })
    (λ f. noticed pre b (Unexpected at) len))

pub first-byte : (at : ℕ) (os : List OpenBracket) (pre blanks : List ℕ) (b : ℕ) → at ≡ length pre → At os pre ((60 ∷ 60 ∷ []) ++ blanks) → AreBlanks blanks → Holds (pre ++ b ∷ []) (next at opened_binary os b)
first-byte at os pre blanks b len a bl = holds-if (is_blank b) _ _
    (λ d. record { meaning = (blanks ++ b ∷ [], at_more os pre ((60 ∷ 60 ∷ []) ++ blanks) ((60 ∷ 60 ∷ []) ++ (blanks ++ b ∷ [])) b a refl, blank-more blanks b bl d) })
    (λ d. holds-if (b == 34) _ _
    (λ e. record { meaning = ((60 ∷ 60 ∷ []) ++ blanks, [], (blanks, refl, bl), at_more os pre ((60 ∷ 60 ∷ []) ++ blanks) (((60 ∷ 60 ∷ []) ++ blanks) ++ 34 ∷ []) b a (ap (λ (x : ℕ). ((60 ∷ 60 ∷ []) ++ blanks) ++ x ∷ []) (is-byte b 34 e)), none, tt, tt) })
    (λ e. holds-if (is_digit b) _ _
    (λ f. record { meaning = ((60 ∷ 60 ∷ []) ++ blanks, b ∷ [], (blanks, refl, opened blanks bl), at_more os pre ((60 ∷ 60 ∷ []) ++ blanks) (((60 ∷ 60 ∷ []) ++ blanks) ++ b ∷ []) b a refl, one-digit (byte []) b f, after-form os pre ((60 ∷ 60 ∷ []) ++ blanks) at a len) })
    (λ f. sign-holds at (62 ∷ 62 ∷ []) (whole (Binary [])) os pre ((60 ∷ 60 ∷ []) ++ blanks) b len a (λ k. no_bytes k blanks bl) (angle-text (60 ∷ blanks)))))

string-grown : (before body behind : List ℕ) (z : List ℕ) → (before ++ (34 ∷ (body ++ (34 ∷ behind)))) ++ z ≡ before ++ (34 ∷ (body ++ (34 ∷ (behind ++ z))))
string-grown before body behind z = append_assoc before (34 ∷ (body ++ (34 ∷ behind))) z ∙ ap (λ (w : List ℕ). before ++ (34 ∷ w)) (append_assoc body (34 ∷ behind) z)

pub string-holds : (at : ℕ) (bs : List ℕ) (os : List OpenBracket) (pre before body behind : List ℕ) (b : ℕ) → at ≡ length pre → At os pre ((60 ∷ 60 ∷ []) ++ (before ++ (34 ∷ (body ++ (34 ∷ behind))))) → AreBlanks before → SpellsQuoted 34 body bs → AreBlanks behind
    → Holds (pre ++ b ∷ []) (next at (after_string bs) os b)
string-holds at bs os pre before body behind b len a h sp i = holds-if (is_blank b) _ _
    (λ d. record { meaning = (before, body, behind ++ b ∷ [], at_more os pre _ ((60 ∷ 60 ∷ []) ++ (before ++ (34 ∷ (body ++ (34 ∷ (behind ++ b ∷ [])))))) b a (ap (λ (w : List ℕ). 60 ∷ 60 ∷ w) (string-grown before body behind (b ∷ []))), h, sp, blank-more behind b i d) })
    (λ d. sign-holds at (62 ∷ 62 ∷ []) (whole (Binary bs)) os pre ((60 ∷ 60 ∷ []) ++ (before ++ (34 ∷ (body ++ (34 ∷ behind))))) b len a
    (λ k. let P : List ℕ → Type 0 = λ w. Spells (suc k) (60 ∷ 60 ∷ w) (Binary bs) in subst P (sym (string-grown before body behind (62 ∷ 62 ∷ []))) (byte_string k before body behind bs h sp i))
    (angle-text (60 ∷ (before ++ (34 ∷ (body ++ (34 ∷ behind)))))))
