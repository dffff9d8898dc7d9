-- The end of a line in bytes that are searched part by part.
use Rattle.std.proofs.Common.{◌≡◌, ℕ, ◌+◌, ◌≤◌, ◌<◌, ◌⊎◌, Bool, true, false, List, [], ◌∷◌, ◌++◌, length, take, refl, sym, ap, ◌∙◌, subst, arith, inl, inr, append_assoc, length-append}
use Rattle.std.proofs.lemmas.Bool.{true≢false}
use Rattle.std.proofs.lemmas.List.{take-take, length-take-le, length-drop, take_more}
use Rattle.std.proofs.lemmas.Slice.{between_is}
use Rattle.std.specs.List.{slice_range}
use Rattle.std.proofs.lemmas.List.Elements.{All-append}
use Rattle.std.specs.Io.BufRead.{strip_last}
use Rattle.ets_script.specs.Lines.{text, too_long, IsOneLine}
use Rattle.ets_script.specs.inside.LineBuffers.{IsLineEnd, PassedOver, EndsLine}

-- the first place that has an LF, and it
with-line-end : (bytes : List ℕ) (n : ℕ) → IsLineEnd bytes n → take (n + 1) bytes ≡ take n bytes ++ 10 ∷ []
with-line-end bytes n found = take_more bytes n 0 found.0 ∙ ap (λ x. take n bytes ++ x ∷ []) found.2

bytes-of : (buffered : List ℕ) (place : ℕ) → IsLineEnd buffered place → length (take place buffered) ≡ place
bytes-of buffered place found = length-take-le place buffered (let lt = found.0 in omega arith)

pub no-byte : IsOneLine []
no-byte k d lt = absurd (omega (arith, lt))

-- a whole line in the buffer
pub text-found : (bytes : List ℕ) (skips : Bool) (place n : ℕ) → skips ≡ false → IsLineEnd bytes place → place ≤ 65536 → n ≤ length (take place bytes) → take n (take place bytes) ≡ strip_last 13 (take place bytes)
    → EndsLine bytes skips (place + 1) (text (take n bytes))
text-found bytes skips place n whole found short le is skipped passed =
    let e = bytes-of bytes place found in
    let none = subst (λ (b : Bool). PassedOver b skipped) whole passed in
    let within : n ≤ place = omega (arith, e, le) in (
      take place bytes,
      found.1,
      omega (arith, e, short),
      inl (ap (λ k. k ++ take (place + 1) bytes) none ∙ with-line-end bytes place found, sym (take-take n place bytes within) ∙ is),
    )

-- one that is too long, and of which a part may have been passed over
pub long-found : (bytes : List ℕ) (skips : Bool) (place : ℕ) → IsLineEnd bytes place → (skips ≡ false → 65536 < place) → EndsLine bytes skips (place + 1) too_long
long-found bytes skips place found long skipped passed = (
  skipped ++ take place bytes,
  All-append (λ b. b ≡ 10 → ⊥) skipped (take place bytes) (one_line skips passed) found.1,
  enough skips passed long,
  inl (ap (λ k. skipped ++ k) (with-line-end bytes place found) ∙ sym (append_assoc skipped (take place bytes) (10 ∷ []))),
)
  where
    one_line : (b : Bool) → PassedOver b skipped → IsOneLine skipped
    one_line false p = subst IsOneLine (sym p) no-byte
    one_line true p = p.0

    enough : (b : Bool) → PassedOver b skipped → (b ≡ false → 65536 < place) → 65536 < length (skipped ++ take place bytes)
    enough false p l = let lt = l refl in let e = bytes-of bytes place found in omega (arith, lt, e, length-append skipped (take place bytes))
    enough true p l = let lt = p.1 in omega (arith, lt, length-append skipped (take place bytes))

pub long-if : (skips : Bool) (n : ℕ) → (skips ≡ true) ⊎ ((skips ≡ false) × (65536 < n)) → skips ≡ false → 65536 < n
long-if skips n (inl is) other = absurd (true≢false (sym is ∙ other))
long-if skips n (inr (other, long)) same = long

-- a part of bytes
pub part-len : (items : List ℕ) (s e : ℕ) → e ≤ length items → length (slice_range items s e) ≤ e
part-len items s e fits = omega (arith, ap length (between_is items s e), length-drop s (take e items), length-take-le e items fits)
