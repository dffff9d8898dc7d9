-- The buffered lines of a script, while they are read part by part.
use Rattle.std.proofs.Common.{◌≡◌, ℕ, ◌≤◌, ◌<◌, ◌⊎◌, Bool, true, false, List, [], ◌++◌, length, refl, sym, ap, ◌∙◌, subst, Option, inl, inr, append-nil, arith, ◌∷◌}
use Rattle.std.proofs.lemmas.List.{nil_from_length}
use Rattle.std.proofs.lemmas.List.Elements.{All-append}
use Rattle.std.proofs.lemmas.Bool.{true≢false}
use Rattle.std.specs.Io.KnownBytes.{IsAtEnd}
use Rattle.ets_packets.proofs.KnownBytes.{between}
use Rattle.ets_script.specs.Lines.{Line, text, too_long, IsOneLine, IsLine}
use Rattle.ets_script.specs.inside.LineBuffers.{LineBufferState, Refills, PassedOver, Stays, IsPassed, Waits}
use Rattle.ets_script.proofs.LineBuffers.{no-byte}

pub weaker-line : (bytes : List ℕ) (line : Line) (L M : Type 0) → (L → M) → IsLine bytes line L → IsLine bytes line M
weaker-line bytes (text t) L M f (before, one, short, inl p) = (before, one, short, inl p)
weaker-line bytes (text t) L M f (before, one, short, inr (p, some, last, q)) = (before, one, short, inr (p, some, f last, q))
weaker-line bytes too_long L M f (before, one, long, inl p) = (before, one, long, inl p)
weaker-line bytes too_long L M f (before, one, long, inr (p, some, last)) = (before, one, long, inr (p, some, f last))

pub one-line-of : (b : Bool) (skipped : List ℕ) → PassedOver b skipped → IsOneLine skipped
one-line-of false skipped p = subst IsOneLine (sym p) no-byte
one-line-of true skipped p = p.0

pub both-one-line : (xs ys : List ℕ) → IsOneLine xs → IsOneLine ys → IsOneLine (xs ++ ys)
both-one-line xs ys p q = All-append (λ b. b ≡ 10 → ⊥) xs ys p q

pub one-line-buffered : (h1 h2 : LineBufferState) → IsOneLine h1.bytes → Waits h1 h2 → IsOneLine h2.bytes
one-line-buffered h1 h2 one waits = buffered waits.kept
  where
    buffered : Stays h1 h2 ⊎ IsPassed h1 h2 → IsOneLine h2.bytes
    buffered (inl (same, was, is)) = subst IsOneLine (sym same) one
    buffered (inr (none, is, long)) = subst IsOneLine (sym none) no-byte

pub none-or-some : (bytes : List ℕ) → (bytes ≡ []) ⊎ (0 < length bytes)
none-or-some [] = inl refl
none-or-some (b ∷ bs) = inr (omega arith)

-- the buffer at the end of the input
pub record Ended (h : LineBufferState) (left : Option (List ℕ)) : Type 0 where
  pub one_line : IsOneLine h.bytes
  pub short : length h.bytes ≤ 65536
  pub skipping : h.is_skipping ≡ true → h.bytes ≡ []
  pub end : IsAtEnd left

pub refill-end : (h1 h2 h3 : LineBufferState) (l1 l2 : Option (List ℕ)) (n : ℕ) → IsOneLine h1.bytes → Waits h1 h2 → Refills h2 h3 (between l1 l2) n → n ≡ 0 → Ended h3 l2
refill-end h1 h2 h3 l1 l2 n one waits r zero_read =
    let same : h3.bytes ≡ h2.bytes = r.added ∙ ap (λ k. h2.bytes ++ k) (nil_from_length r.more (r.counted ∙ zero_read)) ∙ append-nil h2.bytes in
    record {
      one_line = subst IsOneLine (sym same) (one-line-buffered h1 h2 one waits);
      short = subst (λ (k : List ℕ). length k ≤ 65536) (sym same) waits.short;
      skipping = λ skips. same ∙ empty waits.kept (sym r.skipping ∙ skips);
      end = r.end zero_read;
    }
  where
    empty : Stays h1 h2 ⊎ IsPassed h1 h2 → h2.is_skipping ≡ true → h2.bytes ≡ []
    empty (inl (same, was, is)) skips = absurd (true≢false (sym skips ∙ is))
    empty (inr (none, is, long)) skips = none
