-- FNV-1a over the leading zero bytes of a small number: one product in place of one for each byte.
use Rattle.std.proofs.Common.{rules, pos, ◌≡◌, ◌<◌, ◌≤◌, ◌+◌, ◌*◌, ◌^◌, ◌%◌, ◌∙◌, arith, refl, sym, ap, ℕ, zero, suc, fold}
use Rattle.std.specs.Int.{cast_unsigned, byte_at, bytes_high_first, to_be_bytes, w16, w32, w64, w128}
use Rattle.std.specs.Int.Bits.{xor_zero_r}
use Rattle.std.proofs.Math.Nat.{div-eq_of_lt, mod-eq_of_lt, mul-one, mul_assoc, pow-succ', pow-le-pow_right}
use Rattle.std.proofs.lemmas.Nat.{mul-mod_first, mul-mod_second}
use Rattle.ets_term.specs.Encoding.{fnv_step, integer_bytes}

abbrev prime : ℕ
prime = 16777619

high-zero : (i n : ℕ) → 0 < i → n < 256 ^ i → byte_at i n ≡ 0
high-zero zero n some small = absurd (omega (arith, some))
high-zero (suc i) n some small = ap (λ q. q % 256) (div-eq_of_lt small)

step-zero : (h : ℕ) → fnv_step h 0 ≡ (h * prime) % 2 ^ 32
step-zero h = ap (λ b. (b * prime) % 2 ^ 32) (xor_zero_r h)

raised : (h k : ℕ) → (((h * prime) % 2 ^ 32) * prime ^ k) % 2 ^ 32 ≡ (h * prime ^ suc k) % 2 ^ 32
raised h k = mul-mod_first (h * prime) (prime ^ k) (2 ^ 32) ∙ ap (λ p. p % 2 ^ 32) (mul_assoc h prime (prime ^ k) ∙ ap (λ p. h * p) (sym (pow-succ' prime k)))

-- k zero bytes in front of j bytes
zeros-first : (k i j n h : ℕ) → i ≡ k + j → 0 < j → n < 256 ^ j → h < 2 ^ 32 → fold fnv_step h (bytes_high_first i n) ≡ fold fnv_step ((h * prime ^ k) % 2 ^ 32) (bytes_high_first j n)
zeros-first zero i j n h is some small below =
    let same : i ≡ j = omega (arith, is) in
    let stays : (h * prime ^ 0) % 2 ^ 32 ≡ h = ap (λ p. p % 2 ^ 32) (mul-one h) ∙ mod-eq_of_lt below in
    ap (λ m. fold fnv_step h (bytes_high_first m n)) same ∙ ap (λ s. fold fnv_step s (bytes_high_first j n)) (sym stays)
zeros-first (suc k) zero j n h is some small below = absurd (omega (arith, is))
zeros-first (suc k) (suc i) j n h is some small below =
    let rest : i ≡ k + j = omega (arith, is) in
    let least : j ≤ i = omega (arith, is) in
    let grows : 256 ^ j ≤ 256 ^ i = pow-le-pow_right (omega arith) least in
    let within : n < 256 ^ i = omega (arith, small, grows) in
    let byte : byte_at i n ≡ 0 = high-zero i n (omega (arith, some, least)) within in
    ap (λ b. fold fnv_step (fnv_step h b) (bytes_high_first i n)) byte
    ∙ ap (λ s. fold fnv_step s (bytes_high_first i n)) (step-zero h)
    ∙ zeros-first k i j n ((h * prime) % 2 ^ 32) rest some small (omega arith)
    ∙ ap (λ s. fold fnv_step s (bytes_high_first j n)) (raised h k)

module _ (low start : ℕ) (below : start < 2 ^ 32) where
  -- the bytes of a small integer are zeros, then its low bytes
  in-bytes : low < 2 ^ 64 → cast_unsigned w128 (pos low) ≡ low
  in-bytes small = search rules

  pub fourteen-zeros : low < 2 ^ 16 → fold fnv_step ((start * 3631439385) % 2 ^ 32) (to_be_bytes w16 low) ≡ fold fnv_step start (integer_bytes (pos low))
  unfolding integer_bytes
  fourteen-zeros small =
      ap (λ s. fold fnv_step s (to_be_bytes w16 low)) (mul-mod_second start (prime ^ 14) (2 ^ 32))
      ∙ sym (zeros-first 14 16 2 low start refl (omega arith) small below)
      ∙ ap (λ m. fold fnv_step start (to_be_bytes w128 m)) (sym (in-bytes (omega (arith, small))))

  pub twelve-zeros : low < 2 ^ 32 → fold fnv_step ((start * 3549196337) % 2 ^ 32) (to_be_bytes w32 low) ≡ fold fnv_step start (integer_bytes (pos low))
  unfolding integer_bytes
  twelve-zeros small =
      ap (λ s. fold fnv_step s (to_be_bytes w32 low)) (mul-mod_second start (prime ^ 12) (2 ^ 32))
      ∙ sym (zeros-first 12 16 4 low start refl (omega arith) small below)
      ∙ ap (λ m. fold fnv_step start (to_be_bytes w128 m)) (sym (in-bytes (omega (arith, small))))

  pub eight-zeros : low < 2 ^ 64 → fold fnv_step ((start * 1566662433) % 2 ^ 32) (to_be_bytes w64 low) ≡ fold fnv_step start (integer_bytes (pos low))
  unfolding integer_bytes
  eight-zeros small =
      ap (λ s. fold fnv_step s (to_be_bytes w64 low)) (mul-mod_second start (prime ^ 8) (2 ^ 32))
      ∙ sym (zeros-first 8 16 8 low start refl (omega arith) small below)
      ∙ ap (λ m. fold fnv_step start (to_be_bytes w128 m)) (sym (in-bytes small))
