-- Equal terms write equal bytes, hashes are below 2^32, and FNV-1a gives its published hashes.
use Rattle.std.specs.Prelude.{◌≡◌, ℕ, ◌<◌, ◌^◌, List, [], ◌∷◌, fold, true, codes, refl}
use Rattle.std.proofs.Common.{ap, arith}
use Rattle.ets_term.specs.declared.term.Term.{Term}
use Rattle.ets_term.specs.Encoding.{fnv_step, fnv}
use Rattle.ets_term.specs.Keyed.{keyed_hash}
use Rattle.ets_term.specs.Order.{same}
use Rattle.ets_term.specs.Writes.{writes}
use Rattle.ets_term.specs.laws.Same.{same-exact}

pub writes-same : (s t : Term) → same s t ≡ true → writes s ≡ writes t
writes-same s t h = ap writes (same-exact s t h)

stays_below : (bytes : List ℕ) (h : ℕ) → h < 2 ^ 32 → fold fnv_step h bytes < 2 ^ 32
stays_below [] h b = b
stays_below (x ∷ xs) h b = stays_below xs (fnv_step h x) (omega arith)

pub fnv-below : (bytes : List ℕ) → fnv bytes < 2 ^ 32
fnv-below bytes = stays_below bytes 2166136261 (omega arith)

pub keyed_hash-below : (by : ℕ) (ws : List ℕ) → keyed_hash by ws < 2 ^ 32
keyed_hash-below by ws = omega arith

-- the published hashes of no bytes, `a` and `foobar`
pub fnv-of-none : fnv [] ≡ 2166136261
fnv-of-none = refl

pub fnv-of-a : fnv (codes "a") ≡ 3826002220
fnv-of-a = refl

pub fnv-of-foobar : fnv (codes "foobar") ≡ 3214735720
fnv-of-foobar = refl
