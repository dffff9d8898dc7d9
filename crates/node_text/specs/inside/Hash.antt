-- The hash of a key in a table of a store.
use Rattle.std.specs.Prelude.{ℕ, ◌<◌, ◌^◌}
use Rattle.ets_term.specs.declared.term.Term.{Term}
use Rattle.ets_term.specs.Encoding.{encoding, fnv}
use Rattle.ets_term.specs.Keyed.{words, keyed_hash}
use Rattle.ets_term.specs.laws.Hashed.{fnv-below, keyed_hash-below}
use Rattle.node_text.specs.declared.store_hash.StoreHash.{StoreHash}
use Rattle.node_text.specs.declared.store_hash.StoreHash.TheVariants.{Fixed, Seeded}

-- FNV-1a, or the hash with the factor of a seed
abbrev pub store_hash : StoreHash → Term → ℕ
store_hash Fixed term = fnv (encoding term)
store_hash (Seeded hasher) term = keyed_hash hasher.factor (words term)

pub store_hash-below : (hasher : StoreHash) (term : Term) → store_hash hasher term < 2 ^ 32
store_hash-below Fixed term = fnv-below (encoding term)
store_hash-below (Seeded hasher) term = keyed_hash-below hasher.factor (words term)
