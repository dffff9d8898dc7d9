use Rattle.std.proofs.Common.{◌≡◌, ℕ, vec_len, sym, subst, arith}
use Rattle.split_key.specs.Keys.{IsPowerOfTwo}
use Rattle.bench_layers.proofs.list.build_empty_list.Goals as goal

pub returns-clause-ready : goal.returns-clause-ready
returns-clause-ready c =
    let P : ℕ → Type 0 = λ n. IsPowerOfTwo n in
    let len : vec_len c.loop-bucket.list.dummies ≡ c.args.buckets = omega arith in
    record { dummies = c.loop-bucket.invariant.dummies; power = subst P (sym len) c.requires.power; few = omega (arith, len) }
