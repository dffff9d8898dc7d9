use Rattle.std.proofs.Common.{◌⊎◌, ◌<◌, ◌+◌, ℕ, List, inl, inr, subst, length, get_or, drop, arith}
use Rattle.ownership.specs.inside.Indices.{IsAmong, ids_under}
use Rattle.ownership.proofs.Ascending.{cut-at, none-left}
use Rattle.ownership.proofs.Owning.{adds-more, inherited-more}
use Rattle.ownership.proofs.indices.Indices.index_heirs.Goals as goal

pub returns-in_err-index_heir-clause-owners : goal.returns-in_err-index_heir-clause-owners
returns-in_err-index_heir-clause-owners g c = adds-more c.args.self.now c.loop-id.self c.index_heir.new.self c.loop-id.invariant.stays c.index_heir.ensures.owners

pub loop-id-preserved : goal.loop-id-preserved
loop-id-preserved g c =
    let ids = c.args.ids.now in
    let i = c.loop-id.id-index in
    let now = c.loop-id.self in
    let new = c.index_heir.new.self in
    let within : i < length ids = omega (arith, c.loop-id-test.true) in
    record {
      stays = adds-more c.args.self.now now new c.loop-id.invariant.stays c.index_heir.ensures.owners;
      rest = inherited-more now new c.args.processes.now.entries c.args.tables.now ids (drop (i + 1) ids) (get_or ids i 0) c.index_heir.ensures.owners c.in_ok-index_heir.ensures.ok
          (λ t table heir a at lives. subst (λ (xs : List ℕ). IsAmong t xs ⊎ IsAmong t (ids_under now heir.pid)) (cut-at ids i within) (c.loop-id.invariant.rest t table heir a at lives));
    }

pub returns-clause-ok : goal.returns-clause-ok
returns-clause-ok g c = λ t table heir a at lives.
    let ids = c.args.ids.now in
    elim (c.loop-id.invariant.rest t table heir a at lives) [ inl left ↦ absurd (none-left ids c.loop-id.id-index t (omega arith) left) | inr found ↦ found ]
