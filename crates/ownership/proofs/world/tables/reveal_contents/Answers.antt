use Rattle.std.proofs.Common.{◌≡◌, inl, inr, Some, None, sym, ap, subst, ◌∙◌, arith}
use Rattle.std.proofs.lemmas.Bool.{cases_lt}
use Rattle.std.proofs.lemmas.List.{get_or_default}
use Rattle.std.proofs.lemmas.Option.{same_Some}
use Rattle.fixed_walk.specs.TableState.{TableState}
use Rattle.table_ops.specs.Invariants.{IsContent}
use Rattle.ownership.specs.World.{Table, table_at}
use Rattle.ownership.proofs.FixedTables.{is-there}
use Rattle.ownership.proofs.world.tables.reveal_contents.Goals.{in-Some, in_default}
use Rattle.ownership.proofs.world.tables.reveal_contents.Goals as goal

pub loop-found-init : goal.loop-found-init
loop-found-init g c t table less at = absurd (omega (arith, less))

pub loop-found-preserved : goal.loop-found-preserved
loop-found-preserved g c t table less at = elim (cases_lt t c.loop-found.found-index) [
  | inl before ↦ c.loop-found.invariant t table before at
  | inr past ↦
      let here : t ≡ c.loop-found.found-index = omega (arith, less, past) in
      let is : c.found-item.result ≡ Some table =
      c.found-item.is ∙ get_or_default c.args.tables.now c.loop-found.found-index c.found-item.result None c.loop-found-test.true
      ∙ ap (table_at c.args.tables.now) (sym here) ∙ at
      in
      elim c.match-found.branch [
        | in-Some w ↦
            let same : w.in-Some.owned ≡ table = same_Some _ _ (sym w.in-Some.is ∙ is) in
            subst (λ (state : TableState). IsContent state.content) (w.table.ensures ∙ ap (λ (own : Table). own.state) same) w.reveal_invariant.ensures.content
        | in_default w ↦ absurd (w.in_default.not-Some table is)
      ]
]

pub returns : goal.returns
returns g c t table at =
    let within = is-there c.args.tables.now t table at in
    c.loop-found.invariant t table (omega (arith, within, c.loop-found-test.false)) at
