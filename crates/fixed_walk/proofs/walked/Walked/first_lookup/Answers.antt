use Rattle.std.proofs.Common.{ap, ◌∙◌}
use Rattle.fixed_walk.specs.Walk.{first_slot}
use Rattle.fixed_walk.specs.TableState.{TableState}
use Rattle.fixed_walk.proofs.FromLaws.{from-first}
use Rattle.fixed_walk.proofs.walked.Walked.first_lookup.Goals as goal

pub returns : goal.returns
returns g c =
    let rows = c.rows-rows.result.now in
    c.first_nonempty.ensures
    ∙ ap first_slot (from-first (g.R.Rows.key_at rows) (g.R.Rows.slots rows) c.first_place.result c.first_place.ensures ∙ c.rows-rows.ensures.slots ∙ ap (λ (t : TableState). t.content.slots) c.self.view_is)
