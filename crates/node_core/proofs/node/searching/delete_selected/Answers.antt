use Rattle.std.proofs.Common.{◌≡◌, Ok, ap, subst}
use Rattle.table_ops.specs.Queries.{is_chosen}
use Rattle.table_ops.specs.Results.{chosen_count}
use Rattle.table_ops.specs.Read.{all_objects}
use Rattle.fixed_walk.specs.TableState.{after_delete}
use Rattle.node_core.proofs.node.searching.delete_selected.Goals as goal

pub returns-clause-content : goal.returns-clause-content
returns-clause-content g c =
    let slots = c.args.table.now.content.slots in
    let same = c.in_ok-spec.ensures.same in
    rw c.in_ok-spec.ensures.good (
      ap Ok (subst (λ s. c.in_ok-deleted.field-0 ≡ chosen_count (is_chosen s) (all_objects slots)) same c.in_ok-deleted.ensures.count),
      subst (λ s. c.select_delete-deleted.new.self ≡ after_delete (λ _. is_chosen s) c.args.table.now) same c.in_ok-deleted.ensures.ok,
    )
