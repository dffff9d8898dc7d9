use Rattle.std.proofs.Common.{rules, ◌≡◌, Some, sym, ap, ◌∙◌}
use Rattle.ownership.specs.World.{Table, metadata_of, table_at}
use Rattle.ownership.specs.End.{table_after_exit}
use Rattle.ownership.proofs.Keeping.{kept-left}
use Rattle.ownership.proofs.indices.Indices.table_after_exit.Goals as goal

pub returns-then-not-is_owned_by-clause-indices : goal.returns-then-not-is_owned_by-clause-indices
returns-then-not-is_owned_by-clause-indices g c = λ tables t at heirs kept.
    let ps = c.args.processes.now.entries in
    let is : Some c.release_all.new.self ≡ table_after_exit ps c.args.pid c.args.table = search rules in
    kept-left ps c.args.pid c.args.self.now tables kept heirs t c.release_all.new.self (ap (table_after_exit ps c.args.pid) at ∙ sym is)

pub returns-in-Some-clause-indices : goal.returns-in-Some-clause-indices
returns-in-Some-clause-indices g c = λ tables t at heirs kept.
    let ps = c.args.processes.now.entries in
    let is : Some c.set_owner.new.self ≡ table_after_exit ps c.args.pid c.args.table = search rules in
    kept-left ps c.args.pid c.args.self.now tables kept heirs t c.set_owner.new.self (ap (table_after_exit ps c.args.pid) at ∙ sym is)

pub returns-clause-indices : goal.returns-clause-indices
returns-clause-indices g c = λ tables t at heirs kept.
    let there : table_at tables t ≡ Some c.in_ok-table.table = at ∙ c.in_ok-table.was in
    c.remove.ensures.indices tables t (ap metadata_of there ∙ ap (λ (x : Table). Some x.metadata) (sym c.release_all.ensures) ∙ ap Some (sym c.metadata-3.ensures)) kept
