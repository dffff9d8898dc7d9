use Rattle.std.proofs.Common.{◌≡◌, ◌<◌, None, sym, ap, subst, ◌∙◌, length, get_or, set, arith}
use Rattle.std.proofs.lemmas.List.{get_or_read}
use Rattle.ownership.specs.World.{Tables, table_at}
use Rattle.ownership.specs.End.{table_after_exit}
use Rattle.ownership.specs.inside.Indices.{IndicesInvariant}
use Rattle.ownership.proofs.Reassigning.{written-again}
use Rattle.ownership.proofs.indices.Indices.reassign_table.Goals as goal

pub returns-clause-after : goal.returns-clause-after
returns-clause-after g c =
    let now = c.args.tables.now.items in
    let t = c.args.id in
    let within : t < length now = omega (arith, c.args.tables.now.ok.0) in
    let read : c.replace-table.result ≡ get_or now t c.replace-table.result = subst (λ x. x ≡ get_or now t x) (sym c.replace-table.ensures.value) c.index_mut.ensures.value in
    let at : c.replace-table.result ≡ table_at now t = get_or_read now t c.replace-table.result within read None in
    written-again now t c.replace-table.new.dest c.table_after_exit.result ∙ ap (set now t) (c.table_after_exit.ensures.after ∙ ap (table_after_exit c.args.processes.now.entries c.args.pid) at)

pub returns-clause-indices : goal.returns-clause-indices
returns-clause-indices g c =
    let now = c.args.tables.now.items in
    let t = c.args.id in
    let within : t < length now = omega (arith, c.args.tables.now.ok.0) in
    let read : c.replace-table.result ≡ get_or now t c.replace-table.result = subst (λ x. x ≡ get_or now t x) (sym c.replace-table.ensures.value) c.index_mut.ensures.value in
    let at : table_at now t ≡ c.replace-table.result = sym (get_or_read now t c.replace-table.result within read None) in
    subst (λ (ts : Tables). IndicesInvariant c.table_after_exit.new.self ts) (sym (written-again now t c.replace-table.new.dest c.table_after_exit.result)) (c.table_after_exit.ensures.indices now t at c.requires.heirs c.requires.indices)
