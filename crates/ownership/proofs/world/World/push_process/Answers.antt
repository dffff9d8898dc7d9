use Rattle.std.proofs.Common.{◌≡◌, ◌++◌, ◌∷◌, [], true, None, nat_eq, ap, ◌∙◌}
use Rattle.indexmap.proofs.CallerLemmas.{insert_entry-new}
use Rattle.ownership.specs.World.{World, process_at}
use Rattle.ownership.proofs.world.World.push_process.Goals as goal

pub returns-clause-ok : goal.returns-clause-ok
returns-clause-ok g c =
    let fresh : process_at c.self.inside.processes.entries c.args.pid ≡ None = ap (λ (v : World). process_at v.processes c.args.pid) c.self.view_is ∙ c.requires in
    let entries = c.in_ok-insert.ensures.entries ∙ insert_entry-new nat_eq c.self.inside.processes c.args.pid (record { lives = true; mailbox = c.new.result }) fresh in
    ap (λ es. record { max_processes = c.self.inside.max_processes; max_tables = c.self.inside.max_tables; processes = es; tables = c.self.inside.tables.items }) entries
    ∙ ap (λ m. record { max_processes = c.self.inside.max_processes; max_tables = c.self.inside.max_tables; processes = c.self.inside.processes.entries ++ (c.args.pid, record { lives = true; mailbox = m }) ∷ []; tables = c.self.inside.tables.items }) c.new.ensures
    ∙ ap (λ (v : World). record v { processes = v.processes ++ (c.args.pid, record { lives = true; mailbox = [] }) ∷ [] }) c.self.view_is
