use Rattle.ownership.proofs.Keeping.{kept-mark_dirty}
use Rattle.ownership.proofs.indices.Indices.mark_dirty.Goals as goal

pub returns-clause-indices : goal.returns-clause-indices
returns-clause-indices g c = kept-mark_dirty c.flush_dirty.new.self c.args.tables.now c.flush_dirty.ensures.indices c.flush_dirty.ensures.dirty c.args.id
