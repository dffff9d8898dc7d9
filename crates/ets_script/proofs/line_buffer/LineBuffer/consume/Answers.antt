use Rattle.ets_script.proofs.KnownBytes.{part-dropped}
use Rattle.ets_script.proofs.line_buffer.LineBuffer.consume.Goals as goal

pub returns-clause-bytes : goal.returns-clause-bytes
returns-clause-bytes c = rw (← c.self.view_is) (part-dropped c.self.inside.buffer.items c.self.inside.start c.self.inside.end c.args.count)
