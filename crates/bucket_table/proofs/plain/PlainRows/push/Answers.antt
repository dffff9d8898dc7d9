use Rattle.std.proofs.Common.{◌∙◌}
use Rattle.indexmap.proofs.CallerLemmas.{insert_entry-new}
use Rattle.ets_term.specs.Order.{same}
use Rattle.bucket_table.proofs.plain.PlainRows.push.Goals as goal

pub returns-clause-ok : goal.returns-clause-ok
returns-clause-ok c = c.in_ok-insert.ensures.entries ∙ insert_entry-new same c.args.self.now.slots c.args.key c.args.objects c.requires
