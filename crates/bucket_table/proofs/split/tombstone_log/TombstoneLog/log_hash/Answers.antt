use Rattle.std.proofs.Common.{sym, subst}
use Rattle.bucket_table.specs.inside.TombstoneLog.{IsAmong}
use Rattle.bucket_table.proofs.sweep.Log.{among-front, among-last}
use Rattle.bucket_table.proofs.split.tombstone_log.TombstoneLog.log_hash.Goals as goal

pub returns-then-len-capacity : goal.returns-then-len-capacity
returns-then-len-capacity c = λ kept. (
  kept,
  (λ h a. subst (IsAmong h) (sym c.push_reserved.ensures.items) (among-front h c.args.hash c.args.self.now.hashes.items a)),
  (λ _. subst (IsAmong c.args.hash) (sym c.push_reserved.ensures.items) (among-last c.args.hash c.args.self.now.hashes.items)),
)
