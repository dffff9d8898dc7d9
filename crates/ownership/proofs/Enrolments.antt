-- A new process is the last.
use Rattle.indexmap.proofs.CallerLemmas.{insert_entry-new}

pub ruleset enrolling = (insert_entry-new)
