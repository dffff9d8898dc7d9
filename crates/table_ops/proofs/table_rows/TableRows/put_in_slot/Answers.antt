use Rattle.table_ops.proofs.PutLaws.{key-there}
use Rattle.table_ops.proofs.table_rows.TableRows.put_in_slot.Goals as goal

pub put_in_bag-requires : goal.put_in_bag-requires
put_in_bag-requires g c = key-there _ _ c.requires

pub put_last-requires : goal.put_last-requires
put_last-requires g c = key-there _ _ c.requires
