-- What rows lend, as contracts see it.
use Rattle.std.specs.Prelude.{List}
use Rattle.ets_term.specs.declared.term.Term.{Term}
use denote.Bor.{Bor}
use Rattle.bucket_table.specs.Slots.{Slot}
use Rattle.bucket_table.specs.declared.key_ref.KeyRef.{KeyRef}
use Rattle.bucket_table.specs.declared.key_ref.KeyRef.TheVariants.{Plain, Stored}

-- the key that is lent
abbrev pub key_of_ref : KeyRef → Term
key_of_ref (Plain key) = key.now
key_of_ref (Stored key) = key.now

-- the slot of which the key and the objects are lent
abbrev pub slot_of_ref : KeyRef × Bor (List Term) → Slot
slot_of_ref lent = (key_of_ref lent.0, lent.1.now)
