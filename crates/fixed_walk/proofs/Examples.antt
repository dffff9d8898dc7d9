-- Examples of steps, each true by computing the definitions.
use Rattle.std.specs.Prelude.{◌≡◌, pos, List, [], ◌∷◌, Some, None, refl}
use Rattle.ets_term.specs.declared.term.Term.{Term}
use Rattle.ets_term.specs.declared.term.Term.TheVariants.{Int}
use Rattle.bucket_table.specs.Slots.{Slot}
use Rattle.fixed_walk.specs.Walk.{first_key}

abbrev one : Term
one = Int (pos 1)

abbrev two : Term
two = Int (pos 2)

-- key 1 was deleted while the table is fixed, and key 2 has an object
abbrev slots : List Slot
slots = (one, []) ∷ (two, two ∷ []) ∷ []

first : first_key slots ≡ Some two
first = refl

no_more : first_key ((one, []) ∷ []) ≡ None
no_more = refl
