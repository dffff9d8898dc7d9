-- Examples of sums, each true by computing the definitions.
use Rattle.std.specs.Prelude.{◌≡◌, ℤ, pos, negsuc, Some, None, refl}
use Rattle.ets_term.specs.Integers.{greatest, least, in_range}
use Rattle.counters.specs.Sums.{new_value}
use Rattle.counters.specs.declared.ops.Op.{Op}

abbrev op : ℤ → ℤ → ℤ → Op
op increment threshold set_value = record { position = 2; increment = increment; threshold = Some (record { value = threshold; set_value = set_value }) }

past : in_range (new_value (op (pos 3) (pos 7) (pos 0)) (pos 5)) ≡ Some (pos 0)
past = refl

-- -5 counts down by 3 to -8, which is not under -8
met : in_range (new_value (op (negsuc 2) (negsuc 7) (pos 1)) (negsuc 4)) ≡ Some (negsuc 7)
met = refl

brought_back : in_range (new_value (op (pos 1) greatest (pos 0)) greatest) ≡ Some (pos 0)
brought_back = refl

over : in_range (new_value (record { position = 2; increment = pos 1; threshold = None }) greatest) ≡ None
over = refl

under : in_range (new_value (record { position = 2; increment = negsuc 0; threshold = None }) least) ≡ None
under = refl
