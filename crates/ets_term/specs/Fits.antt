-- The ranges of the values in terms.
use Rattle.std.specs.Prelude.{◌<◌, ◌^◌, ◌≤ℤ◌}
use Rattle.std.specs.List.{AllByRecursion}
use Rattle.ets_term.specs.declared.term.Term.{Term}
use Rattle.ets_term.specs.Character.{IsAtomText}
use Rattle.ets_term.specs.Data.{Data, int, atom, pid, tid, tuple, list, binary, DataList, no_terms, term, data_of}
use Rattle.ets_term.specs.Integers.{least, greatest}

abbrev mutual
  -- integers, pids, identifiers and bytes are in their ranges, and atoms have an atom's text
  pub DataFits : Data → Type 0
  DataFits (int n) = (least ≤ℤ n) × (n ≤ℤ greatest)
  DataFits (atom s) = IsAtomText s
  DataFits (pid n) = n < 2 ^ 32
  DataFits (tid n) = n < 2 ^ 32
  DataFits (tuple ds) = DataListFits ds
  DataFits (list ds) = DataListFits ds
  DataFits (binary bs) = AllByRecursion (λ b. b < 256) bs

  -- each tree of the list is in range
  pub DataListFits : DataList → Type 0
  DataListFits no_terms = Unit {0}
  DataListFits (term d ds) = DataFits d × DataListFits ds

-- the term is in range, with all terms inside
abbrev pub Fits : Term → Type 0
Fits t = DataFits (data_of t)
