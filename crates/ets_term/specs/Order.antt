-- The order of terms, and their equality.
use Rattle.std.specs.Prelude.{ℕ, suc, Bool}
use Rattle.std.specs.declared.cmp.Ordering.{Ordering}
use Rattle.std.specs.declared.cmp.Ordering.TheVariants.{Less, Equal, Greater}
use Rattle.std.specs.Ordering.{on, eq_by_cmp, nat_cmp, int_cmp, ordering_then}
use Rattle.std.specs.Cmp.Lexicographic.{slice_cmp}
use Rattle.ets_term.specs.declared.term.Term.{Term}
use Rattle.ets_term.specs.Data.{Data, int, atom, pid, tid, tuple, list, binary, DataList, no_terms, term, data_of}

-- the rank of a term's kind: integer < atom < table identifier < pid < tuple < list < binary
abbrev pub rank : Data → ℕ
rank (int n) = 0
rank (atom s) = 1
rank (tid n) = 2
rank (pid n) = 3
rank (tuple ds) = 4
rank (list ds) = 5
rank (binary s) = 6

-- the number of trees in the list
abbrev pub data_list_len : DataList → ℕ
data_list_len no_terms = 0
data_list_len (term d ds) = suc (data_list_len ds)

abbrev mutual
  -- integers by value, identifiers and pids by number, atoms and binaries byte by byte;
  -- tuples by size, then element by element; lists element by element; different kinds by rank
  pub data_order : Data → Data → Ordering
  data_order (int m) (int n) = int_cmp m n
  data_order (atom s) (atom t) = slice_cmp nat_cmp s t
  data_order (tid m) (tid n) = nat_cmp m n
  data_order (pid m) (pid n) = nat_cmp m n
  data_order (tuple ds) (tuple es) = ordering_then (nat_cmp (data_list_len ds) (data_list_len es)) (data_list_order ds es)
  data_order (list ds) (list es) = data_list_order ds es
  data_order (binary s) (binary t) = slice_cmp nat_cmp s t
  data_order d e = nat_cmp (rank d) (rank e)

  -- element by element, a proper prefix below the longer
  pub data_list_order : DataList → DataList → Ordering
  data_list_order no_terms no_terms = Equal
  data_list_order no_terms (term e es) = Less
  data_list_order (term d ds) no_terms = Greater
  data_list_order (term d ds) (term e es) = ordering_then (data_order d e) (data_list_order ds es)

-- the order of terms
abbrev pub order : Term → Term → Ordering
order = on data_of data_order

-- whether two terms are equal: of the same kind, with equal parts
abbrev pub same : Term → Term → Bool
same = eq_by_cmp order
