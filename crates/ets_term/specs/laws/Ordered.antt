-- The order of terms is total, and only a term and itself compare as equal.
use Rattle.std.proofs.Common.{◌≡◌, ℕ, ℤ, pos, negsuc, List, [], ◌∷◌, ◌++◌, refl, sym, ap, ◌∙◌, append_assoc, append-nil, arith, Ordering, Less, Equal, Greater, nat_cmp}
use Rattle.std.specs.Ordering.{int_cmp, ordering_then, is_eq}
use Rattle.std.proofs.lemmas.Bool.Decides.{nat_tests, Decides-int_eq}
use Rattle.std.proofs.lemmas.Cmp.{tied_itself}
use Rattle.std.proofs.lemmas.Map.Text.{is_eq-slice_cmp}
use Rattle.std.proofs.lemmas.Slice.Eq.{bytes_eq-Decides}
use Rattle.std.specs.Cmp.{IsTotalOrder, int_cmp_total}
use Rattle.std.specs.Cmp.Lexicographic.{slice_cmp, lists_total}
use Rattle.ets_term.specs.Data.{Data, int, atom, pid, tid, tuple, list, binary, DataList, no_terms, term}
use Rattle.ets_term.specs.Order.{data_order, data_list_order, data_list_len}

-- the code of a text: its characters, and then an end that is less than each
abbrev text_code : List ℕ → List ℤ
text_code [] = negsuc 0 ∷ []
text_code (b ∷ bs) = pos b ∷ text_code bs

-- the code of a term; terms have the order of their codes
abbrev mutual
  code : Data → List ℤ
  code (int n) = pos 0 ∷ n ∷ []
  code (atom s) = pos 1 ∷ text_code s
  code (tid n) = pos 2 ∷ pos n ∷ []
  code (pid n) = pos 3 ∷ pos n ∷ []
  code (tuple ds) = pos 4 ∷ pos (data_list_len ds) ∷ data_list_code ds
  code (list ds) = pos 5 ∷ data_list_code ds
  code (binary s) = pos 6 ∷ text_code s

  data_list_code : DataList → List ℤ
  data_list_code no_terms = negsuc 0 ∷ []
  data_list_code (term d ds) = pos 0 ∷ (code d ++ data_list_code ds)

abbrev cmp : List ℤ → List ℤ → Ordering
cmp = slice_cmp int_cmp

pos_cmp : (m n : ℕ) → int_cmp (pos m) (pos n) ≡ nat_cmp m n
pos_cmp m n = grind (arith, nat_tests)

int_same : (n : ℤ) → int_cmp n n ≡ Equal
int_same n = tied_itself int_cmp_total n

then_assoc : (a b c : Ordering) → ordering_then (ordering_then a b) c ≡ ordering_then a (ordering_then b c)
then_assoc Less b c = refl
then_assoc Equal b c = refl
then_assoc Greater b c = refl

nat_exact : (m n : ℕ) → nat_cmp m n ≡ Equal → m ≡ n
nat_exact m n h = grind (arith, nat_tests)

int_exact : (m n : ℤ) → int_cmp m n ≡ Equal → m ≡ n
int_exact m n h = (Decides-int_eq m n).0 (ap is_eq h)

text_first : (s t : List ℕ) (x y : List ℤ)
    → cmp (text_code s ++ x) (text_code t ++ y) ≡ ordering_then (slice_cmp nat_cmp s t) (cmp x y)
text_first [] [] x y = refl
text_first [] (b ∷ bs) x y = refl
text_first (a ∷ as_) [] x y = refl
text_first (a ∷ as_) (b ∷ bs) x y =
    rw (pos_cmp a b, text_first as_ bs x y)
    (sym (then_assoc (nat_cmp a b) (slice_cmp nat_cmp as_ bs) (cmp x y)))

mutual
  code_first : (d e : Data) (x y : List ℤ) → cmp (code d ++ x) (code e ++ y) ≡ ordering_then (data_order d e) (cmp x y)
  code_first (int m) (int n) x y = refl
  code_first (atom s) (atom t) x y = text_first s t x y
  code_first (tid m) (tid n) x y = rw (pos_cmp m n)
  code_first (pid m) (pid n) x y = rw (pos_cmp m n)
  code_first (tuple ds) (tuple es) x y =
      rw (pos_cmp (data_list_len ds) (data_list_len es), data_list_first ds es x y)
      (sym (then_assoc (nat_cmp (data_list_len ds) (data_list_len es)) (data_list_order ds es) (cmp x y)))
  code_first (list ds) (list es) x y = data_list_first ds es x y
  code_first (binary s) (binary t) x y = text_first s t x y
  code_first d e x y = refl

  data_list_first : (ds es : DataList) (x y : List ℤ)
      → cmp (data_list_code ds ++ x) (data_list_code es ++ y) ≡ ordering_then (data_list_order ds es) (cmp x y)
  data_list_first no_terms no_terms x y = refl
  data_list_first no_terms (term e es) x y = refl
  data_list_first (term d ds) no_terms x y = refl
  data_list_first (term d ds) (term e es) x y =
      rw (
        append_assoc (code d) (data_list_code ds) x,
        append_assoc (code e) (data_list_code es) y,
        code_first d e (data_list_code ds ++ x) (data_list_code es ++ y),
        data_list_first ds es x y,
      )
      (sym (then_assoc (data_order d e) (data_list_order ds es) (cmp x y)))

then_equal : (o : Ordering) → ordering_then o Equal ≡ o
then_equal Less = refl
then_equal Equal = refl
then_equal Greater = refl

by_code : (d e : Data) → data_order d e ≡ cmp (code d) (code e)
by_code d e = sym (rw (append-nil (code d), append-nil (code e), then_equal) at (code_first d e [] []))

codes_total : IsTotalOrder cmp
codes_total = lists_total int_cmp_total

-- the order is total
pub order_total : IsTotalOrder data_order
order_total = record {
  antisymm = λ x y. rw (by_code x y, by_code y x) (codes_total.antisymm (code x) (code y));
  trans = λ x y z p q.
      by_code x z ∙ codes_total.trans (code x) (code y) (code z)
      (sym (by_code x y) ∙ p) (sym (by_code y z) ∙ q);
  congr = λ x y z p.
      rw (by_code x z, by_code y z) (codes_total.congr (code x) (code y) (code z) (sym (by_code x y) ∙ p));
}

texts_exact : (s t : List ℕ) → slice_cmp nat_cmp s t ≡ Equal → s ≡ t
texts_exact s t h = (bytes_eq-Decides s t).0 (sym (is_eq-slice_cmp s t) ∙ ap is_eq h)

both_equal : (a b : Ordering) → ordering_then a b ≡ Equal → (a ≡ Equal) × (b ≡ Equal)
both_equal Less b h = cc
both_equal Equal b h = (refl, h)
both_equal Greater b h = cc

mutual
  -- trees that compare as equal are the same tree
  pub order_exact : (d e : Data) → data_order d e ≡ Equal → d ≡ e
  order_exact (int m) (int n) h = ap int (int_exact m n h)
  order_exact (atom s) (atom t) h = ap atom (texts_exact s t h)
  order_exact (tid m) (tid n) h = ap tid (nat_exact m n h)
  order_exact (pid m) (pid n) h = ap pid (nat_exact m n h)
  order_exact (tuple ds) (tuple es) h = ap tuple (data_list_exact ds es (both_equal _ _ h).1)
  order_exact (list ds) (list es) h = ap list (data_list_exact ds es h)
  order_exact (binary s) (binary t) h = ap binary (texts_exact s t h)
  order_exact d e h = cc

  data_list_exact : (ds es : DataList) → data_list_order ds es ≡ Equal → ds ≡ es
  data_list_exact no_terms no_terms h = refl
  data_list_exact no_terms (term e es) h = cc
  data_list_exact (term d ds) no_terms h = cc
  data_list_exact (term d ds) (term e es) h =
      let both = both_equal (data_order d e) (data_list_order ds es) h in
      let first = order_exact d e both.0 in
      let rest = data_list_exact ds es both.1 in cc
