-- Rows without slots.
use Rattle.std.proofs.Common.{◌≡◌, ℕ, suc, zero, List, [], ◌∷◌, Option, Some, None, get_or, refl, sym, ◌∙◌, ap, subst, lit<, lit≤}
use Rattle.std.specs.List.{IsDistinct}
use Rattle.ets_term.specs.declared.term.Term.{Term}
use Rattle.split_key.specs.Keys.{rev, key_of_dummy}
use Rattle.node_list.specs.Cells.{Cell, new_cell}
use Rattle.node_list.specs.Places.{first_place}
use Rattle.bucket_table.specs.Rows.{HasDistinctKeys}
use Rattle.bucket_table.specs.inside.Directory.{IsDummyOf, DirectoryInvariant}

key_of_first : key_of_dummy 0 ≡ 0
unfolding rev
key_of_first = refl

none-distinct : HasDistinctKeys []
unfolding IsDistinct
none-distinct = tt

abbrev one : List Cell
one = new_cell 0 (key_of_dummy 0) None ∷ []

is_dummy : (bucket at : ℕ) → get_or (Some 0 ∷ None ∷ []) bucket None ≡ Some at → IsDummyOf bucket at one
is_dummy zero at e = let z : 0 ≡ at = cc in let P : ℕ → Type 0 = λ a. IsDummyOf 0 a one in subst P z (record { later = []; is = refl })
is_dummy (suc zero) at e = absurd (cc)
is_dummy (suc (suc n)) at e = absurd (cc)

pub new-split : (hash_of : Term → ℕ) (head : ℕ) (directory : List (Option ℕ)) (cells : List Cell) → directory ≡ Some head ∷ None ∷ [] → cells ≡ new_cell 0 0 None ∷ [] → first_place cells ≡ Some head → DirectoryInvariant hash_of directory cells
new-split hash_of head directory cells d e f =
    let first : first_place (new_cell 0 0 None ∷ []) ≡ Some head = sym (ap first_place e) ∙ f in
    let zero' : 0 ≡ head = cc first in
    let dirs : Some 0 ∷ None ∷ [] ≡ directory = ap (λ (h : ℕ). Some h ∷ None ∷ []) zero' ∙ sym d in
    let list : one ≡ cells = ap (λ (k : ℕ). new_cell 0 k None ∷ []) key_of_first ∙ sym e in
    let P : List Cell → Type 0 = λ zs. DirectoryInvariant hash_of directory zs in
    let Q : List (Option ℕ) → Type 0 = λ ds. DirectoryInvariant hash_of ds one in
    subst P list (subst Q dirs (record {
      doublings = 1;
      size = refl;
      few = lit≤ tt;
      first = refl;
      listed = is_dummy;
      placed = (record { bucket = 0; below = lit< tt; is = refl; entry = refl }, tt);
      distinct = none-distinct;
    }))
