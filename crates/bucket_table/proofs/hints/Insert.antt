-- The first item of an interval after an insertion.
use Rattle.std.proofs.Common.{◌≡◌, ℕ, ◌/◌, ◌<◌, ◌≤◌, List, Option, Some, None, true, false, nat_lt, refl, ◌∙◌, ap, arith}
use Rattle.std.proofs.lemmas.Bool.Decides.{nat_tests}
use Rattle.node_list.specs.declared.node.Item.{Item}
use Rattle.node_list.specs.Cells.{Cell, Sorted, new_cell}
use Rattle.node_list.specs.Places.{HasDistinctPlaces, IsPlaceOf, split_key_at, first_split_key}
use Rattle.bucket_table.specs.inside.Intervals.{is_in, first_in, IsNewFirst, KeepsFirst}
use Rattle.bucket_table.proofs.hints.First.{first-put-empty, first-put-behind, first-put-before, First, first-node}
use Rattle.bucket_table.proofs.hints.Search.{is_in-yes}

some-key : (a b : ℕ) (o : Option ℕ) → o ≡ Some a → o ≡ Some b → a ≡ b
some-key a b o e f = cc

new-in : (width at key : ℕ) (item : Item) → is_in width (key / width) (new_cell at key (Some item)) ≡ true
new-in width at key item = is_in-yes width (key / width) (new_cell at key (Some item)) item refl refl

pub new-empty : (width key : ℕ) (cs : List Cell) → first_in width (key / width) cs ≡ None → IsNewFirst width (key / width) cs key
new-empty width key cs e at item = first-put-empty width (key / width) (new_cell at key (Some item)) cs (new-in width at key item) e

module _ (width key first : ℕ) (cs : List Cell) (o : Sorted cs) (a : HasDistinctPlaces cs) (is : first_in width (key / width) cs ≡ Some first) where
  pub node : First width (key / width) first cs
  node = first-node width (key / width) first cs a is

  pub is_place : IsPlaceOf first cs
  is_place = record { cell = node.cell; later = node.later; is = node.is }

  pub key-is : (k : ℕ) → split_key_at first cs ≡ Some k → node.cell.split_key ≡ k
  key-is k e = some-key node.cell.split_key k (split_key_at first cs) (ap first_split_key node.is) e

  pub new-before : (k : ℕ) → node.cell.split_key ≡ k → nat_lt key k ≡ true → IsNewFirst width (key / width) cs key
  new-before k e less at item =
      let n = node in
      let l : key < k = grind (arith, nat_tests) in
      let below : key < n.cell.split_key = omega (arith, e, l) in
      first-put-before width (key / width) (new_cell at key (Some item)) first cs n.cell n.later a (new-in width at key item) n.is below is

  pub kept-behind : (k : ℕ) (hint : Option (Option ℕ)) → hint ≡ Some (Some first) → node.cell.split_key ≡ k → nat_lt key k ≡ false → KeepsFirst width (key / width) cs key hint
  kept-behind k hint h e more at item q known =
      let n = node in
      let l : k ≤ key = grind (arith, nat_tests) in
      let above : n.cell.split_key ≤ key = omega (arith, e, l) in
      let same : Some first ≡ q = cc in
      first-put-behind width (key / width) (new_cell at key (Some item)) first cs n.cell n.later o a n.is above is ∙ same
