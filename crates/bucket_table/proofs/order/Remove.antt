-- The content after the item at a place is removed.
use Rattle.std.proofs.Common.{◌≡◌, ◌≢◌, ℕ, List, Option, Some, sym, ◌∙◌, ap}
use Rattle.ets_term.specs.declared.term.Term.{Term}
use Rattle.node_list.specs.Cells.{Cell}
use Rattle.node_list.specs.Changes as changes
use Rattle.node_list.specs.Places.{HasDistinctPlaces}
use Rattle.bucket_table.specs.Rows.{HasDistinctKeys, without}
use Rattle.bucket_table.specs.Walks.{ComesBefore}
use Rattle.bucket_table.specs.SplitRowsState.{key_of_place}
use Rattle.bucket_table.specs.inside.Nodes.{slots_of, places_of}
use Rattle.bucket_table.specs.inside.Order.{content_of}
use Rattle.bucket_table.proofs.list.Places.{AtPlace}
use Rattle.bucket_table.proofs.slots.Traverse.{before-other}
use Rattle.bucket_table.proofs.slots.Step.{place-stays}
use Rattle.bucket_table.proofs.order.Permute.{ordered}
use Rattle.bucket_table.proofs.order.Read.{keys-distinct}

pub one-key : (a b : Term) (o : Option Term) → o ≡ Some a → o ≡ Some b → a ≡ b
one-key a b o x y = cc

module _ (place : ℕ) (cells new : List Cell) (apart : HasDistinctPlaces cells) (distinct : HasDistinctKeys (slots_of cells)) (p : AtPlace place cells) (is : new ≡ changes.without place cells) where
  pub content-removed : (gone : Term) → key_of_place (places_of cells) place ≡ Some gone → content_of new ≡ without (content_of cells) gone
  content-removed gone at =
      let o = ordered p.key place cells apart distinct p.found in
      ap content_of is ∙ (o.removed ∙ ap (without (content_of cells)) (one-key p.key gone (key_of_place (places_of cells) place) p.is at))

  pub places-before : (gone : Term) → key_of_place (places_of cells) place ≡ Some gone → (other : ℕ) (key : Term) → key_of_place (places_of cells) other ≡ Some key → ComesBefore (content_of cells) key gone
      → key_of_place (places_of new) other ≡ Some key
  places-before gone at other key e b =
      let unlike = before-other (content_of cells) key gone (keys-distinct cells apart distinct) b in
      let away : place ≢ other = λ here. unlike (one-key key gone (key_of_place (places_of cells) other) e (ap (key_of_place (places_of cells)) (sym here) ∙ at)) in
      ap (λ (cs : List Cell). key_of_place (places_of cs) other) is ∙ (place-stays place other cells away ∙ e)
