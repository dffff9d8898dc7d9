-- The terms that remain in a chain after `remove_all`.
use Rattle.std.proofs.Common.{◌≡◌, Bool, cond, not, List, [], ◌∷◌, ◌∙◌, subst}
use Rattle.std.specs.List.Retain.{RetainsInTurn}
use Rattle.ets_term.specs.declared.term.Term.{Term}
use Rattle.ets_term.specs.Order.{same}
use Rattle.node_list.specs.Chains.{all_but}

pub remove_all-rest : {S : Type 0} (R : S → Term → Bool → S → Term → Type 0) (term : Term) (s : S) → ((x : Term) (b : Bool) (t : S) (y : Term) → R s x b t y → (b ≡ not (same x term)) × (t ≡ s) × (y ≡ x))
    → (xs ys : List Term) → RetainsInTurn R s xs ys → ys ≡ all_but term xs
remove_all-rest R term s says [] ys h = h
remove_all-rest R term s says (x ∷ xs) ys h =
    let said = says x h.0 h.1 h.2 h.3 in
    let rest = remove_all-rest R term s says xs h.4 (subst (λ t. RetainsInTurn R t xs h.4) said.1 h.5) in
    h.6 ∙ (λ i. cond (said.0 i) (said.2 i ∷ rest i) (rest i))
