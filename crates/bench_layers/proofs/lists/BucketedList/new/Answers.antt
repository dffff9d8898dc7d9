use Rattle.std.proofs.Common.{List, ℕ, [], ◌∷◌, ◌++◌, sym, ◌∙◌, ap, subst}
use Rattle.bench_layers.specs.Buckets.{HasDummies}
use Rattle.bench_layers.proofs.DummyLaws.{first-dummy}
use Rattle.bench_layers.proofs.lists.BucketedList.new.Goals as goal

pub returns-clause-dummies : goal.returns-clause-dummies
returns-clause-dummies c =
    let P : List ℕ → Type 0 = λ places. HasDummies places c.reserve.new.self.cells in
    let pushed = c.in_ok-push.ensures.items ∙ ap (λ (places : List ℕ). places ++ c.head.result ∷ []) c.new-dummies.ensures.items in
    subst P (sym (c.in_ok-reserve-2.ensures.items ∙ pushed)) (first-dummy c.head.result c.reserve.new.self.cells (c.in_ok-reserve.ensures.cells ∙ c.in_ok-list.ensures) c.head.ensures.first)
