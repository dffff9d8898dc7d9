use Rattle.std.proofs.Common.{◌≡◌, ℕ, sym, ◌∙◌, ap, subst}
use Rattle.std.proofs.Math.Nat.{mod-eq_of_lt}
use Rattle.split_key.specs.Keys.{key_of_item}
use Rattle.bucket_table.specs.inside.Directory.{HasKeyBelow}
use Rattle.bucket_table.proofs.split.index.SplitIndex.search_start.Goals as goal

pub returns-in-None : goal.returns-in-None
returns-in-None g c = λ hash key small.
    let B : ℕ → Type 0 = λ k. HasKeyBelow k c.far_start.result c.args.self.now.list.cells in
    let is : c.item_hash.result ≡ hash = c.item_hash.ensures hash key ∙ mod-eq_of_lt small in
    subst B (ap key_of_item is ∙ sym key) c.far_start.ensures
