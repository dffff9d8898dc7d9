use Rattle.std.proofs.Common.{ℕ, length, ◌∙◌, ap}
use Rattle.split_key.specs.Keys.{key_of_item}
use Rattle.node_list.specs.Places.{from}
use Rattle.node_list.specs.Search.{place_of, visited_cells}
use Rattle.node_list.specs.Ticks.{ticks}
use Rattle.bucket_table.proofs.split.index.SplitIndex.find_from.Goals as goal

pub returns-clause-found : goal.returns-clause-found
returns-clause-found g c =
    let key = c.item_key.ensures ∙ ap key_of_item c.requires.hash in
    c.requires.start.finds c.find.result (c.find.ensures.found ∙ ap (λ (k : ℕ). place_of k c.args.key.now (from c.args.start c.args.self.now.list.cells)) key)

pub returns-clause-visits : goal.returns-clause-visits
returns-clause-visits g c =
    let key = c.item_key.ensures ∙ ap key_of_item c.requires.hash in
    c.requires.start.looks c.args.steps.now c.find.new.steps (c.find.ensures.ticks ∙ ap (λ (k : ℕ). ticks (length (visited_cells k c.args.key.now (from c.args.start c.args.self.now.list.cells))) c.args.steps.now) key)
