use Rattle.std.proofs.Common.{◌≡◌, ◌≤◌, Some, refl, ap, subst, ◌∙◌, length, option_copied}
use Rattle.std.specs.Prelude.{ℕ}
use Rattle.std.proofs.lemmas.Result.{on_ok_weaker}
use Rattle.ets_term.specs.Data.{data_of}
use Rattle.node_list.specs.Ticks.{ticks}
use Rattle.table_ops.specs.Content.{objects_under}
use Rattle.table_ops.specs.Looks.{looks_of}
use Rattle.table_ops.proofs.BoundKeyLaws.{tried-key}
use Rattle.std.specs.Option.{option_map}
use Rattle.table_ops.proofs.table_rows.TableRows.plan.Goals as goal

pub returns-in-Some-clause-looks : goal.returns-in-Some-clause-looks
returns-in-Some-clause-looks g c =
    let slots = g.R.Rows.slots c.args.self.now.rows in
    let n : length (objects_under slots c.in-Some.key.now) ≡ looks_of (option_map data_of (option_copied c.args.key)) slots = tried-key option_copied c.args.key (Some c.in-Some.key) c.in-Some.key.now slots c.in-Some.is refl in
    on_ok_weaker c.plan_key.result (λ e. e ∙ ap (λ m. ticks m c.args.looks.now) n) c.plan_key.ensures.looks

pub returns-in-Some-clause-at_most : goal.returns-in-Some-clause-at_most
returns-in-Some-clause-at_most g c =
    let slots = g.R.Rows.slots c.args.self.now.rows in
    let n : length (objects_under slots c.in-Some.key.now) ≡ looks_of (option_map data_of (option_copied c.args.key)) slots = tried-key option_copied c.args.key (Some c.in-Some.key) c.in-Some.key.now slots c.in-Some.is refl in
    subst (λ (m : ℕ). c.plan_key.new.looks ≤ ticks m c.args.looks.now) n c.plan_key.ensures.at_most
