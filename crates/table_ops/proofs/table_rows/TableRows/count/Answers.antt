use Rattle.std.proofs.Common.{◌≡◌, ◌≤◌, Some, refl, ap, subst, ◌∙◌, length, option_copied}
use Rattle.std.specs.Prelude.{ℕ}
use Rattle.std.proofs.lemmas.Result.{IfOk-weaker, on_ok_weaker}
use Rattle.ets_term.specs.Data.{data_of}
use Rattle.node_list.specs.Ticks.{ticks}
use Rattle.table_ops.specs.Results.{chosen_count}
use Rattle.table_ops.specs.Looks.{looks_of}
use Rattle.table_ops.proofs.BoundKeyLaws.{chosen-under, tried-key, only_key-key}
use Rattle.std.specs.Option.{option_map}
use Rattle.table_ops.proofs.table_rows.TableRows.count.Goals as goal

pub returns-in-Some-clause-count : goal.returns-in-Some-clause-count
returns-in-Some-clause-count g c =
    let slots = g.R.Rows.slots c.args.self.now.rows in
    let choose = g.P.Predicate.tests c.args.trial.now.query.now in
    let key = c.in-Some.key.now in
    let q = only_key-key option_copied c.args.key (Some c.in-Some.key) key slots c.in-Some.is refl choose c.requires.only_key in
    IfOk-weaker c.count_in.result _ _ (λ n e. e ∙ ap (chosen_count choose) c.objects_of.ensures.objects ∙ chosen-under choose key slots c.objects_of.ensures.distinct q) c.count_in.ensures.count

pub returns-in-Some-clause-looks : goal.returns-in-Some-clause-looks
returns-in-Some-clause-looks g c =
    let slots = g.R.Rows.slots c.args.self.now.rows in
    let n : length c.objects_of.result.now ≡ looks_of (option_map data_of (option_copied c.args.key)) slots = ap length c.objects_of.ensures.objects ∙ tried-key option_copied c.args.key (Some c.in-Some.key) c.in-Some.key.now slots c.in-Some.is refl in
    on_ok_weaker c.count_in.result (λ e. e ∙ ap (λ m. ticks m c.args.looks.now) n) c.count_in.ensures.looks

pub returns-in-Some-clause-at_most : goal.returns-in-Some-clause-at_most
returns-in-Some-clause-at_most g c =
    let slots = g.R.Rows.slots c.args.self.now.rows in
    let n : length c.objects_of.result.now ≡ looks_of (option_map data_of (option_copied c.args.key)) slots = ap length c.objects_of.ensures.objects ∙ tried-key option_copied c.args.key (Some c.in-Some.key) c.in-Some.key.now slots c.in-Some.is refl in
    subst (λ (m : ℕ). c.count_in.new.looks ≤ ticks m c.args.looks.now) n c.count_in.ensures.at_most
