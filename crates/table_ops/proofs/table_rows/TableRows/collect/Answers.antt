use Rattle.std.proofs.Common.{◌≡◌, ◌≤◌, ◌++◌, Some, refl, ap, subst, ◌∙◌, is_some, length, map, option_copied}
use Rattle.std.specs.Prelude.{ℕ, filter_map}
use Rattle.std.proofs.lemmas.Result.{on_ok_weaker}
use Rattle.ets_term.specs.declared.term.Term.{Term}
use Rattle.ets_term.specs.Data.{data_of}
use Rattle.node_list.specs.Ticks.{ticks}
use Rattle.table_ops.specs.Looks.{looks_of}
use Rattle.table_ops.proofs.BoundKeyLaws.{answers-under, tried-key, only_key-key}
use Rattle.std.specs.Option.{option_map}
use Rattle.table_ops.proofs.table_rows.TableRows.collect.Goals as goal

pub returns-in-Some-clause-answers : goal.returns-in-Some-clause-answers
returns-in-Some-clause-answers g c =
    let slots = g.R.Rows.slots c.args.self.now.rows in
    let give = g.P.Projection.projects c.args.trial.now.query.now in
    let key = c.in-Some.key.now in
    let q = only_key-key option_copied c.args.key (Some c.in-Some.key) key slots c.in-Some.is refl (λ (o : Term). is_some (give o)) c.requires in
    on_ok_weaker c.collect_from.result (λ e. e ∙ ap (λ l. map data_of c.args.results.now.items ++ l) (ap (filter_map give) c.objects_of.ensures.objects ∙ answers-under give key slots c.objects_of.ensures.distinct q)) c.collect_from.ensures.answers

pub returns-in-Some-clause-looks : goal.returns-in-Some-clause-looks
returns-in-Some-clause-looks g c =
    let slots = g.R.Rows.slots c.args.self.now.rows in
    let n : length c.objects_of.result.now ≡ looks_of (option_map data_of (option_copied c.args.key)) slots = ap length c.objects_of.ensures.objects ∙ tried-key option_copied c.args.key (Some c.in-Some.key) c.in-Some.key.now slots c.in-Some.is refl in
    on_ok_weaker c.collect_from.result (λ e. e ∙ ap (λ m. ticks m c.args.looks.now) n) c.collect_from.ensures.looks

pub returns-in-Some-clause-at_most : goal.returns-in-Some-clause-at_most
returns-in-Some-clause-at_most g c =
    let slots = g.R.Rows.slots c.args.self.now.rows in
    let n : length c.objects_of.result.now ≡ looks_of (option_map data_of (option_copied c.args.key)) slots = ap length c.objects_of.ensures.objects ∙ tried-key option_copied c.args.key (Some c.in-Some.key) c.in-Some.key.now slots c.in-Some.is refl in
    subst (λ (m : ℕ). c.collect_from.new.looks ≤ ticks m c.args.looks.now) n c.collect_from.ensures.at_most
