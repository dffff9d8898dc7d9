use Rattle.std.proofs.Common.{◌≡◌, ◌++◌, ◌∷◌, [], length, map, true, false, sym, ap, ◌∙◌, rules}
use Rattle.std.specs.Prelude.{vec_items, nat_le}
use Rattle.std.specs.Str.{bytes_eq}
use Rattle.std.proofs.lemmas.List.{length-map}
use Rattle.ets_script.specs.Plan.{index_of}
use Rattle.ets_script.specs.inside.PlanCodes.{LimitedPlanState}
use Rattle.ets_script.proofs.Places.{position-map}
use Rattle.ets_script.proofs.KnownBytes.{if-ok}
use Rattle.ets_script.proofs.Spawning.{add_spawn-full, add_spawn-new}
use Rattle.ets_script.proofs.plan.Plan.add_spawn.Goals as goal

pub returns-in-Some : goal.returns-in-Some
returns-in-Some c =
    let is = sym (c.in-Some.ensures.index ∙ sym (position-map (bytes_eq c.args.name.now) vec_items c.self.inside.names.keys) ∙ ap (λ (l : LimitedPlanState). index_of l.plan c.args.name.now) c.self.view_is) in
    rw is c.add_answer.ensures

pub returns-then-len-self : goal.returns-then-len-self
returns-then-len-self c =
    let is = sym (c.in-None.ensures.index ∙ sym (position-map (bytes_eq c.args.name.now) vec_items c.self.inside.names.keys) ∙ ap (λ (l : LimitedPlanState). index_of l.plan c.args.name.now) c.self.view_is) in
    let count : nat_le c.self.inside.max_names (length c.self.inside.names.keys) ≡ true = search rules in
    let full = sym (ap (λ (l : LimitedPlanState). nat_le l.max_names (length l.plan.names)) c.self.view_is) ∙ ap (λ n. nat_le c.self.inside.max_names n) (length-map c.self.inside.names.keys vec_items) ∙ count in
    if-ok c.add_answer-then-len-self.result (λ _. add_spawn-full c.args.self.now c.add_answer-then-len-self.new.self c.args.name.now is full) c.add_answer-then-len-self.ensures

pub returns : goal.returns
returns c =
    let is = sym (c.in-None.ensures.index ∙ sym (position-map (bytes_eq c.args.name.now) vec_items c.self.inside.names.keys) ∙ ap (λ (l : LimitedPlanState). index_of l.plan c.args.name.now) c.self.view_is) in
    let kept : c.reserve.new.self.keys ≡ c.self.inside.names.keys = search rules in
    let count : nat_le c.self.inside.max_names (length c.self.inside.names.keys) ≡ false = search rules in
    let room = sym (ap (λ (l : LimitedPlanState). nat_le l.max_names (length l.plan.names)) c.self.view_is) ∙ ap (λ n. nat_le c.self.inside.max_names n) (length-map c.self.inside.names.keys vec_items) ∙ count in
    add_spawn-new c.args.self.now c.self.inside.max_names c.self.inside.answers (map vec_items c.self.inside.names.keys) (map vec_items c.add_name.new.names.keys) c.self.inside.jobs c.push.new.self c.args.name.now c.in_ok-name.name.items
    c.self.view_is is room (c.add_name.ensures.added ∙ ap (λ k. map vec_items k ++ c.in_ok-name.name.items ∷ []) kept) c.in_ok-name.ensures.items (c.in_ok-push.ensures.ok ∙ ap (λ j. c.self.inside.jobs ++ j ∷ []) c.new.ensures)
