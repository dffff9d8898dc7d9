use Rattle.std.proofs.Common.{◌≡◌, length, map, sym, ap, ◌∙◌, refl, inl, rules, subst}
use Rattle.std.specs.Prelude.{vec_items}
use Rattle.std.specs.Str.{bytes_eq}
use Rattle.std.proofs.lemmas.List.{length-map}
use Rattle.node_core.specs.Observable.{observable}
use Rattle.node_core.specs.State.{State}
use Rattle.ets_script.specs.Script.{ScriptState, pid_of}
use Rattle.ets_script.specs.inside.Enrolments.{Enrols}
use Rattle.ets_script.proofs.Places.{position-map}
use Rattle.ets_script.proofs.Enrolments.{enrol-spawns}
use Rattle.ets_script.proofs.script.Script.spawn.Goals as goal

pub returns-in-Some : goal.returns-in-Some
returns-in-Some g c =
    let is = sym (c.in-Some.ensures.index ∙ sym (position-map (bytes_eq c.args.name.now) vec_items c.self.inside.names.keys) ∙ ap (λ (s : ScriptState). pid_of s c.args.name.now) c.self.view_is) in
    rw is (inl (refl, refl))

pub returns : goal.returns
returns g c =
    let is = sym (c.in-None.ensures.index ∙ sym (position-map (bytes_eq c.args.name.now) vec_items c.self.inside.names.keys) ∙ ap (λ (s : ScriptState). pid_of s c.args.name.now) c.self.view_is) in
    let kept : c.reserve.new.self.keys ≡ c.self.inside.names.keys = search rules in
    let same : map vec_items c.reserve.new.self.keys ≡ c.args.self.now.names = ap (λ k. map vec_items k) kept ∙ ap (λ (s : ScriptState). s.names) c.self.view_is in
    let count : c.in-Ok.number ≡ length c.self.inside.names.keys = search rules in
    let counted : c.in-Ok.number ≡ length c.args.self.now.names = count ∙ sym (length-map c.self.inside.names.keys vec_items) ∙ ap (λ (s : ScriptState). length s.names) c.self.view_is in
    let did = subst (λ (n : State). Enrols (map vec_items c.reserve.new.self.keys) n c.in-Ok.number c.in-Ok-from_slice.name.items c.enrol.result (map vec_items c.enrol.new.names.keys) (observable c.enrol.new.node)) (ap (λ (s : ScriptState). s.node) c.self.view_is) c.enrol.ensures.enrolled in
    rw is (enrol-spawns c.args.self.now (record { names = map vec_items c.enrol.new.names.keys; node = observable c.enrol.new.node }) (map vec_items c.reserve.new.self.keys) c.in-Ok.number c.args.name.now c.in-Ok-from_slice.name.items c.enrol.result same counted c.in-Ok-from_slice.ensures.items did)
