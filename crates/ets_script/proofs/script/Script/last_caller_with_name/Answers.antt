use Rattle.std.proofs.Common.{◌≡◌, ◌∙◌, ℕ, true, List, sym, ap}
use Rattle.std.specs.Prelude.{vec_items}
use Rattle.std.specs.Str.{bytes_eq}
use Rattle.ets_script.specs.Script.{ScriptState, pid_of}
use Rattle.ets_script.proofs.Places.{position-map}
use Rattle.ets_script.proofs.NamePlaces.{first-place, same-name}
use Rattle.ets_script.proofs.script.Script.last_caller_with_name.Goals as goal

pub returns-in-Some : goal.returns-in-Some
returns-in-Some g c =
    let name = c.args.name.now in
    let keys = c.self.inside.names.keys in
    let seen = position-map (bytes_eq name) vec_items keys in
    let passes : bytes_eq name (vec_items c.in-Some.last_name.now) ≡ true = ap (λ (k : List ℕ). bytes_eq name k) (sym c.as_slice.ensures.value) ∙ (sym c.eq.ensures ∙ c.if-eq.true) in
    sym (ap (λ (s : ScriptState). pid_of s name) c.self.view_is) ∙ seen
    ∙ first-place (λ k. bytes_eq name (vec_items k)) (λ x y a b. same-name name (vec_items x) (vec_items y) a b) keys c.self.inside.last_caller c.in-Some.last_name.now c.len-count.ensures.unique (sym c.in-Some.ensures.key) passes
