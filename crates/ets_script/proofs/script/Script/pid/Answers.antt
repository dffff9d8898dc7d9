use Rattle.std.proofs.Common.{sym, ap, ◌∙◌}
use Rattle.std.specs.Prelude.{vec_items}
use Rattle.std.specs.Str.{bytes_eq}
use Rattle.ets_script.specs.Script.{ScriptState, pid_of}
use Rattle.ets_script.proofs.Places.{position-map}
use Rattle.ets_script.proofs.script.Script.pid.Goals as goal

pub returns-in-Some : goal.returns-in-Some
returns-in-Some g c = c.in-Some.ensures.index ∙ sym (position-map (bytes_eq c.args.name.now) vec_items c.self.inside.names.keys) ∙ ap (λ (s : ScriptState). pid_of s c.args.name.now) c.self.view_is

pub returns-in-None : goal.returns-in-None
returns-in-None g c = c.in-None.ensures.index ∙ sym (position-map (bytes_eq c.args.name.now) vec_items c.self.inside.names.keys) ∙ ap (λ (s : ScriptState). pid_of s c.args.name.now) c.self.view_is
