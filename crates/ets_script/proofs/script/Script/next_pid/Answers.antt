use Rattle.std.proofs.Common.{◌≡◌, ◌<◌, ◌-◌, ◌^◌, ℕ, min, length, Result, Ok, Err, ap, sym, ◌∙◌, arith, rules}
use Rattle.std.specs.Prelude.{vec_items}
use Rattle.std.specs.Result.{OkIff, result_unwrap_or}
use Rattle.std.proofs.lemmas.List.{length-map}
use Rattle.ets_script.specs.Script.{ScriptState}
use Rattle.ets_script.proofs.script.Script.next_pid.Goals as goal

capped : {E : Type 0} (r : Result ℕ E) (n : ℕ) → OkIff r (n < 2 ^ 32) n → result_unwrap_or r (2 ^ 32 - 1) ≡ min n (2 ^ 32 - 1)
capped (Ok x) n (below, is) = omega arith
capped (Err e) n above = omega (arith, above)

pub returns : goal.returns
returns g c =
    let count : c.len.result ≡ length c.self.inside.names.keys = search rules in
    let counted : c.len.result ≡ length c.args.self.now.names = count ∙ sym (length-map c.self.inside.names.keys vec_items) ∙ ap (λ (s : ScriptState). length s.names) c.self.view_is in
    let returned : c.unwrap_or.result ≡ min c.len.result (2 ^ 32 - 1) = rw c.unwrap_or.ensures (capped c.try_from.result c.len.result c.try_from.ensures) in
    rw (← counted) returned
