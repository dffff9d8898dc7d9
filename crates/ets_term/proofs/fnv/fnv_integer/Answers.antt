use Rattle.std.proofs.Common.{rules, ◌≡◌, ◌∙◌, ◌*◌, ◌%◌, ◌<◌, ◌^◌, sym, ap, pos, fold}
use Rattle.std.specs.Int.{to_be_bytes, w16}
use Rattle.ets_term.specs.Encoding.{integer_bytes, fnv_step}
use Rattle.ets_term.proofs.FnvLaws.{fourteen-zeros}
use Rattle.ets_term.proofs.fnv.fnv_integer.Goals as goal

pub returns-in-Ok : goal.returns-in-Ok
returns-in-Ok c =
    let is : c.args.n ≡ pos c.in-Ok.low = search rules in
    let below : c.args.start < 2 ^ 32 = search rules in
    let small : c.in-Ok.low < 2 ^ 16 = search rules in
    let bytes : c.to_be_bytes.result ≡ to_be_bytes w16 c.in-Ok.low = c.to_be_bytes.ensures in
    c.fnv_bytes.ensures
    ∙ ap (fold fnv_step ((c.args.start * 3631439385) % 2 ^ 32)) bytes
    ∙ fourteen-zeros c.in-Ok.low c.args.start below small
    ∙ ap (λ n. fold fnv_step c.args.start (integer_bytes n)) (sym is)
