use Rattle.std.proofs.Common.{rules, ◌≡◌, ◌∙◌, ◌*◌, ◌%◌, ◌<◌, ◌^◌, sym, ap, pos, fold}
use Rattle.std.specs.Int.{to_be_bytes, w32, w64}
use Rattle.ets_term.specs.Encoding.{integer_bytes, fnv_step}
use Rattle.ets_term.proofs.FnvLaws.{twelve-zeros, eight-zeros}
use Rattle.ets_term.proofs.fnv.fnv_wide_integer.Goals as goal

pub returns-in-Ok : goal.returns-in-Ok
returns-in-Ok c =
    let is : c.args.n ≡ pos c.in-Ok.low = search rules in
    let below : c.args.start < 2 ^ 32 = search rules in
    let small : c.in-Ok.low < 2 ^ 32 = search rules in
    let bytes : c.to_be_bytes.result ≡ to_be_bytes w32 c.in-Ok.low = c.to_be_bytes.ensures in
    c.fnv_bytes.ensures
    ∙ ap (fold fnv_step ((c.args.start * 3549196337) % 2 ^ 32)) bytes
    ∙ twelve-zeros c.in-Ok.low c.args.start below small
    ∙ ap (λ n. fold fnv_step c.args.start (integer_bytes n)) (sym is)

pub returns-in-Ok-try_from : goal.returns-in-Ok-try_from
returns-in-Ok-try_from c =
    let is : c.args.n ≡ pos c.in-Ok-try_from.low = search rules in
    let below : c.args.start < 2 ^ 32 = search rules in
    let small : c.in-Ok-try_from.low < 2 ^ 64 = search rules in
    let bytes : c.to_be_bytes-in-Ok-try_from.result ≡ to_be_bytes w64 c.in-Ok-try_from.low = c.to_be_bytes-in-Ok-try_from.ensures in
    c.fnv_bytes-in-Ok-try_from.ensures
    ∙ ap (fold fnv_step ((c.args.start * 1566662433) % 2 ^ 32)) bytes
    ∙ eight-zeros c.in-Ok-try_from.low c.args.start below small
    ∙ ap (λ n. fold fnv_step c.args.start (integer_bytes n)) (sym is)
