use Rattle.std.proofs.Common.{sym, ◌∙◌, ap}
use Rattle.std.specs.Option.{option_copied_mut}
use Rattle.bucket_table.proofs.slots.Index.{with_objects-none}
use Rattle.bucket_table.proofs.plain.PlainRowsRows.replace.Goals as goal

pub returns-in_err-chain-clause-now : goal.returns-in_err-chain-clause-now
returns-in_err-chain-clause-now c =
    ap (λ m. m.entries) c.get_mut.follows.holds-at-none
    ∙ with_objects-none c.args.key.now _ _ (sym c.get_mut.ensures.value ∙ ap option_copied_mut c.in_err-chain.was)
