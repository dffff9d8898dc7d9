use Rattle.std.proofs.Common.{◌∙◌, sym}
use Rattle.ets_script.specs.Classes.{is_printable}
use Rattle.ets_script.proofs.PrintableLines.{whole}
use Rattle.ets_script.proofs.printable.printable_len.Goals as goal

pub returns-then-are_printable-clause-len : goal.returns-then-are_printable-clause-len
returns-then-are_printable-clause-len c = whole is_printable c.args.text.now (sym c.are_printable.ensures ∙ c.if-are_printable.true)
