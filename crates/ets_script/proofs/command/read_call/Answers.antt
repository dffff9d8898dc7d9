use Rattle.std.proofs.Common.{◌≡◌, ◌∙◌, true, sym, ap, rules}
use Rattle.std.specs.List.{list_all}
use Rattle.ets_script.specs.Classes.{is_printable, skip_blanks}
use Rattle.ets_script.specs.Reads.{read}
use Rattle.ets_script.specs.Commands.{word, ask}
use Rattle.ets_script.proofs.CallLines.{call-means, word-not_silent}
use Rattle.ets_script.proofs.command.read_call.Goals as goal

pub returns-in-Ok-parse_words : goal.returns-in-Ok-parse_words
returns-in-Ok-parse_words c =
    let line = c.args.line.now in
    let front : word (skip_blanks line) ≡ read c.in-Ok.caller.now c.in-Ok.rest.now = ap word (sym c.skip_blanks.ensures) ∙ c.in-Ok.ensures.word in
    let clean : list_all is_printable line ≡ true = search rules in
    let passes : c.is_caller.result ≡ true = search rules in
    let call_command = ask c.in-Ok-parse_words.name.now c.in-Ok-parse_words.word.now c.parse_words.new.terms in
    (call-means line c.in-Ok.caller.now c.in-Ok.rest.now call_command clean front (c.is_caller.ensures passes) c.in-Ok-parse_words.ensures.call, c.in-Ok-parse_words.ensures.atom)

pub returns-in-Err-Memory : goal.returns-in-Err-Memory
returns-in-Err-Memory c =
    word-not_silent c.args.line.now c.in-Ok.caller.now c.in-Ok.rest.now (ap word (sym c.skip_blanks.ensures) ∙ c.in-Ok.ensures.word)
