use Rattle.std.proofs.Common.{rules}
use Rattle.term_text.proofs.Characters.{no-character, refused}
use Rattle.term_text.proofs.quoted.character_at.Goals as goal
use Rattle.term_text.proofs.quoted.character_at.Goals.{else-b-ne92-via-then-b-ne92+else-not-is_character_byte, else-b-ne92-via-else-b-ne92}

pub returns-then-not-is_character_byte-clause-reads :
    goal.returns-then-not-is_character_byte-clause-reads
returns-then-not-is_character_byte-clause-reads c = λ cs os len level. no-character c.args.text.now c.args.at c.args.quotes cs os c.requires.within c.requires.open (search rules) (search rules)

pub returns-in-Some-clause-reads : goal.returns-in-Some-clause-reads
returns-in-Some-clause-reads c =
    refused c.args.text.now c.args.at c.args.quotes c.args.out_of_levels c.args.n c.in-Some.fault c.requires.within c.requires.open
    (λ e. elim c.else-b-ne92.branch [ else-b-ne92-via-then-b-ne92+else-not-is_character_byte w ↦ search rules | else-b-ne92-via-else-b-ne92 w ↦ search rules ])
    c.in-Some.ensures.refuses
