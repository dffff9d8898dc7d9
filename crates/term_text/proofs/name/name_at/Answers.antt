use Rattle.std.proofs.Common.{rules, arith, ◌∙◌, ap, List, ℕ, drop}
use Rattle.ets_term.specs.declared.term.Term.TheVariants.{Atom}
use Rattle.term_text.specs.inside.Reader.{put, read_from}
use Rattle.term_text.proofs.Names.{name-reaches, name-fails, name-is-text}
use Rattle.term_text.proofs.name.name_at.Goals as goal

pub returns-then-end-at-gt-MAX_CHARACTERS-clause-reads :
    goal.returns-then-end-at-gt-MAX_CHARACTERS-clause-reads
returns-then-end-at-gt-MAX_CHARACTERS-clause-reads c = λ os. name-fails c.args.text.now c.args.at c.past_name-end.result os c.requires.within c.requires.small c.past_name-end.ensures.end (search rules)

pub of_bytes-requires : goal.of_bytes-requires
of_bytes-requires c = name-is-text c.args.text.now c.args.at c.past_name-end.result c.past_name-end.ensures.end (omega arith)

pub returns-clause-reads : goal.returns-clause-reads
returns-clause-reads c = λ os.
    let n = c.past_name-end.result in
    name-reaches c.args.text.now c.args.at n os c.requires.within c.requires.small c.past_name-end.ensures.end (omega arith)
    ∙ ap (λ (cs : List ℕ). read_from n (put os (Atom cs) n) (drop n c.args.text.now)) (search rules)
