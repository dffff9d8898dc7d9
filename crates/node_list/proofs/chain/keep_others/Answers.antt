use Rattle.std.proofs.Common.{rules}
use Rattle.node_list.proofs.KeptLaws.{remove_all-rest}
use Rattle.node_list.proofs.chain.keep_others.Goals as goal

pub returns-clause-rest : goal.returns-clause-rest
returns-clause-rest c = remove_all-rest _ c.args.term.now _ (λ x b t y called. search rules) c.args.terms.now.items c.retain.new.self.items c.retain.ensures.filtered
