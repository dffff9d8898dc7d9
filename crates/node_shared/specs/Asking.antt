-- A client after the borrow of its last reply ends.
use Rattle.std.specs.Prelude.{◌≡◌, ⊤, Result, MatchResult}
use Rattle.std.specs.Borrow.{Fml, RattleType, Bor, MutBor, follows_so}
use Rattle.std.specs.declared.sync.ledger.Ledger as ledger
use mathlib.Core.Option.{none}
use Rattle.node_core.specs.declared.step.Step.{Step}
use Rattle.node_core.specs.declared.step.Reply.{Reply}
use Rattle.node_shared.specs.Records.{RecordState, with_entry}
use Rattle.node_shared.specs.contracts.client.Client as client

module _ (L : RattleType) (l : ledger.Ghosts L.Denot) where
  -- the client's record has one more entry, the step with the returned reply; if memory ran out, it is unchanged
  abbrev pub Answers : {E : Type 0} → MutBor RecordState → Step → Result (Bor Reply) E → Fml
  Answers c s r =
      follows_so (client.the_row L l) (client.the_row L l) c.ghost_name none (λ _ _. ⊤)
      (λ new. MatchResult r (λ reply. new ≡ with_entry c.now s reply.now) (λ _. new ≡ c.now))
