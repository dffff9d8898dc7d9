-- A fix of the table that a term names is a change of the state.
use Rattle.std.proofs.Common.{◌≡◌, ℕ, Some, refl}
use Rattle.std.specs.Prelude.{option_map, Ok, Err}
use Rattle.ets_term.specs.declared.term.Term.{Term}
use Rattle.fixed_walk.specs.declared.fault.FixFault.{FixFault}
use Rattle.fixed_walk.specs.declared.fault.FixFault.TheVariants as fault
use Rattle.fixed_walk.specs.Refusals.{refusal_of_fix}
use Rattle.fixed_walk.specs.TableState.{TableState, IncrementsFix}
use Rattle.node_core.specs.declared.node.access.Access.TheVariants.{Read}
use Rattle.node_core.specs.declared.step.Reply.TheVariants.{SystemLimit}
use Rattle.node_core.specs.State.{State}
use Rattle.node_core.specs.Access.{usable, changes}
use Rattle.node_core.specs.rules.Replies.{true_reply}
use Rattle.node_core.specs.rules.Walking.{Fixes}
use Rattle.node_core.specs.inside.Lending.{with_usable}
use Rattle.node_core.specs.inside.Refusals.{RefinesReply}
use Rattle.node_core.proofs.calls.Changes.{changed, unchanged}

module _ (old : State) (p : ℕ) (term : Term) (was f : TableState) (there : Some was ≡ option_map (λ found. found.1.state) (usable Read old.world.tables p term)) where
  abbrev after : State
  after = with_usable old Read p term f

  -- the process has the fix
  pub fixed : IncrementsFix p was (Ok tt) f → changes old p Read term (Fixes p) true_reply after
  fixed h = changed old p Read term was f there (Fixes p) true_reply (Ok tt, h, refl)

  -- it has as many as there can be
  most-fixes : IncrementsFix p was (Err fault.SystemLimit) f → changes old p Read term (Fixes p) SystemLimit after
  most-fixes h = changed old p Read term was f there (Fixes p) SystemLimit (Err fault.SystemLimit, h, refl)

  -- there is no memory for it
  not-fixed : IncrementsFix p was (Err fault.Memory) f → after ≡ old
  not-fixed h = unchanged old p Read term was f there h.1

  -- the fix is refused for either reason
  pub refused : (why : FixFault) → IncrementsFix p was (Err why) f → RefinesReply (changes old p Read term (Fixes p)) old (Err (refusal_of_fix why)) after
  refused fault.SystemLimit h = most-fixes h
  refused fault.Memory h = not-fixed h
