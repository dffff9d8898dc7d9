-- Deleting an object takes no memory.
use Rattle.std.proofs.Common.{Bool, Option, None, Some, Result, Ok, Err}
use Rattle.std.specs.Prelude.{MatchOption}
use Rattle.ets_term.specs.declared.term.Term.{Term}
use Rattle.table_ops.specs.declared.refusal.Refusal.{Refusal}
use Rattle.table_ops.specs.declared.refusal.Refusal.TheVariants.{Badarg, SystemLimit, Memory}
use Rattle.table_ops.specs.Content.{Content, key_of}
use Rattle.table_ops.specs.Drop.{DeletesObject, without_those, equal_to}
use Rattle.table_ops.specs.Refusals.{RefinesChange}
use Rattle.table_ops.specs.Outcomes.{gives}
use Rattle.fixed_walk.specs.TableState.{TableState, on_content}

never-memory : (hold : Bool) (object : Term) (old new : Content) (o : Option Term) → MatchOption o (gives {R = Result (Unit {0}) Refusal} (Err Badarg) old (Err Memory) new) (λ _. gives {R = Result (Unit {0}) Refusal} (Ok tt) (without_those hold (equal_to object) old) (Err Memory) new) → ⊥
never-memory hold object old new None h = cc
never-memory hold object old new (Some key) h = cc

pub refused-object : (hold : Bool) (object : Term) (was f : TableState) (refusal : Refusal) → on_content (DeletesObject hold object) was (Err refusal) f → RefinesChange (on_content (DeletesObject hold object) was) was (Err refusal) f
refused-object hold object was f Badarg h = h
refused-object hold object was f SystemLimit h = h
refused-object hold object was f Memory h = absurd (never-memory hold object was.content f.content (key_of was.content.keypos object) h.0)
