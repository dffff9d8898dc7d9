use Rattle.std.proofs.Common.{rules, ◌≡◌, ℕ, true, Option, None, Some, Err, refl, sym, ap, ◌∙◌}
use Rattle.std.specs.Prelude.{false}
use Rattle.std.specs.Option.{option_map_or}
use Rattle.std.proofs.lemmas.Result.{err_from_is_err_and}
use Rattle.ets_term.specs.declared.term.Term.{Term}
use Rattle.ownership.specs.declared.fault.WorldFault.{WorldFault}
use Rattle.ownership.specs.declared.fault.WorldFault.TheVariants.{Badarg, SystemLimit, NoProcess, Memory}
use Rattle.ownership.specs.declared.metadata.Heir.{Heir}
use Rattle.ownership.specs.World.{Table, World, table_at}
use Rattle.ownership.specs.Access.{is_owner}
use Rattle.ownership.specs.Lookups.{has_access}
use Rattle.ownership.specs.Options.{heir_after}
use Rattle.ownership.specs.Outcomes.{RefinesWorld}
use Rattle.ownership.specs.Tables.{SetOptions}
use Rattle.ownership.specs.inside.Reading.{ReadsHeir}
use Rattle.ownership.proofs.world.World.set_options.Goals as goal

refused_at : (old : World) (p t : ℕ) (options : Term) → has_access is_owner old.tables p t ≡ true → ((heir : Option Heir) → heir_after heir options ≡ None) → (o : Option Table) → table_at old.tables t ≡ o → SetOptions old p t options (Err Badarg) old
refused_at old p t options own none None e = rw e (refl, refl)
refused_at old p t options own none (Some table) e =
    let mine : is_owner table.metadata p ≡ true = ap (λ o. option_map_or (λ (x : Table). is_owner x.metadata p) o false) (sym e) ∙ own in
    rw e (rw mine (rw (none table.metadata.heir) (refl, refl)))

-- the options are refused for any reason
refused : (old : World) (p t : ℕ) (options : Term) → has_access is_owner old.tables p t ≡ true → (why : WorldFault) → ((heir : Option Heir) → ReadsHeir (heir_after heir options) heir (Err why)) → RefinesWorld (SetOptions old p t options) old (Err why) old
refused old p t options own Badarg reads = refused_at old p t options own reads _ refl
refused old p t options own SystemLimit reads = absurd (reads None)
refused old p t options own NoProcess reads = absurd (reads None)
refused old p t options own Memory reads = refl

pub returns-in_err-heir : goal.returns-in_err-heir
returns-in_err-heir g c =
    let own : has_access is_owner c.args.self.now.tables c.args.pid c.args.id ≡ true = search rules in
    let p = err_from_is_err_and c.from_residual.result c.from_residual.ensures.1 in
    rw (p.1, p.2) (refused c.args.self.now c.args.pid c.args.id c.args.options.now own c.in_err-heir.field-0.0 c.in_err-heir.ensures)
