use Rattle.std.proofs.Common.{◌≡◌, ◌++◌, [], ◌∷◌, Bool, Some, true, cond, refl, sym, ap, ◌∙◌, List, length, take, nat_lt, slice_get, arith}
use Rattle.std.proofs.lemmas.Option.{slice_get_read}
use Rattle.ets_term.specs.declared.term.Term.{Term}
use Rattle.table_ops.specs.Results.{chosen_count}
use Rattle.table_ops.specs.inside.DeletePlan.{kept_of}
use Rattle.table_ops.proofs.DeletePlanLaws.{first-left}
use Rattle.table_ops.proofs.QueryLaws.{chosen-next, chosen-take}
use Rattle.table_ops.proofs.partition.Partition.add.Goals as goal

pub returns-then-self-eq0-clause-partition : goal.returns-then-self-eq0-clause-partition
returns-then-self-eq0-clause-partition g c =
    let choose = g.P.Predicate.tests c.args.trial.now.query.now in
    let xs = c.args.objects.now in
    let i = c.args.i in
    let x = c.index-objects-i.result in
    let at : slice_get xs i ≡ Some x = slice_get_read xs (length xs) i x refl c.requires.within c.index-objects-i.is in
    let is : choose x ≡ true = sym c.in_ok-chooses.ensures.chosen ∙ c.if-branch.true in
    let none : chosen_count choose (take i xs) ≡ 0 = sym c.requires.partition.counted ∙ c.if-self-eq0.true in
    let one : chosen_count choose (x ∷ []) ≡ 1 = ap (λ (b : Bool). length (cond b (x ∷ []) [])) is in
    let empty : c.args.self.now.kept ≡ [] = c.requires.partition.stay ∙ ap (λ n. kept_of (nat_lt 0 n) choose (take i xs)) c.if-self-eq0.true in
    record {
      counted = omega (arith, chosen-next choose xs i x at, none, one);
      stay = c.in_ok-append_copies.ensures ∙ ap (λ (l : List Term). l ++ take i xs) empty ∙ first-left choose xs i x at is none;
    }

pub overflow_add-self : goal.overflow_add-self
overflow_add-self g c = omega (arith, chosen-take (g.P.Predicate.tests c.args.trial.now.query.now) c.args.i c.args.objects.now, c.requires.partition.counted, c.requires.within, c.requires.few)
