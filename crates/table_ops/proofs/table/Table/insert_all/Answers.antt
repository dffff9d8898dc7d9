use Rattle.std.proofs.Common.{◌≡◌, ◌≤◌, Ok, false, sym, subst, ◌∙◌}
use Rattle.std.specs.List.{list_any}
use Rattle.ets_term.specs.Depth.{is_too_deep}
use Rattle.table_ops.specs.Content.{Content}
use Rattle.table_ops.specs.Put.{InsertsWithinLimit}
use Rattle.table_ops.specs.inside.TableRows.{content_of}
use Rattle.table_ops.proofs.TableRowsLaws.{of-slots, holds-kept}
use Rattle.table_ops.proofs.InvariantLaws.{slots-puts-all}
use Rattle.table_ops.proofs.InsertLaws.{stores-done}
use Rattle.table_ops.proofs.table.Table.insert_all.Goals as goal

pub invariant_of-self-2 : goal.invariant_of-self-2
invariant_of-self-2 g c =
    let i = c.self.invariant in
    let p = c.in_ok-count.ensures.slots in
    let shallow : list_any is_too_deep c.args.objects.now ≡ false = sym c.any_too_deep.ensures ∙ c.if-any_too_deep.false in
    holds-kept g.R.Rows.slots c.self.inside.inner c.put_all.new.self c.in_ok-count.ensures.keeps.rest c.in_ok-count.count (record {
      counted = p.1;
      within = p.2;
      few = i.few;
      slots_are = slots-puts-all c.self.inside.inner.kind c.self.inside.inner.keypos (g.R.Rows.slots c.self.inside.inner.rows) c.args.objects.now (g.R.Rows.slots c.put_all.new.self.rows) i.slots_are shallow p.0;
    })

pub returns-clause-content : goal.returns-clause-content
returns-clause-content g c =
    let old : Content = content_of g.R.Rows.slots c.self.inside.inner in
    let p = c.in_ok-count.ensures.slots in
    let shallow : list_any is_too_deep c.args.objects.now ≡ false = sym c.any_too_deep.ensures ∙ c.if-any_too_deep.false in
    rw (← c.self.view_is)
    (of-slots g.R.Rows.slots c.self.inside.inner c.put_all.new.self c.in_ok-count.ensures.keeps.rest (λ (n : Content). InsertsWithinLimit c.args.done c.args.objects.now old (Ok c.args.done) n)
    (stores-done c.args.done c.args.objects.now old shallow (g.R.Rows.slots c.put_all.new.self.rows) p.0 (subst (λ n. n ≤ c.self.inside.inner.limit) p.1 p.2)))
