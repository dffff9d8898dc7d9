use Rattle.std.proofs.Common.{◌≡◌, ◌^◌, ◌-◌, List, sym, ap, ◌∙◌, subst, rules}
use mathlib.Core.List.{IsPrefix}
use Rattle.node_shared.specs.declared.entry.Entry.{Entry}
use Rattle.node_shared.specs.inside.Steps.{entry_count}
use Rattle.node_shared.proofs.Lines.{own-within}
use Rattle.node_shared.proofs.Callers.{count-most}
use Rattle.node_shared.proofs.caller.Caller.learn.Goals as goal

pub invariant_of-self : goal.invariant_of-self
invariant_of-self g c =
    let own = c.self.inside.writer in
    let was = c.self.inside.seen in
    let now = c.again.result in
    let later : IsPrefix was now = subst (λ (es : List Entry). IsPrefix was es) (sym c.again.ensures) c.begins.ensures in (
      c.other.invariant.0 ∙ ap entry_count (sym c.again.ensures),
      own-within own.pid own.entries was now c.self.invariant.1 later,
    )

pub invariant_of-self-else-other-lt18446744073709551615 : goal.invariant_of-self-else-other-lt18446744073709551615
invariant_of-self-else-other-lt18446744073709551615 g c =
    let own = c.self.inside.writer in
    let was = c.self.inside.seen in
    let now = c.with.result in
    let most : c.self.inside.count ≡ 2 ^ 64 - 1 = search rules in (
      most ∙ sym (count-most was now c.with.ensures.this (sym c.self.invariant.0 ∙ most)),
      own-within own.pid own.entries was now c.self.invariant.1 c.with.ensures.this,
    )
