use Rattle.std.proofs.Common.{◌≡◌, ℕ, ◌^◌, ◌<◌, Option, ◌∷◌, length, true, false, refl, sym, ◌∙◌, ap, subst, arith}
use Rattle.slab.specs.Slab.{get, slab_len}
use Rattle.node_list.specs.Cells.{Sorted}
use Rattle.node_list.specs.Search.{place_of, visited_cells, is_it}
use Rattle.node_list.specs.Ticks.{ticks}
use Rattle.node_list.specs.inside.Walks.{cells_from, IsLinked, cell_of}
use Rattle.node_list.proofs.WalkLaws.{cells_from-step, cells_from-step_at, walk-none}
use Rattle.node_list.proofs.CellLaws.{search-past, search-here, search-on, not_it-held, not_it-other, held}
use Rattle.node_list.proofs.TickLaws.{tick-on, ticks-none, tick-in_range, ticks-one}
use Rattle.node_list.proofs.find.find_from.Goals as goal
use Rattle.node_list.proofs.find.find_from.Goals.{else-header-split_key-via-then-header-split_key+else-holds, else-header-split_key-via-else-header-split_key}

pub read-header-requires : goal.read-header-requires
read-header-requires c =
    let h = rw c.in-Some.is at c.loop-at.invariant.linked in
    rw (cells_from-step c.args.nodes.nodes.now c.in-Some.place h).1.at refl

pub returns-then-split_key-header-clause-found : goal.returns-then-split_key-header-clause-found
returns-then-split_key-header-clause-found c =
    let h = rw c.in-Some.is at c.loop-at.invariant.linked in
    let st = cells_from-step_at c.args.nodes.nodes.now c.in-Some.place c.read-header.ensures.header.node h c.read-header.ensures.header.is in
    let o : Sorted (cell_of c.in-Some.place c.read-header.ensures.header.node ∷ cells_from c.args.nodes.nodes.now c.read-header.ensures.header.node.next) = rw (c.in-Some.is, st.is) at c.loop-at.invariant.sorted in
    let f = search-past c.args.split_key c.args.term.now (cell_of c.in-Some.place c.read-header.ensures.header.node) (cells_from c.args.nodes.nodes.now c.read-header.ensures.header.node.next) o (omega (arith, c.if-split_key-header.true, c.read-header.ensures.header.key)) in
    let inv = rw (c.in-Some.is, st.is, f.found) at c.loop-at.invariant.found in
    inv

pub returns-then-split_key-header-clause-ticks : goal.returns-then-split_key-header-clause-ticks
returns-then-split_key-header-clause-ticks c =
    let h = rw c.in-Some.is at c.loop-at.invariant.linked in
    let st = cells_from-step_at c.args.nodes.nodes.now c.in-Some.place c.read-header.ensures.header.node h c.read-header.ensures.header.is in
    let o : Sorted (cell_of c.in-Some.place c.read-header.ensures.header.node ∷ cells_from c.args.nodes.nodes.now c.read-header.ensures.header.node.next) = rw (c.in-Some.is, st.is) at c.loop-at.invariant.sorted in
    let f = search-past c.args.split_key c.args.term.now (cell_of c.in-Some.place c.read-header.ensures.header.node) (cells_from c.args.nodes.nodes.now c.read-header.ensures.header.node.next) o (omega (arith, c.if-split_key-header.true, c.read-header.ensures.header.key)) in
    let inv = rw (c.in-Some.is, st.is, f.passed) at c.loop-at.invariant.ticked in
    c.read-header.ensures.ticks ∙ (sym (ticks-one c.loop-at.steps) ∙ inv)

pub returns-then-holds-clause-found : goal.returns-then-holds-clause-found
returns-then-holds-clause-found c =
    let h = rw c.in-Some.is at c.loop-at.invariant.linked in
    let st = cells_from-step_at c.args.nodes.nodes.now c.in-Some.place c.read-header.ensures.header.node h c.read-header.ensures.header.is in
    let f = search-here c.args.split_key c.args.term.now (cell_of c.in-Some.place c.read-header.ensures.header.node) (cells_from c.args.nodes.nodes.now c.read-header.ensures.header.node.next) (omega (arith, c.if-header-split_key.true, c.read-header.ensures.header.key)) (held c.args.nodes.nodes.now c.in-Some.place c.args.term.now c.read-header.ensures.header.node c.holds.result true c.read-header.ensures.header.is c.holds.ensures c.if-holds.true) in
    let inv = rw (c.in-Some.is, st.is, f.found) at c.loop-at.invariant.found in
    inv

pub returns-then-holds-clause-ticks : goal.returns-then-holds-clause-ticks
returns-then-holds-clause-ticks c =
    let h = rw c.in-Some.is at c.loop-at.invariant.linked in
    let st = cells_from-step_at c.args.nodes.nodes.now c.in-Some.place c.read-header.ensures.header.node h c.read-header.ensures.header.is in
    let f = search-here c.args.split_key c.args.term.now (cell_of c.in-Some.place c.read-header.ensures.header.node) (cells_from c.args.nodes.nodes.now c.read-header.ensures.header.node.next) (omega (arith, c.if-header-split_key.true, c.read-header.ensures.header.key)) (held c.args.nodes.nodes.now c.in-Some.place c.args.term.now c.read-header.ensures.header.node c.holds.result true c.read-header.ensures.header.is c.holds.ensures c.if-holds.true) in
    let inv = rw (c.in-Some.is, st.is, f.passed) at c.loop-at.invariant.ticked in
    c.read-header.ensures.ticks ∙ (sym (ticks-one c.loop-at.steps) ∙ inv)

pub loop-at-smaller : goal.loop-at-smaller
loop-at-smaller c =
    let h = rw c.in-Some.is at c.loop-at.invariant.linked in
    let st = cells_from-step_at c.args.nodes.nodes.now c.in-Some.place c.read-header.ensures.header.node h c.read-header.ensures.header.is in
    let e = st.is in
    rw ((c.get-at.ensures ∙ sym c.read-header.ensures.header.next), c.in-Some.is, e) (omega arith)

pub loop-at-preserved : goal.loop-at-preserved
loop-at-preserved c =
    let h = rw c.in-Some.is at c.loop-at.invariant.linked in
    let st = cells_from-step_at c.args.nodes.nodes.now c.in-Some.place c.read-header.ensures.header.node h c.read-header.ensures.header.is in
    let o : Sorted (cell_of c.in-Some.place c.read-header.ensures.header.node ∷ cells_from c.args.nodes.nodes.now c.read-header.ensures.header.node.next) = rw (c.in-Some.is, st.is) at c.loop-at.invariant.sorted in
    let not_it : is_it c.args.split_key c.args.term.now (cell_of c.in-Some.place c.read-header.ensures.header.node) ≡ false =
    elim c.else-header-split_key.branch [
      | else-header-split_key-via-then-header-split_key+else-holds w ↦
          not_it-held c.args.split_key c.args.term.now (cell_of c.in-Some.place c.read-header.ensures.header.node) (held c.args.nodes.nodes.now c.in-Some.place c.args.term.now c.read-header.ensures.header.node w.holds.result false c.read-header.ensures.header.is w.holds.ensures w.if-holds.false)
      | else-header-split_key-via-else-header-split_key w ↦
          not_it-other c.args.split_key c.args.term.now (cell_of c.in-Some.place c.read-header.ensures.header.node) (λ same. w.if-header-split_key.false (sym c.read-header.ensures.header.key ∙ same))
    ] in
    let f = search-on c.args.split_key c.args.term.now (cell_of c.in-Some.place c.read-header.ensures.header.node) (cells_from c.args.nodes.nodes.now c.read-header.ensures.header.node.next) (omega (arith, c.if-split_key-header.false, c.read-header.ensures.header.key)) not_it in
    let L : Option ℕ → Type 0 = λ z. IsLinked c.args.nodes.nodes.now z in
    let S : Option ℕ → Type 0 = λ z. Sorted (cells_from c.args.nodes.nodes.now z) in
    let R : ℕ → Type 0 = λ n. n < 2 ^ 64 in
    let found = rw (c.in-Some.is, st.is) at c.loop-at.invariant.found in
    let ticked = rw (c.in-Some.is, st.is, f.passed) at c.loop-at.invariant.ticked in
    record {
      linked = subst L (sym (c.get-at.ensures ∙ sym c.read-header.ensures.header.next)) st.onward;
      sorted = subst S (sym (c.get-at.ensures ∙ sym c.read-header.ensures.header.next)) o.1;
      found = ap (λ (z : Option ℕ). place_of c.args.split_key c.args.term.now (cells_from c.args.nodes.nodes.now z)) (c.get-at.ensures ∙ sym c.read-header.ensures.header.next) ∙ (sym f.found ∙ found);
      in_range = λ _. subst R (sym c.read-header.ensures.ticks) (tick-in_range c.loop-at.steps);
      ticked =
          ap (λ (z : Option ℕ). ticks (length (visited_cells c.args.split_key c.args.term.now (cells_from c.args.nodes.nodes.now z))) c.read-header.new.steps) (c.get-at.ensures ∙ sym c.read-header.ensures.header.next)
          ∙ (ap (ticks (length (visited_cells c.args.split_key c.args.term.now (cells_from c.args.nodes.nodes.now c.read-header.ensures.header.node.next)))) c.read-header.ensures.ticks
          ∙ (sym (tick-on c.loop-at.steps (length (visited_cells c.args.split_key c.args.term.now (cells_from c.args.nodes.nodes.now c.read-header.ensures.header.node.next)))) ∙ ticked));
    }

pub returns-clause-found : goal.returns-clause-found
returns-clause-found c =
    rw (c.in_default.is, walk-none (slab_len c.args.nodes.nodes.now) (get c.args.nodes.nodes.now)) at c.loop-at.invariant.found

pub returns-clause-ticks : goal.returns-clause-ticks
returns-clause-ticks c =
    let e = rw (c.in_default.is, walk-none (slab_len c.args.nodes.nodes.now) (get c.args.nodes.nodes.now)) at c.loop-at.invariant.ticked in
    sym (ticks-none c.loop-at.steps (c.loop-at.invariant.in_range c.in_default.is)) ∙ e
