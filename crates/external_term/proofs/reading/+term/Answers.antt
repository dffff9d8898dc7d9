use Rattle.std.proofs.Common.{◌≡◌, suc, arith, ap, sym, ◌∙◌, ◌+◌, ◌-◌, ◌++◌, ◌∷◌, [], List}
use Rattle.ets_term.specs.declared.term.Term.{Term}
use Rattle.external_term.specs.declared.tag.Tag.{Tag}
use Rattle.external_term.specs.Reader.{term_at, items, form}
use Rattle.external_term.proofs.Steps.{no_level, no_byte, by_tag, returns_as, item_read, items_fail, enough}
use Rattle.external_term.proofs.reading.+term.Goals as goal

pub term_at-returns-then-levels_left-eq0-clause-reads : goal.term_at-returns-then-levels_left-eq0-clause-reads
term_at-returns-then-levels_left-eq0-clause-reads t c =
    no_level c.args.bytes.now c.args.levels_left c.args.at c.if-levels_left-eq0.true

pub term_at-returns-then-at-bytes-clause-reads : goal.term_at-returns-then-at-bytes-clause-reads
term_at-returns-then-at-bytes-clause-reads t c =
    no_byte c.args.bytes.now c.args.levels_left c.args.at c.if-levels_left-eq0.false c.if-at-bytes.true

pub term_at-returns-clause-reads : goal.term_at-returns-clause-reads
term_at-returns-clause-reads t c =
    let bytes = c.args.bytes.now in
    let n = c.args.levels_left - 1 in
    let here = by_tag bytes c.args.levels_left c.args.at c.if-levels_left-eq0.false c.if-at-bytes.false in
    let tag = ap (λ (x : Tag). form bytes n (term_at bytes n) c.args.at x) (sym c.tag_of.ensures) in
    returns_as _ _ c.form_at.result (here ∙ tag) c.form_at.ensures.reads

pub items_at-returns-in-Err-clause-reads : goal.items_at-returns-in-Err-clause-reads
items_at-returns-in-Err-clause-reads t c =
    let bytes = c.args.bytes.now in
    let one = term_at bytes c.args.levels_left in
    let n = c.args.count - c.loop.counter in
    let m = c.args.count - (c.loop.counter + 1) in
    let e : n ≡ suc m = omega arith in
    let all = enough bytes one c.args.count c.args.at (omega arith) (omega arith) in
    items_fail one c.loop.items.items n m c.loop.next _ c.in-Err.fault e (c.loop.invariant.reads ∙ sym all) c.in-Err.ensures.reads

pub items_at-loop-preserved : goal.items_at-loop-preserved
items_at-loop-preserved t c = record {
  reads =
      let bytes = c.args.bytes.now in
      let one = term_at bytes c.args.levels_left in
      let n = c.args.count - c.loop.counter in
      let m = c.args.count - (c.loop.counter + 1) in
      let e : n ≡ suc m = omega arith in
      let found = c.in-Ok.found in
      let pushed : c.push_reserved.new.self.items ≡ c.loop.items.items ++ found.0 ∷ [] =
      c.push_reserved.ensures.items ∙ ap (λ (ts : List Term). ts ++ found.0 ∷ []) c.reserve.ensures.items in
      ap (λ (ts : List Term). items one ts m found.1) pushed
      ∙ sym (item_read one c.loop.items.items n m c.loop.next found e c.in-Ok.ensures.reads)
      ∙ c.loop.invariant.reads;
  within = c.in-Ok.ensures.within;
}
