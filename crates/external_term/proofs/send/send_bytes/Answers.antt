use Rattle.std.proofs.Common.{◌≡◌, ap, ◌∙◌, [], ◌+◌, ◌-◌, ℕ, List, ◌++◌, take, drop, length, sym, rules, length-drop}
use Rattle.std.proofs.Math.Seq.{take-add, take-length}
use Rattle.std.proofs.lemmas.List.{take-append-drop, append-nil}
use Rattle.external_term.proofs.SentPieces.{appends-then, appends-as, appends-keeps}
use Rattle.external_term.proofs.send.send_bytes.Goals as goal

sliced : (i n : ℕ) (xs : List ℕ) → take i xs ++ take n (take (length xs - i) (drop i xs)) ≡ take (i + n) xs
sliced i n xs = let e : length xs - i ≡ length (drop i xs) = sym (length-drop i xs) in rw (e, take-length (drop i xs)) (sym (take-add i n xs))

pub returns-in-Ok-eq0 : goal.returns-in-Ok-eq0
returns-in-Ok-eq0 g c =
    let i = c.loop-done.done in
    let bs = c.args.bytes.now in
    let n = c.in-Ok-eq0.field-0 in
    let none : take n (take (length bs - i) (drop i bs)) ≡ [] = ap (λ (m : ℕ). take m (take (length bs - i) (drop i bs))) c.in-Ok-eq0.field-0-test in
    let same = appends-then (g.W.Write.contents c.args.out.now) (g.W.Write.contents c.loop-done.out) (g.W.Write.contents c.write.new.self) (take i bs) (take n (take (length bs - i) (drop i bs))) c.loop-done.invariant.1 c.in-Ok-eq0.ensures.bytes in
    (take i bs, drop i bs, sym (take-append-drop i bs), appends-as _ _ _ (take i bs) (ap (λ (xs : List ℕ). take i bs ++ xs) none ∙ append-nil (take i bs)) same)

pub loop-done-preserved : goal.loop-done-preserved
loop-done-preserved g c =
    let i = c.loop-done.done in
    let n = c.in-Ok.n in
    let bs = c.args.bytes.now in (
      search rules,
      appends-as (g.W.Write.contents c.args.out.now) (g.W.Write.contents c.write.new.self) _ (take (i + n) bs) (sliced i n bs)
          (appends-then (g.W.Write.contents c.args.out.now) (g.W.Write.contents c.loop-done.out) (g.W.Write.contents c.write.new.self) (take i bs) (take n (take (length bs - i) (drop i bs))) c.loop-done.invariant.1 c.in-Ok.ensures.bytes),
    )

pub returns-in-Err : goal.returns-in-Err
returns-in-Err g c =
    let i = c.loop-done.done in
    let bs = c.args.bytes.now in
    (take i bs, drop i bs, sym (take-append-drop i bs), appends-keeps (g.W.Write.contents c.args.out.now) (g.W.Write.contents c.loop-done.out) (g.W.Write.contents c.write.new.self) (take i bs) c.loop-done.invariant.1 c.in-Err.ensures.bytes)
