use Rattle.std.proofs.Common.{◌≡◌, suc, ◌+◌, ◌<◌, [], ◌∷◌, ◌++◌, Some, refl, sym, ap, ◌∙◌, take, length, slice_get, arith}
use Rattle.std.proofs.lemmas.Option.{slice_get_read}
use Rattle.table_ops.specs.Read.{elements_at}
use Rattle.table_ops.proofs.ReadLaws.{elements-push, lookup_element-none}
use Rattle.table_ops.proofs.InsertLaws.{take-one}
use Rattle.table_ops.proofs.table.lookup.elements.Goals as goal

pub returns-in_default : goal.returns-in_default
returns-in_default c =
    let xs = c.args.objects.now in
    let i = c.loop-object.object-index in
    let within : i < length xs = omega arith in
    let at : slice_get xs i ≡ Some c.object-item.result = slice_get_read xs (length xs) i c.object-item.result refl within c.object-item.is in
    lookup_element-none c.args.position xs i c.object-item.result at (sym c.in_default.ensures)

pub loop-object-preserved : goal.loop-object-preserved
loop-object-preserved c =
    let xs = c.args.objects.now in
    let i = c.loop-object.object-index in
    let x = c.object-item.result in
    let inv = c.loop-object.invariant in
    let copies = c.loop-object.copies.items in
    let within : i < length xs = omega arith in
    let at : slice_get xs i ≡ Some x = slice_get_read xs (length xs) i x refl within c.object-item.is in
    let next : i + 1 ≡ suc i = omega arith in
    let more : take (i + 1) xs ≡ take i xs ++ x ∷ [] = ap (λ n. take n xs) next ∙ take-one xs i x at in
    let pushed : c.push_reserved.new.self.items ≡ copies ++ c.in-Some.element.now ∷ [] = c.push_reserved.ensures.items ∙ ap (λ t. copies ++ t ∷ []) c.in_ok-unpack.ensures in
    record {
      done = ap (elements_at c.args.position) more ∙ elements-push c.args.position (take i xs) copies x c.in-Some.element.now inv.done (sym c.in-Some.ensures) ∙ ap Some (sym pushed);
      count = omega (arith, c.push_reserved.ensures.len, inv.count);
      room = omega (arith, c.push_reserved.ensures.capacity, inv.room);
    }
