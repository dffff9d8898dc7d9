use Rattle.std.proofs.Common.{sym}
use Rattle.match_spec.proofs.ExpressionLaws.{parts-length, parts-conditions, parts-body, parts-three}
use Rattle.match_spec.proofs.spec.check.three_parts.Goals as goal

pub returns-then-parts-ne3 : goal.returns-then-parts-ne3
returns-then-parts-ne3 c = parts-length c.args.parts.now c.if-parts-ne3.true

pub returns-in_default : goal.returns-in_default
returns-in_default c = parts-conditions c.args.parts.now c.index-parts-1.result c.if-parts-ne3.false (sym c.index-parts-1.is) c.in_default.not-List

pub returns-in_default-parts : goal.returns-in_default-parts
returns-in_default-parts c =
    parts-body c.args.parts.now c.index-parts-1.result c.index-parts-2.result _ c.if-parts-ne3.false (sym c.index-parts-1.is) c.in-List.is (sym c.index-parts-2.is) c.in_default-parts.not-List

pub returns : goal.returns
returns c =
    rw (c.as_slice.ensures, c.as_slice-2.ensures) (parts-three c.args.parts.now c.index-parts-0.result c.index-parts-1.result c.index-parts-2.result _ _ c.if-parts-ne3.false
    (sym c.index-parts-0.is) (sym c.index-parts-1.is) c.in-List.is (sym c.index-parts-2.is) c.in-List-parts.is)
