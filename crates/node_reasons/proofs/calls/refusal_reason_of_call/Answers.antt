use Rattle.std.proofs.Common.{◌≡◌, ◌≤◌, ◌<◌, ℕ, List, [], ◌∷◌, Option, sym, length, get_or, arith, ◌∙◌}
use Rattle.ets_term.specs.declared.term.Term.{Term}
use Rattle.fixed_walk.specs.TableState.{TableState}
use Rattle.ownership.specs.declared.metadata.Metadata.{Metadata}
use Rattle.ownership.specs.World.{Tables, metadata_of}
use Rattle.node_core.specs.declared.call_name.CallName.{CallName}
use Rattle.node_core.proofs.calls.Arguments.{three, four}
use Rattle.node_reasons.specs.Reasons.{table_of_term}
use Rattle.node_reasons.specs.inside.RefusalReasonsOfCalls.{state_of, content_in, refusal_reason_by_name}
use Rattle.node_reasons.proofs.calls.refusal_reason_of_call.Goals as goal

one : {X : Type 0} (xs : List X) (x : X) → 1 ≤ length xs → length xs < 2 → x ≡ get_or xs 0 x → xs ≡ x ∷ []
one [] x h k e = absurd (omega (arith, h))
one (a ∷ []) x h k e = λ i. sym e i ∷ []
one (a ∷ b ∷ xs) x h k e = absurd (omega (arith, k))

two : {X : Type 0} (xs : List X) (x y : X) → 2 ≤ length xs → length xs < 3 → x ≡ get_or xs 0 x → y ≡ get_or xs 1 y → xs ≡ x ∷ y ∷ []
two [] x y h k e f = absurd (omega (arith, h))
two (a ∷ []) x y h k e f = absurd (omega (arith, h))
two (a ∷ b ∷ []) x y h k e f = λ i. sym e i ∷ sym f i ∷ []
two (a ∷ b ∷ c ∷ xs) x y h k e f = absurd (omega (arith, k))

-- the table that is found is that of the first argument
found : (ts : Tables) (name : CallName) (rest : List Term) {p q : ℕ} {x y : Term} {metadata : Option Metadata} {fixed : Option TableState}
    → q ≡ p → y ≡ x → metadata ≡ metadata_of (table_of_term ts x) → fixed ≡ state_of (table_of_term ts x)
    → refusal_reason_by_name q metadata (content_in fixed) name (y ∷ rest) ≡ refusal_reason_by_name p (metadata_of (table_of_term ts x)) (content_in (state_of (table_of_term ts x))) name (x ∷ rest)
found ts name rest a b d e = λ i. refusal_reason_by_name (a i) (d i) (content_in (e i)) name (b i ∷ rest)

pub returns-in-len1 : goal.returns-in-len1
returns-in-len1 g c =
    rw (one c.args.args.now c.x-item.result c.in-len1.len_at_least c.in-len1.len_below c.x-item.is)
    (c.refusal_reason_of_unary_call.ensures ∙ found c.args.world.now.tables c.args.name _ c.find.ensures.pid c.find.ensures.term c.find.ensures.metadata c.find.ensures.table)

pub returns-in-len2 : goal.returns-in-len2
returns-in-len2 g c =
    rw (two c.args.args.now c.x-item-then-args-lt3.result c.y-item.result c.in-len2.len_at_least c.in-len2.len_below c.x-item-then-args-lt3.is c.y-item.is)
    (c.refusal_reason_of_binary_call.ensures ∙ found c.args.world.now.tables c.args.name _ c.find-in-len2.ensures.pid c.find-in-len2.ensures.term c.find-in-len2.ensures.metadata c.find-in-len2.ensures.table)

pub returns-in-len3 : goal.returns-in-len3
returns-in-len3 g c =
    rw (three c.args.args.now c.x-item-then-args-lt4.result c.y-item-then-args-lt4.result c.z-item.result c.in-len3.len_at_least c.in-len3.len_below c.x-item-then-args-lt4.is c.y-item-then-args-lt4.is c.z-item.is)
    (c.refusal_reason_of_ternary_call.ensures ∙ found c.args.world.now.tables c.args.name _ c.find-in-len3.ensures.pid c.find-in-len3.ensures.term c.find-in-len3.ensures.metadata c.find-in-len3.ensures.table)

pub returns-in-len4 : goal.returns-in-len4
returns-in-len4 g c =
    rw (four c.args.args.now c.x-item-then-args-lt5.result c.y-item-then-args-lt5.result c.z-item-then-args-lt5.result c.default-item.result c.in-len4.len_at_least c.in-len4.len_below c.x-item-then-args-lt5.is c.y-item-then-args-lt5.is c.z-item-then-args-lt5.is c.default-item.is)
    (c.refusal_reason_of_quaternary_call.ensures ∙ found c.args.world.now.tables c.args.name _ c.find-in-len4.ensures.pid c.find-in-len4.ensures.term c.find-in-len4.ensures.metadata c.find-in-len4.ensures.table)
