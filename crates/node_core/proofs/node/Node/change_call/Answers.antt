use Rattle.std.proofs.Common.{◌≡◌, [], ◌∷◌}
use Rattle.node_core.proofs.calls.Arguments.{three, four}
use Rattle.node_core.proofs.node.Node.change_call.Goals as goal

pub returns-in-UpdateCounter : goal.returns-in-UpdateCounter
returns-in-UpdateCounter g c =
    let items : c.args.args.now ≡ c.x-item-then-args-lt4.result ∷ c.y-item-then-args-lt4.result ∷ c.z-item.result ∷ [] = three c.args.args.now c.x-item-then-args-lt4.result c.y-item-then-args-lt4.result c.z-item.result c.in-len3.len_at_least c.in-len3.len_below c.x-item-then-args-lt4.is c.y-item-then-args-lt4.is c.z-item.is in
    rw (items, c.in-UpdateCounter.is) c.update_counter_into.ensures

pub returns-in-UpdateElement : goal.returns-in-UpdateElement
returns-in-UpdateElement g c =
    let items : c.args.args.now ≡ c.x-item-then-args-lt4.result ∷ c.y-item-then-args-lt4.result ∷ c.z-item.result ∷ [] = three c.args.args.now c.x-item-then-args-lt4.result c.y-item-then-args-lt4.result c.z-item.result c.in-len3.len_at_least c.in-len3.len_below c.x-item-then-args-lt4.is c.y-item-then-args-lt4.is c.z-item.is in
    rw (items, c.in-UpdateElement.is) c.update_element_into.ensures

pub returns-in-UpdateCounter-name : goal.returns-in-UpdateCounter-name
returns-in-UpdateCounter-name g c =
    let items : c.args.args.now ≡ c.x-item-then-args-lt5.result ∷ c.y-item-then-args-lt5.result ∷ c.z-item-then-args-lt5.result ∷ c.default-item.result ∷ [] = four c.args.args.now c.x-item-then-args-lt5.result c.y-item-then-args-lt5.result c.z-item-then-args-lt5.result c.default-item.result c.in-len4.len_at_least c.in-len4.len_below c.x-item-then-args-lt5.is c.y-item-then-args-lt5.is c.z-item-then-args-lt5.is c.default-item.is in
    rw (items, c.in-UpdateCounter-name.is) c.update_counter_into-in-UpdateCounter-name.ensures

pub returns-in-UpdateElement-name : goal.returns-in-UpdateElement-name
returns-in-UpdateElement-name g c =
    let items : c.args.args.now ≡ c.x-item-then-args-lt5.result ∷ c.y-item-then-args-lt5.result ∷ c.z-item-then-args-lt5.result ∷ c.default-item.result ∷ [] = four c.args.args.now c.x-item-then-args-lt5.result c.y-item-then-args-lt5.result c.z-item-then-args-lt5.result c.default-item.result c.in-len4.len_at_least c.in-len4.len_below c.x-item-then-args-lt5.is c.y-item-then-args-lt5.is c.z-item-then-args-lt5.is c.default-item.is in
    rw (items, c.in-UpdateElement-name.is) c.update_element_into-in-UpdateElement-name.ensures
