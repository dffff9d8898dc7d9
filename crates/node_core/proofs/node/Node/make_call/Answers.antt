use Rattle.std.proofs.Common.{◌≡◌, [], ◌∷◌}
use Rattle.node_core.proofs.calls.Arguments.{two, three}
use Rattle.node_core.proofs.node.Node.make_call.Goals as goal

pub returns-in-Insert : goal.returns-in-Insert
returns-in-Insert g c =
    let items : c.args.args.now ≡ c.x-item.result ∷ c.y-item.result ∷ [] = two c.args.args.now c.x-item.result c.y-item.result c.in-len2.len_at_least c.in-len2.len_below c.x-item.is c.y-item.is in
    rw (items, c.in-Insert.is) c.insert_into.ensures

pub returns-in-Delete : goal.returns-in-Delete
returns-in-Delete g c =
    let items : c.args.args.now ≡ c.x-item.result ∷ c.y-item.result ∷ [] = two c.args.args.now c.x-item.result c.y-item.result c.in-len2.len_at_least c.in-len2.len_below c.x-item.is c.y-item.is in
    rw (items, c.in-Delete.is) c.delete_into.ensures

pub returns-in-UpdateCounter : goal.returns-in-UpdateCounter
returns-in-UpdateCounter g c =
    let items : c.args.args.now ≡ c.x-item-then-args-lt4.result ∷ c.y-item-then-args-lt4.result ∷ c.z-item.result ∷ [] = three c.args.args.now c.x-item-then-args-lt4.result c.y-item-then-args-lt4.result c.z-item.result c.in-len3.len_at_least c.in-len3.len_below c.x-item-then-args-lt4.is c.y-item-then-args-lt4.is c.z-item.is in
    rw (items, c.in-UpdateCounter.is) c.update_counter_into.ensures

pub returns-in-UpdateElement : goal.returns-in-UpdateElement
returns-in-UpdateElement g c =
    let items : c.args.args.now ≡ c.x-item-then-args-lt4.result ∷ c.y-item-then-args-lt4.result ∷ c.z-item.result ∷ [] = three c.args.args.now c.x-item-then-args-lt4.result c.y-item-then-args-lt4.result c.z-item.result c.in-len3.len_at_least c.in-len3.len_below c.x-item-then-args-lt4.is c.y-item-then-args-lt4.is c.z-item.is in
    rw (items, c.in-UpdateElement.is) c.update_element_into.ensures
