use Rattle.std.proofs.Common.{◌<◌, ◌≤◌, sym, subst, length, Err, Ok, arith}
use Rattle.std.specs.List.Sorted.{IsBinarySearchResult}
use Rattle.std.specs.Ordering.{nat_cmp}
use Rattle.std.proofs.lemmas.List.Edits.{length-insert}
use Rattle.ownership.specs.inside.Indices.{InsertsInOrder}
use Rattle.ownership.proofs.Ascending.{put-in, put-found, few-between}
use Rattle.ownership.proofs.indices.identifiers.insert_in_order.Goals as goal

pub returns-in_err-insert-in-Err-clause-room : goal.returns-in_err-insert-in-Err-clause-room
returns-in_err-insert-in-Err-clause-room c = λ high order below room.
    let ids = c.args.ids.now.items in
    let at : c.in-Err.index ≤ length ids = subst (λ xs. c.in-Err.index ≤ length xs) c.deref.ensures.value c.in-Err.ensures.bound in
    let parted : IsBinarySearchResult (λ t. nat_cmp t c.args.id) ids (Err c.in-Err.index) = subst (λ xs. IsBinarySearchResult (λ t. nat_cmp t c.args.id) xs (Err c.in-Err.index)) c.deref.ensures.value c.in-Err.ensures.position in
    let more = few-between 0 high _ ((put-in ids c.in-Err.index c.args.id at parted).order 0 high (omega arith) below order) in
    absurd (omega (arith, length-insert ids c.in-Err.index c.args.id at, more, room, c.in_err-insert-in-Err.ensures.full, c.args.ids.now.ok.0))

pub returns-in-Ok-clause-ok : goal.returns-in-Ok-clause-ok
returns-in-Ok-clause-ok c =
    let ids = c.args.ids.now.items in
    put-found ids c.in-Ok.field-0 c.args.id (subst (λ xs. c.in-Ok.field-0 < length xs) c.deref.ensures.value c.in-Ok.ensures.bound)
    (subst (λ xs. IsBinarySearchResult (λ t. nat_cmp t c.args.id) xs (Ok c.in-Ok.field-0)) c.deref.ensures.value c.in-Ok.ensures.position)

pub returns-in_ok-insert-in-Err-clause-ok : goal.returns-in_ok-insert-in-Err-clause-ok
returns-in_ok-insert-in-Err-clause-ok c =
    let ids = c.args.ids.now.items in
    let at : c.in-Err.index ≤ length ids = subst (λ xs. c.in-Err.index ≤ length xs) c.deref.ensures.value c.in-Err.ensures.bound in
    let parted : IsBinarySearchResult (λ t. nat_cmp t c.args.id) ids (Err c.in-Err.index) = subst (λ xs. IsBinarySearchResult (λ t. nat_cmp t c.args.id) xs (Err c.in-Err.index)) c.deref.ensures.value c.in-Err.ensures.position in
    subst (InsertsInOrder ids c.args.id) (sym c.in_ok-insert-in-Err.ensures.items) (put-in ids c.in-Err.index c.args.id at parted)
