use Rattle.std.proofs.Common.{inl, ◌^◌, ◌<◌, Some, None, ◌∙◌, ap, arith, ℕ, get_or}
use Rattle.split_key.specs.Keys.{key_of_item}
use Rattle.bucket_table.proofs.hints.Search.{empty-absent, empty-looked, hint-says}
use Rattle.bucket_table.proofs.hints.SearchBelow.{first-start}
use Rattle.bucket_table.proofs.split.index.SplitIndex.find.Goals as goal

pub find_from-requires-clause-start : goal.find_from-requires-clause-start
find_from-requires-clause-start g c =
    let key = c.item_key.ensures ∙ ap key_of_item c.requires.hash in
    let index = c.args.self.now in
    let read = c.get.ensures ∙ ap (λ (z : ℕ). get_or index.hints.current z None) c.interval_of-interval.ensures in
    first-start (g.H.KeyHash.hash index.hasher) index.directory index.list.cells c.args.key.now index.hints.interval_bits c.in-Some-Some.first index.hints.current c.requires.rows.rows.split c.requires.rows.rows.hinted c.reveal_invariant.ensures.sorted c.reveal_invariant.ensures.apart
    (inl (hint-says (2 ^ index.hints.interval_bits) index.hints.current index.list.cells c.item_key.result (key_of_item (g.H.KeyHash.hash index.hasher c.args.key.now)) c.get.result (Some c.in-Some-Some.first) c.requires.rows.rows.hinted.hints read (c.in-Some-Some.is ∙ ap Some c.in-Some-Some.field-0-is) key))

pub returns-in-Some-None-clause-found : goal.returns-in-Some-None-clause-found
returns-in-Some-None-clause-found g c =
    let key = c.item_key.ensures ∙ ap key_of_item c.requires.hash in
    let index = c.args.self.now in
    let read = c.get.ensures ∙ ap (λ (z : ℕ). get_or index.hints.current z None) c.interval_of-interval.ensures in
    let empty = hint-says (2 ^ index.hints.interval_bits) index.hints.current index.list.cells c.item_key.result (key_of_item (g.H.KeyHash.hash index.hasher c.args.key.now)) c.get.result None c.requires.rows.rows.hinted.hints read (c.in-Some-None.is ∙ ap Some c.in-Some-None.field-0-is) key in
    empty-absent (g.H.KeyHash.hash index.hasher) index.directory index.list.cells c.args.key.now (2 ^ index.hints.interval_bits) c.requires.rows.rows.split empty

pub returns-in-Some-None-clause-visits : goal.returns-in-Some-None-clause-visits
returns-in-Some-None-clause-visits g c =
    let key = c.item_key.ensures ∙ ap key_of_item c.requires.hash in
    let index = c.args.self.now in
    let read = c.get.ensures ∙ ap (λ (z : ℕ). get_or index.hints.current z None) c.interval_of-interval.ensures in
    let empty = hint-says (2 ^ index.hints.interval_bits) index.hints.current index.list.cells c.item_key.result (key_of_item (g.H.KeyHash.hash index.hasher c.args.key.now)) c.get.result None c.requires.rows.rows.hinted.hints read (c.in-Some-None.is ∙ ap Some c.in-Some-None.field-0-is) key in
    let few : c.args.steps.now < 2 ^ 64 = omega arith in
    empty-looked (g.H.KeyHash.hash index.hasher) index.directory index.list.cells c.args.key.now (2 ^ index.hints.interval_bits) c.requires.rows.rows.split empty c.args.steps.now few
