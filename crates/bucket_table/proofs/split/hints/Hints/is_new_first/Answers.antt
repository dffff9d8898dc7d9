use Rattle.std.proofs.Common.{◌^◌, Some, None, refl, sym, ◌∙◌, ap, ℕ, get_or}
use Rattle.bucket_table.proofs.hints.Insert.{new-empty, is_place, key-is, new-before, kept-behind}
use Rattle.bucket_table.proofs.hints.Search.{hint-says}
use Rattle.bucket_table.proofs.split.hints.Hints.is_new_first.Goals as goal

pub split_key-requires : goal.split_key-requires
split_key-requires c =
    let read = c.get.ensures ∙ ap (λ (z : ℕ). get_or c.args.self.now.current z None) c.interval_of.ensures in
    let is = hint-says (2 ^ c.args.self.now.interval_bits) c.args.self.now.current c.args.list.now.cells c.args.split_key c.args.split_key c.get.result (Some c.in-Some-Some.first) c.requires.hints.current read (c.in-Some-Some.is ∙ ap Some c.in-Some-Some.field-0-is) refl in
    is_place (2 ^ c.args.self.now.interval_bits) c.args.split_key c.in-Some-Some.first c.args.list.now.cells c.reveal_invariant.ensures.sorted c.reveal_invariant.ensures.apart is

pub returns-in-Some-None-clause-first : goal.returns-in-Some-None-clause-first
returns-in-Some-None-clause-first c = λ _.
    let read = c.get.ensures ∙ ap (λ (z : ℕ). get_or c.args.self.now.current z None) c.interval_of.ensures in
    let is = hint-says (2 ^ c.args.self.now.interval_bits) c.args.self.now.current c.args.list.now.cells c.args.split_key c.args.split_key c.get.result None c.requires.hints.current read (c.in-Some-None.is ∙ ap Some c.in-Some-None.field-0-is) refl in
    new-empty (2 ^ c.args.self.now.interval_bits) c.args.split_key c.args.list.now.cells is

pub returns-in-Some-Some-clause-first : goal.returns-in-Some-Some-clause-first
returns-in-Some-Some-clause-first c = λ less.
    let read = c.get.ensures ∙ ap (λ (z : ℕ). get_or c.args.self.now.current z None) c.interval_of.ensures in
    let is = hint-says (2 ^ c.args.self.now.interval_bits) c.args.self.now.current c.args.list.now.cells c.args.split_key c.args.split_key c.get.result (Some c.in-Some-Some.first) c.requires.hints.current read (c.in-Some-Some.is ∙ ap Some c.in-Some-Some.field-0-is) refl in
    let k = key-is (2 ^ c.args.self.now.interval_bits) c.args.split_key c.in-Some-Some.first c.args.list.now.cells c.reveal_invariant.ensures.sorted c.reveal_invariant.ensures.apart is c.split_key.result c.split_key.ensures in
    new-before (2 ^ c.args.self.now.interval_bits) c.args.split_key c.in-Some-Some.first c.args.list.now.cells c.reveal_invariant.ensures.sorted c.reveal_invariant.ensures.apart is c.split_key.result k less

pub returns-in-Some-Some-clause-keeps : goal.returns-in-Some-Some-clause-keeps
returns-in-Some-Some-clause-keeps c = λ more.
    let read = c.get.ensures ∙ ap (λ (z : ℕ). get_or c.args.self.now.current z None) c.interval_of.ensures in
    let hint = c.in-Some-Some.is ∙ ap Some c.in-Some-Some.field-0-is in
    let is = hint-says (2 ^ c.args.self.now.interval_bits) c.args.self.now.current c.args.list.now.cells c.args.split_key c.args.split_key c.get.result (Some c.in-Some-Some.first) c.requires.hints.current read hint refl in
    let k = key-is (2 ^ c.args.self.now.interval_bits) c.args.split_key c.in-Some-Some.first c.args.list.now.cells c.reveal_invariant.ensures.sorted c.reveal_invariant.ensures.apart is c.split_key.result c.split_key.ensures in
    kept-behind (2 ^ c.args.self.now.interval_bits) c.args.split_key c.in-Some-Some.first c.args.list.now.cells c.reveal_invariant.ensures.sorted c.reveal_invariant.ensures.apart is c.split_key.result _ (sym read ∙ hint) k more
