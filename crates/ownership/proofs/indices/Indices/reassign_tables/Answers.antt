use Rattle.std.proofs.Common.{◌≡◌, ◌+◌, ◌<◌, ◌≤◌, ◌++◌, ◌∷◌, [], List, ℕ, sym, ap, subst, ◌∙◌, length, take, get_or, filter, arith, append_assoc}
use Rattle.std.proofs.lemmas.List.{append-nil, get_or_read, take_all, take_more}
use Rattle.std.specs.declared.alloc.Global.{Global}
use Rattle.std.specs.declared.vec.Vec.{Vec}
use Rattle.ownership.specs.declared.indices.Indices.{Indices}
use Rattle.ownership.specs.World.{Tables, Processes}
use Rattle.ownership.specs.inside.Indices.{is_fixed_at}
use Rattle.ownership.proofs.ReassignedIndices.{HasReassigned, reassigned-more, reassigned-all, kept-fixed-only, kept-forgotten}
use Rattle.ownership.proofs.indices.Indices.reassign_tables.Goals as goal

pub loop-id-preserved : goal.loop-id-preserved
loop-id-preserved g c =
    let ps = c.args.processes.now.entries in
    let p = c.args.pid in
    let own = c.args.own.now in
    let i = c.loop-id.id-index in
    let start = c.args.tables.now.items in
    let now = c.loop-id.tables.items in
    let new = c.reassign_table.new.tables.items in
    let within : i < length own = omega (arith, c.loop-id-test.true) in
    subst (λ (ids : List ℕ). HasReassigned c.reassign_table.new.self ps p ids start new) (sym (take_more own i 0 within))
    (reassigned-more ps p c.requires.dead c.loop-id.self (take i own) (get_or own i 0) start now new c.loop-id.invariant c.reassign_table.new.self c.reassign_table.ensures.rest c.reassign_table.ensures.indices c.reassign_table.ensures.after)

pub loop-i-preserved : goal.loop-i-preserved
loop-i-preserved g c =
    let ps = c.args.processes.now.entries in
    let p = c.args.pid in
    let own = c.args.own.now in
    let i = c.loop-i.i in
    let start = c.args.tables.now.items in
    let now = c.loop-i.tables.items in
    let new = c.reassign_table-in-loop-i.new.tables.items in
    let fixed = c.loop-i.self.fixed.items in
    let same : c.reassign_table-in-loop-i.new.self.fixed ≡ c.loop-i.self.fixed = ap (λ (n : Indices). n.fixed) c.reassign_table-in-loop-i.ensures.rest in
    let within : i < length fixed = omega (arith, c.loop-i-test.true, c.loop-i.invariant.count) in
    let id = c.index-id.result.now in
    let read : id ≡ get_or fixed i 0 = get_or_read fixed i id within c.index-id.ensures 0 in
    let more : (own ++ take i fixed) ++ id ∷ [] ≡ own ++ take (i + 1) fixed = ap (λ (k : ℕ). (own ++ take i fixed) ++ k ∷ []) read ∙ append_assoc own (take i fixed) (get_or fixed i 0 ∷ []) ∙ ap (λ (ids : List ℕ). own ++ ids) (sym (take_more fixed i 0 within)) in
    let reassigned = reassigned-more ps p c.requires.dead c.loop-i.self (own ++ take i fixed) id start now new c.loop-i.invariant.reassigned c.reassign_table-in-loop-i.new.self c.reassign_table-in-loop-i.ensures.rest c.reassign_table-in-loop-i.ensures.indices c.reassign_table-in-loop-i.ensures.after in
    record {
      count = ap (λ (v : Vec ℕ Global). length v.items) same ∙ c.loop-i.invariant.count;
      reassigned = subst (λ (v : Vec ℕ Global). HasReassigned c.reassign_table-in-loop-i.new.self ps p (own ++ take (i + 1) v.items) start new) (sym same) (subst (λ (ids : List ℕ). HasReassigned c.reassign_table-in-loop-i.new.self ps p ids start new) more reassigned);
    }

pub loop-i-init : goal.loop-i-init
loop-i-init g c =
    let now = c.loop-id.self in
    let own = c.args.own.now in
    let start = c.args.tables.now.items in
    let tables = c.loop-id.tables.items in
    let past : length own ≤ c.loop-id.id-index = omega (arith, c.loop-id-test.false) in
    record {
      count = sym (c.len-fixed.ensures ∙ now.fixed.ok.0);
      reassigned = subst (λ (ids : List ℕ). HasReassigned now c.args.processes.now.entries c.args.pid ids start tables) (take_all c.loop-id.id-index own past ∙ sym (append-nil own)) c.loop-id.invariant;
    }

module _ (now : Indices) (ps : Processes) (p i count : ℕ) (own : List ℕ) (start tables : Tables) where
  whole : length now.fixed.items ≡ count → count ≤ i → HasReassigned now ps p (own ++ take i now.fixed.items) start tables → HasReassigned now ps p (own ++ now.fixed.items) start tables
  whole same past reassigned = subst (λ (ids : List ℕ). HasReassigned now ps p (own ++ ids) start tables) (take_all i now.fixed.items (omega (arith, same, past))) reassigned

pub returns-clause-after : goal.returns-clause-after
returns-clause-after g c =
    let now = c.loop-i.self in
    let ps = c.args.processes.now.entries in
    let p = c.args.pid in
    let own = c.args.own.now in
    let start = c.args.tables.now.items in
    let tables = c.loop-i.tables.items in
    let all = whole now ps p c.loop-i.i c.len-fixed.result own start tables c.loop-i.invariant.count (omega (arith, c.loop-i-test.false)) c.loop-i.invariant.reassigned in
    reassigned-all ps p c.requires.dead now own start tables c.requires.own all

pub returns-clause-indices : goal.returns-clause-indices
returns-clause-indices g c =
    let now = c.loop-i.self in
    let ps = c.args.processes.now.entries in
    let p = c.args.pid in
    let own = c.args.own.now in
    let start = c.args.tables.now.items in
    let tables = c.loop-i.tables.items in
    let all = whole now ps p c.loop-i.i c.len-fixed.result own start tables c.loop-i.invariant.count (omega (arith, c.loop-i-test.false)) c.loop-i.invariant.reassigned in
    let items = c.retain_fixed_tables.ensures.items ∙ ap (λ (ts : Tables). filter (is_fixed_at ts) now.fixed.items) c.as_slice-2.ensures.value in
    let kept = kept-fixed-only ps p c.requires.dead now own start tables c.requires.own all c.retain_fixed_tables.new.self c.retain_fixed_tables.ensures.rest items c.retain_fixed_tables.ensures.capacity in
    kept-forgotten ps p c.requires.dead now own start tables c.requires.own all c.retain_fixed_tables.new.self c.remove_owner.new.self kept c.remove_owner.ensures
