use Rattle.std.proofs.Common.{◌≡◌, ◌++◌, ◌∷◌, [], ◌+◌, ◌≤◌, true, None, Some, Result, Ok, Err, OnErr, sym, ap, subst, ◌∙◌, length, arith}
use Rattle.std.specs.Prelude.{vec_capacity}
use Rattle.indexmap.specs.IndexMap.{get_by_text}
use Rattle.ownership.specs.declared.metadata.Metadata.{Metadata}
use Rattle.ownership.specs.declared.indices.Indices.{Indices}
use Rattle.ownership.specs.World.{all_metadata, whereis}
use Rattle.ownership.specs.inside.Names.{NameIndexIsExact}
use Rattle.ownership.specs.inside.Indices.{IsAmong, ids_under}
use Rattle.ownership.proofs.MetadataLaws.{all_metadata-push, length-all_metadata}
use Rattle.ownership.proofs.Keeping.{kept-adds, kept-room, kept-named, kept-push}
use Rattle.ownership.proofs.indices.Indices.insert.Goals as goal

on-err : {E P : Type 0} (r : Result (Unit {0}) E) → P → OnErr r P
on-err (Ok done) p = tt
on-err (Err error) p = p

pub returns-in_err-reserve-clause-err : goal.returns-in_err-reserve-clause-err
returns-in_err-reserve-clause-err g c =
    on-err c.from_residual.result (kept-room c.mark_dirty.new.self c.args.tables.now c.mark_dirty.ensures.indices c.reserve.new.self c.reserve.ensures.rest c.reserve.ensures.items c.reserve.ensures.capacity)

pub returns-in_err-index_owner-clause-err : goal.returns-in_err-index_owner-clause-err
returns-in_err-index_owner-clause-err g c =
    let tables = c.args.tables.now in
    let room = kept-room c.mark_dirty.new.self tables c.mark_dirty.ensures.indices c.reserve.new.self c.reserve.ensures.rest c.reserve.ensures.items c.reserve.ensures.capacity in
    on-err c.from_residual-in_err-index_owner.result (kept-adds c.reserve.new.self tables room c.index_owner.new.self c.index_owner.ensures.owners)

pub returns-in_err-index_name-clause-err : goal.returns-in_err-index_name-clause-err
returns-in_err-index_name-clause-err g c =
    let tables = c.args.tables.now in
    let room = kept-room c.mark_dirty.new.self tables c.mark_dirty.ensures.indices c.reserve.new.self c.reserve.ensures.rest c.reserve.ensures.items c.reserve.ensures.capacity in
    let owned = kept-adds c.reserve.new.self tables room c.index_owner.new.self c.index_owner.ensures.owners in
    on-err c.from_residual-in_err-index_name.result (kept-named c.index_owner.new.self tables owned c.index_name.new.self c.index_name.ensures.rest (c.in_err-index_name.ensures.err (all_metadata tables) owned.by_name))

pub returns-clause-ok : goal.returns-clause-ok
returns-clause-ok g c =
    let tables = c.args.tables.now in
    let table = c.args.table.now in
    let now = c.index_owner.new.self in
    let roomy = kept-room c.mark_dirty.new.self tables c.mark_dirty.ensures.indices c.reserve.new.self c.reserve.ensures.rest c.reserve.ensures.items c.reserve.ensures.capacity in
    let owned = kept-adds c.reserve.new.self tables roomy now c.index_owner.ensures.owners in
    let same : now.fixed ≡ c.reserve.new.self.fixed = ap (λ (i : Indices). i.fixed) c.index_owner.ensures.owners.rest in
    let room : length tables + 1 ≤ vec_capacity now.fixed = omega (arith, c.in_ok-reserve.ensures.ok, ap (λ f. vec_capacity f) same) in
    let last : now.dirty ≡ Some (length tables) = ap (λ (i : Indices). i.dirty) c.index_owner.ensures.owners.rest ∙ ap (λ (i : Indices). i.dirty) c.reserve.ensures.rest ∙ c.mark_dirty.ensures.dirty in
    let free : c.metadata-2.result.now.named ≡ true → whereis tables c.metadata-2.result.now.name ≡ None =
    λ named. ap (λ (h : Metadata). whereis tables h.name) c.metadata-2.ensures ∙ c.requires.free (ap (λ (h : Metadata). h.named) (sym c.metadata-2.ensures) ∙ named) in
    let named = c.in_ok-index_name.ensures.ok (all_metadata tables) (length-all_metadata tables) owned.by_name free in
    let index : NameIndexIsExact (get_by_text c.index_name.new.self.names) (all_metadata (tables ++ Some table ∷ [])) =
    subst (NameIndexIsExact (get_by_text c.index_name.new.self.names)) (sym (all_metadata-push tables (Some table))) (subst (λ h. NameIndexIsExact (get_by_text c.index_name.new.self.names) (all_metadata tables ++ Some h ∷ [])) c.metadata-2.ensures named) in
    let own : IsAmong (length tables) (ids_under now table.metadata.owner) = subst (λ (h : Metadata). IsAmong (length tables) (ids_under now h.owner)) c.metadata.ensures c.in_ok-index_owner.ensures.ok in
    kept-push now tables owned c.index_name.new.self c.index_name.ensures.rest table c.requires.few room index own last
