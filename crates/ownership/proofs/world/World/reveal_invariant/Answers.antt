use Rattle.std.proofs.Common.{◌≡◌, Some, ◌&&◌, refl, sym, ap, ◌∙◌, subst}
use Rattle.std.specs.Str.{bytes_eq}
use Rattle.std.proofs.lemmas.Slice.Eq.{bytes_eq-Decides}
use Rattle.indexmap.specs.IndexMap.{get_by_text}
use Rattle.ownership.specs.World.{World, Tables, all_metadata, is_named, metadata_of, table_at, whereis}
use Rattle.ownership.proofs.MetadataLaws.{metadata-there}
use Rattle.ownership.proofs.Naming.{name-found}
use Rattle.ownership.proofs.world.World.reveal_invariant.Goals as goal

pub returns-clause-contents : goal.returns-clause-contents
returns-clause-contents g c t table at =
    c.reveal_contents.ensures t table (ap (λ ts. table_at ts t) (c.as_slice.ensures.value ∙ ap (λ (v : World). v.tables) c.self.view_is) ∙ at)

pub returns-clause-names : goal.returns-clause-names
returns-clause-names g c t table at named =
    let tables = c.self.inside.tables.items in
    let same : tables ≡ c.args.self.now.tables = ap (λ (v : World). v.tables) c.self.view_is in
    let there = metadata-there tables t ∙ ap metadata_of (ap (λ ts. table_at ts t) same ∙ at) in
    let is = ap (is_named table.metadata.name) there ∙ (ap (λ b. b && bytes_eq table.metadata.name table.metadata.name) named ∙ (bytes_eq-Decides table.metadata.name table.metadata.name).1 refl) in
    let found = (c.self.invariant.by_name table.metadata.name t).1 is in
    subst (λ (ts : Tables). whereis ts table.metadata.name ≡ Some t) same
    (sym (name-found (get_by_text c.self.inside.indices.names) (all_metadata tables) c.self.invariant.by_name table.metadata.name) ∙ found)
