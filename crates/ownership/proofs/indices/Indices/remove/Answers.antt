use Rattle.std.proofs.Common.{◌≡◌, ◌&&◌, cond, None, Some, ℕ, refl, sym, ap, subst, ◌∙◌}
use Rattle.std.specs.Str.{bytes_eq}
use Rattle.std.proofs.lemmas.Map.Text.{hash_map_updates_text}
use Rattle.indexmap.specs.IndexMap.{get_by_text}
use Rattle.ownership.specs.declared.metadata.Metadata.{Metadata}
use Rattle.ownership.specs.World.{Tables, all_metadata, metadata_of, table_at, is_named}
use Rattle.ownership.specs.inside.Names.{metadata_at, NameIndexIsExact}
use Rattle.ownership.proofs.MetadataLaws.{all_metadata-set, metadata-there}
use Rattle.ownership.proofs.Keeping.{kept-set}
use Rattle.ownership.proofs.Naming.{named_less, names_kept, written, is_within}
use Rattle.ownership.proofs.indices.Indices.remove.Goals as goal

over : (tables : Tables) (t : ℕ) (metadata : Metadata) → metadata_of (table_at tables t) ≡ Some metadata → metadata_at (all_metadata tables) t ≡ Some metadata
over tables t metadata at = metadata-there tables t ∙ at

pub returns-then-metadata-clause-indices : goal.returns-then-metadata-clause-indices
returns-then-metadata-clause-indices c = λ tables t at kept.
    let metadata = c.args.metadata.now in
    let hs = all_metadata tables in
    let before = get_by_text c.args.self.now.names in
    let here = over tables t metadata at in
    let index = named_less before (get_by_text c.swap_remove.new.self) hs _ t metadata kept.by_name here (written hs t None (is_within hs t metadata here)) c.if-metadata.true
    (λ q. hash_map_updates_text c.text.result.now c.args.self.now.names c.swap_remove.new.self None c.swap_remove.ensures.updates q ∙ ap (λ n. cond (bytes_eq n q) None (before q)) c.text.ensures.text) in
    kept-set c.args.self.now tables kept (record c.args.self.now { names = c.swap_remove.new.self }) refl t None (subst (NameIndexIsExact (get_by_text c.swap_remove.new.self)) (sym (all_metadata-set tables t None)) index) (λ table is. absurd (cc))

pub returns-else-metadata-clause-indices : goal.returns-else-metadata-clause-indices
returns-else-metadata-clause-indices c = λ tables t at kept.
    let metadata = c.args.metadata.now in
    let hs = all_metadata tables in
    let names = get_by_text c.args.self.now.names in
    let here = over tables t metadata at in
    let index = names_kept names hs _ t None kept.by_name (written hs t None (is_within hs t metadata here)) (λ name. sym (ap (is_named name) here ∙ ap (λ n. n && bytes_eq name metadata.name) c.if-metadata.false)) in
    kept-set c.args.self.now tables kept c.args.self.now refl t None (subst (NameIndexIsExact names) (sym (all_metadata-set tables t None)) index) (λ table is. absurd (cc))
