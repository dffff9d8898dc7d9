use Rattle.std.proofs.Common.{◌&&◌, cond, Some, sym, ap, ◌∙◌, length, arith}
use Rattle.std.specs.String.{string_bytes}
use Rattle.std.specs.Str.{bytes_eq}
use Rattle.std.proofs.lemmas.Map.Text.{hash_map_updates_text}
use Rattle.indexmap.specs.IndexMap.{get_by_text}
use Rattle.ownership.specs.World.{is_named}
use Rattle.ownership.proofs.Naming.{name-found, named_more, names_kept, pushed, none_past}
use Rattle.ownership.proofs.indices.Indices.index_name.Goals as goal

pub returns-in_ok-insert-clause-ok : goal.returns-in_ok-insert-clause-ok
returns-in_ok-insert-clause-ok c = λ hs next index free.
    let metadata = c.args.metadata.now in
    let before = get_by_text c.args.self.now.names in
    named_more before (get_by_text c.insert.new.self) hs _ metadata index (pushed hs (Some metadata)) c.if-metadata.true (name-found before hs index metadata.name ∙ free c.if-metadata.true)
    (λ q. hash_map_updates_text (string_bytes c.in_ok-from_str.field-0) c.args.self.now.names c.insert.new.self (Some c.args.id) c.in_ok-insert.ensures.updates q
    ∙ ap (λ n. cond (bytes_eq n q) (Some c.args.id) (before q)) (c.in_ok-from_str.ensures.ok ∙ c.text.ensures.text) ∙ ap (λ i. cond (bytes_eq metadata.name q) (Some i) (before q)) (sym next))

pub returns-else-metadata-clause-ok : goal.returns-else-metadata-clause-ok
returns-else-metadata-clause-ok c = λ hs next index free.
    let metadata = c.args.metadata.now in
    names_kept (get_by_text c.args.self.now.names) hs _ (length hs) (Some metadata) index (pushed hs (Some metadata))
    (λ name. ap (λ n. n && bytes_eq name metadata.name) c.if-metadata.false ∙ sym (ap (is_named name) (none_past hs (length hs) (omega arith))))
