-- The codes of a content and of the model state of a table.
use Rattle.std.specs.Prelude.{ℕ, Bool, List, refl}
use Rattle.std.specs.Coded.{Coded, code_by, coded×, coded_ℕ, coded_list, coded_bool}
use Rattle.ets_term.specs.contracts.term.Term as term
use Rattle.bucket_table.specs.Slots.{Slot}
use Rattle.table_ops.specs.declared.kind.Kind.{Kind}
use Rattle.table_ops.specs.contracts.kind.Kind as kind
use Rattle.table_ops.specs.Content.{Content}
use Rattle.table_ops.specs.ContentState.{ContentState}

abbrev pub slots_code : Coded (List Slot)
slots_code = coded_list (coded× term.the_row.coded (coded_list term.the_row.coded))

abbrev pub content_code : Coded Content
content_code =
    code_by
    (Kind × (ℕ × (ℕ × List Slot)))
    (coded× kind.the_row.coded (coded× coded_ℕ (coded× coded_ℕ slots_code)))
    (λ c. (c.kind, (c.keypos, (c.limit, c.slots))))
    (λ p. record { kind = p.0; keypos = p.1.0; limit = p.1.1.0; slots = p.1.1.1 })
    (λ _. refl)

abbrev pub content_state_code : Coded ContentState
content_state_code =
    code_by
    (Content × List Bool)
    (coded× content_code (coded_list coded_bool))
    (λ t. (t.content, t.buckets))
    (λ p. record { content = p.0; buckets = p.1 })
    (λ _. refl)
