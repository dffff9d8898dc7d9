-- A call that changes the slots only keeps the rest of the content.
use Rattle.std.proofs.Common.{◌≡◌, ℕ, Bool, List, sym, ap, subst, ◌∙◌}
use Rattle.bucket_table.specs.Slots.{Slot}
use Rattle.table_ops.specs.declared.table_rows.TableRows.{TableRows}
use Rattle.table_ops.specs.Content.{Content}
use Rattle.table_ops.specs.inside.Counted.{IsCounted}
use Rattle.table_ops.specs.inside.TableRows.{ChangesSlotsOnly, content_of, TableRowsInvariant}

module _ {R : Type 0} (content : R → List Slot) (old new : TableRows R) (rest : new ≡ record old { rows = new.rows }) where
  -- the content differs in its slots only
  pub content-kept : content_of content new ≡ record (content_of content old) { slots = content new.rows }
  content-kept = ap (content_of content) rest

  -- a property of the content with the new slots
  pub of-slots : (P : Content → Type 0) → P (record (content_of content old) { slots = content new.rows }) → P (content_of content new)
  of-slots P p = subst P (sym content-kept) p

  -- the invariant with the new count
  pub holds-kept : (count : ℕ) → IsCounted old.kind old.keypos old.limit count (content new.rows) → TableRowsInvariant content new count
  holds-kept count i = subst (λ (s : TableRows R). TableRowsInvariant content s count) (sym rest) i

-- two calls, one after the other
pub both-keep : {R : Type 0} {readiness : R → List Bool} {old mid new : TableRows R} → ChangesSlotsOnly readiness mid new → ChangesSlotsOnly readiness old mid → ChangesSlotsOnly readiness old new
both-keep {R} {readiness} {old} {mid} {new} second first = record {
  rest = second.rest ∙ ap (λ (s : TableRows R). let t : TableRows R = record s { rows = new.rows } in t) first.rest;
  buckets = second.buckets ∙ first.buckets;
}
