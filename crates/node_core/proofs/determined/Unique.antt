-- Outcomes of two states that differ at most in the order of slots: the results agree, and so do the states after them. Each form of
-- outcome is treated here once.
use Rattle.std.proofs.Common.{◌≡◌, Bool, true, false, Option, None, Some, Result, Ok, Err, sym, ap, subst, subst₂, ◌∙◌}
use Rattle.std.specs.Bool.{MatchBool}
use Rattle.table_ops.specs.declared.refusal.Refusal.{Refusal}
use Rattle.table_ops.specs.declared.refusal.Refusal.TheVariants as refusal
use Rattle.table_ops.specs.Outcomes.{Change, Outcome, gives, refuse, refuse_none}
use Rattle.bucket_table.specs.Rows.{HasDistinctKeys}
use Rattle.table_ops.specs.Content.{Content}
use Rattle.fixed_walk.specs.TableState.{TableState, on_content}
use Rattle.ownership.specs.declared.fault.WorldFault.{WorldFault}
use Rattle.ownership.specs.declared.fault.WorldFault.TheVariants as fault
use Rattle.node_core.specs.declared.step.Reply.{Reply}
use Rattle.node_core.specs.Access.{CallRule, ChangeResultToReply, WorldResultToReply, replies}
use Rattle.node_core.proofs.determined.Alike.{AlikeContents, Alike}

-- R relates the results, and S the states after them
abbrev pub Unique : {Q A : Type 0} → (Q → Q → Type 0) → (A → A → Type 0) → Outcome Q A → Outcome Q A → Type 0
Unique {Q = Q} {A = A} R S one other = (r q : Q) (new next : A) → one r new → other q next → R r q × S new next

-- the results are equal
abbrev pub Same : {Q : Type 0} → Q → Q → Type 0
Same r q = r ≡ q

module _ {Q A : Type 0} (R : Q → Q → Type 0) (S : A → A → Type 0) where
  pub gives-unique : (x y : Q) (a b : A) → R x y → S a b → Unique R S (gives x a) (gives y b)
  gives-unique x y a b k s r q new next h j = (subst₂ R (sym h.0) (sym j.0) k, subst₂ S (sym h.1) (sym j.1) s)

  pub either-unique : (test : Bool) {one one' other other' : Outcome Q A} → Unique R S one one' → Unique R S other other'
      → Unique R S (λ r new. MatchBool test (one r new) (other r new)) (λ r new. MatchBool test (one' r new) (other' r new))
  either-unique true a b = a
  either-unique false a b = b

  module _ (old old' : A) (before : S old old') (x : Q) (same : R x x) where
    pub refuse-unique : (test : Bool) {one other : Outcome Q A} → Unique R S one other → Unique R S (refuse old test x one) (refuse old' test x other)
    refuse-unique true w = gives-unique x x old old' same before
    refuse-unique false w = w

    pub refuse_none-unique : {Y : Type 0} (o : Option Y) {one other : Y → Outcome Q A} → ((y : Y) → Unique R S (one y) (other y))
        → Unique R S (refuse_none old o x one) (refuse_none old' o x other)
    refuse_none-unique None w = gives-unique x x old old' same before
    refuse_none-unique (Some y) w = w y

-- ---- changes of a table, as rules of calls
-- a rule or a change of the table is unique where the tables differ in the order of slots alone
abbrev pub UniqueRule : CallRule → Type 0
UniqueRule rule = (f g : TableState) → Alike f g → HasDistinctKeys f.content.slots → Unique Same Alike (rule f) (rule g)

abbrev pub UniqueChange : {X : Type 0} → (TableState → Change X TableState) → Type 0
UniqueChange change = (f g : TableState) → Alike f g → HasDistinctKeys f.content.slots → Unique Same Alike (change f) (change g)

abbrev pub UniqueContent : {X : Type 0} → (Content → Change X Content) → Type 0
UniqueContent change = (c d : Content) → AlikeContents c d → HasDistinctKeys c.slots → Unique Same AlikeContents (change c) (change d)

module _ {X : Type 0} (answer : X → Reply) where
  same-reply : (r : Result X Refusal) (x y : Reply) → ChangeResultToReply answer r x → ChangeResultToReply answer r y → x ≡ y
  same-reply (Ok v) x y h k = h ∙ sym k
  same-reply (Err refusal.Badarg) x y h k = h ∙ sym k
  same-reply (Err refusal.SystemLimit) x y h k = h ∙ sym k
  same-reply (Err refusal.Memory) x y h k = absurd h

  pub replies-unique : (change : TableState → Change X TableState) → UniqueChange change → UniqueRule (replies answer change)
  replies-unique change unique f g alike d r q new next h k =
      let both = unique f g alike d h.0 k.0 new next h.1 k.1 in
      (same-reply h.0 r q h.2 (subst (λ (x : Result X Refusal). ChangeResultToReply answer x q) (sym both.0) k.2), both.1)

  same-world-reply : (r : Result X WorldFault) (x y : Reply) → WorldResultToReply answer r x → WorldResultToReply answer r y → x ≡ y
  same-world-reply (Ok v) x y h k = h ∙ sym k
  same-world-reply (Err fault.Badarg) x y h k = h ∙ sym k
  same-world-reply (Err fault.SystemLimit) x y h k = h ∙ sym k
  same-world-reply (Err fault.NoProcess) x y h k = h ∙ sym k
  same-world-reply (Err fault.Memory) x y h k = absurd h

  pub world-reply : (r s : Result X WorldFault) (x y : Reply) → r ≡ s → WorldResultToReply answer r x → WorldResultToReply answer s y → x ≡ y
  world-reply r s x y e h k = same-world-reply r x y h (subst (λ (z : Result X WorldFault). WorldResultToReply answer z y) (sym e) k)

-- the content of tables that are alike is
pub contents-alike : (f g : TableState) → Alike f g → AlikeContents f.content g.content
contents-alike f g alike = record { slots = alike.slots; rest = ap (λ (x : TableState). x.content) alike.rest }

-- tables with contents that are alike, and with the fixes and buckets of tables that are
pub tables-alike : (f g : TableState) (c d : Content) → Alike f g → AlikeContents c d → Alike (record f { content = c }) (record g { content = d })
tables-alike f g c d alike contents = record {
  slots = contents.slots;
  rest = λ i. record { content = contents.rest i; buckets = (ap (λ (x : TableState). x.buckets) alike.rest) i; fixes = (ap (λ (x : TableState). x.fixes) alike.rest) i };
}

pub content-unique : {X : Type 0} (change : Content → Change X Content) → UniqueContent change → UniqueChange (on_content change)
content-unique change unique f g alike d r q new next h k =
    let both = unique f.content g.content (contents-alike f g alike) d r q new.content next.content h.0 k.0 in
    (both.0, subst₂ Alike (sym h.1) (sym k.1) (tables-alike f g new.content next.content alike both.1))
