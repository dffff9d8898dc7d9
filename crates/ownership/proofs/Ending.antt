-- The end of a process: messages are posted one by one and change nothing but mailboxes.
use Rattle.std.proofs.Common.{◌≡◌, ◌⊎◌, ℕ, ◌+◌, ◌==◌, nat_eq, suc, Bool, true, false, cond, List, [], ◌∷◌, ◌++◌, Option, None, Some, inl, inr, refl, sym, ap, subst, true≢false, ◌∙◌, length, map, take, get_or, ◌-◌, ◌<◌, ◌≤◌, append_assoc, arith}
use Rattle.std.proofs.lemmas.List.{take_more}
use Rattle.std.specs.Prelude.{option_map, if◌then◌else◌}
use Rattle.std.specs.Option.{option_map_or}
use Rattle.std.specs.Map.{set_value}
use Rattle.ets_term.specs.declared.term.Term.{Term}
use Rattle.ownership.specs.declared.metadata.Metadata.{Metadata}
use Rattle.ownership.specs.declared.metadata.Heir.{Heir}
use Rattle.ownership.specs.declared.process.Process.{Process}
use Rattle.ownership.specs.World.{Table, Tables, Processes, process_at, lives, table_at}
use Rattle.ownership.specs.Access.{is_owner}
use Rattle.ownership.specs.Messages.{with_message, transfer_message, push_message, push_messages}
use Rattle.ownership.specs.Tables.{with_owner}
use Rattle.ownership.specs.End.{living_heir, receiver_of, without_fixes, table_after_exit, message_of, messages_from, with_ended}
use Rattle.ownership.specs.inside.Ending.{after_transfers, after_message, messages_at}
use Rattle.ownership.specs.inside.Indices.{IsAmong, AscendsBetween}
use Rattle.std.proofs.lemmas.Bool.{cases_eq}
use Rattle.ownership.proofs.Ascending.{between-lower, among-above}
use Rattle.ownership.proofs.Posting.{lookup-set_value}

-- the same processes live
abbrev pub SameLives : Processes → Processes → Type 0
SameLives ps qs = (r : ℕ) → lives ps r ≡ lives qs r

pub heir-same : (ps qs : Processes) (metadata : Metadata) → SameLives ps qs → living_heir ps metadata ≡ living_heir qs metadata
heir-same ps qs metadata same = by metadata.heir
  where
    by : (heir : Option Heir) → living_heir ps (record metadata { heir = heir }) ≡ living_heir qs (record metadata { heir = heir })
    by None = refl
    by (Some heir) = ap (λ b. cond b (Some heir) None) (same heir.pid)

pub message-same : (ps qs : Processes) (p t : ℕ) (o : Option Table) → SameLives ps qs → message_of ps p t o ≡ message_of qs p t o
message-same ps qs p t None same = refl
message-same ps qs p t (Some table) same = ap (λ h. option_map (λ heir. (heir.pid, transfer_message table.metadata t p heir.gift)) (if is_owner table.metadata p then h else None)) (heir-same ps qs table.metadata same)

pub after-same : (ps qs : Processes) (p : ℕ) (o : Option Table) → SameLives ps qs → table_after_exit ps p o ≡ table_after_exit qs p o
after-same ps qs p None same = refl
after-same ps qs p (Some table) same = ap (λ h. if is_owner table.metadata p then option_map (λ heir. with_owner heir.pid (without_fixes p table)) h else Some (without_fixes p table)) (heir-same ps qs table.metadata same)

pub all-after-same : (ps qs : Processes) (p : ℕ) (tables : Tables) → SameLives ps qs → map (table_after_exit ps p) tables ≡ map (table_after_exit qs p) tables
all-after-same ps qs p [] same = refl
all-after-same ps qs p (o ∷ tables) same =
    let here = after-same ps qs p o same in
    let rest = all-after-same ps qs p tables same in
    λ i. here i ∷ rest i

module _ (q r : ℕ) (own new : Process) (keeps : new.lives ≡ own.lives) where
  metadata-lives : (b : Bool) (e : ℕ × Process) (rest : Option Process) → e.1 ≡ own → option_map_or (λ (x : Process). x.lives) (cond b (Some new) rest) false ≡ option_map_or (λ (x : Process). x.lives) (cond b (Some e.1) rest) false
  metadata-lives true e rest same = keeps ∙ ap (λ (x : Process). x.lives) (sym same)
  metadata-lives false e rest same = refl

  tail-lives : (b : Bool) (e : ℕ × Process) (before after : Option Process) → option_map_or (λ (x : Process). x.lives) after false ≡ option_map_or (λ (x : Process). x.lives) before false
      → option_map_or (λ (x : Process). x.lives) (cond b (Some e.1) after) false ≡ option_map_or (λ (x : Process). x.lives) (cond b (Some e.1) before) false
  tail-lives true e before after ih = refl
  tail-lives false e before after ih = ih

  at-lives : (b : Bool) (e : ℕ × Process) (es : Processes) → (process_at es q ≡ Some own → lives (set_value (λ k. q == k) es new) r ≡ lives es r) → cond b (Some e.1) (process_at es q) ≡ Some own
      → lives (cond b ((e.0, new) ∷ es) (e ∷ set_value (λ k. q == k) es new)) r ≡ lives (e ∷ es) r
  at-lives true e es ih h = let same : e.1 ≡ own = cc in metadata-lives (nat_eq r e.0) e (process_at es r) same
  at-lives false e es ih h = tail-lives (nat_eq r e.0) e (process_at es r) (process_at (set_value (λ k. q == k) es new) r) (ih h)

  set-lives : (es : Processes) → process_at es q ≡ Some own → lives (set_value (λ k. q == k) es new) r ≡ lives es r
  set-lives [] h = cc
  set-lives (e ∷ es) h = at-lives (nat_eq q e.0) e es (set-lives es) h

-- a message does not change who lives
push_message-lives-at : (o : Option Process) (ps : Processes) (q : ℕ) (m : Term) → process_at ps q ≡ o → SameLives (option_map_or (λ process. set_value (λ k. q == k) ps (with_message process m)) o ps) ps
push_message-lives-at None ps q m e r = refl
push_message-lives-at (Some own) ps q m e r = set-lives q r own (with_message own m) refl ps e

pub push_message-lives : (ps : Processes) (q : ℕ) (m : Term) → SameLives (push_message ps q m) ps
push_message-lives ps q m = push_message-lives-at (process_at ps q) ps q m refl

pub push_messages-lives : (ps : Processes) (ms : List (ℕ × Term)) → SameLives (push_messages ps ms) ps
push_messages-lives ps [] r = refl
push_messages-lives ps (m ∷ ms) r = push_messages-lives (push_message ps m.0 m.1) ms r ∙ push_message-lives ps m.0 m.1 r

push_messages-append : (ps : Processes) (ms ns : List (ℕ × Term)) → push_messages ps (ms ++ ns) ≡ push_messages (push_messages ps ms) ns
push_messages-append ps [] ns = refl
push_messages-append ps (m ∷ ms) ns = push_messages-append (push_message ps m.0 m.1) ms ns

abbrev as_list : Option (ℕ × Term) → List (ℕ × Term)
as_list None = []
as_list (Some m) = m ∷ []

listed : (o : Option (ℕ × Term)) (rest : List (ℕ × Term)) → option_map_or (λ m. m ∷ rest) o rest ≡ as_list o ++ rest
listed None rest = refl
listed (Some m) rest = refl

single : (o : Option (ℕ × Term)) → option_map_or (λ m. m ∷ []) o [] ≡ as_list o
single None = refl
single (Some m) = refl

module _ (ps : Processes) (p : ℕ) (at : ℕ → Option Table) where
  messages-push : (ids : List ℕ) (t : ℕ) → messages_at ps p at (ids ++ t ∷ []) ≡ messages_at ps p at ids ++ as_list (message_of ps p t (at t))
  messages-push [] t = single (message_of ps p t (at t))
  messages-push (i ∷ ids) t =
      listed (message_of ps p i (at i)) (messages_at ps p at (ids ++ t ∷ [])) ∙ ap (λ r. as_list (message_of ps p i (at i)) ++ r) (messages-push ids t)
      ∙ sym (append_assoc (as_list (message_of ps p i (at i))) (messages_at ps p at ids) (as_list (message_of ps p t (at t))))
      ∙ ap (λ r. r ++ as_list (message_of ps p t (at t))) (sym (listed (message_of ps p i (at i)) (messages_at ps p at ids)))

one : (qs : Processes) (m : Option (ℕ × Term)) → push_messages qs (as_list m) ≡ after_message qs m
one qs None = refl
one qs (Some m) = refl

pub posted-lives : (ps : Processes) (p : ℕ) (tables : Tables) (ids : List ℕ) → SameLives (after_transfers ps p tables ids) ps
posted-lives ps p tables ids = push_messages-lives ps (messages_at ps p (table_at tables) ids)

-- one table more
pub posted-more : (ps : Processes) (p : ℕ) (tables : Tables) (ids : List ℕ) (t : ℕ) → after_transfers ps p tables (ids ++ t ∷ []) ≡ after_message (after_transfers ps p tables ids) (message_of (after_transfers ps p tables ids) p t (table_at tables t))
posted-more ps p tables ids t =
    ap (push_messages ps) (messages-push ps p (table_at tables) ids t) ∙ push_messages-append ps (messages_at ps p (table_at tables) ids) (as_list (message_of ps p t (table_at tables t)))
    ∙ one (after_transfers ps p tables ids) (message_of ps p t (table_at tables t))
    ∙ ap (after_message (after_transfers ps p tables ids)) (sym (message-same (after_transfers ps p tables ids) ps p t (table_at tables t) (posted-lives ps p tables ids)))

after_message-lives : (ps : Processes) (m : Option (ℕ × Term)) → SameLives (after_message ps m) ps
after_message-lives ps None r = refl
after_message-lives ps (Some m) r = push_message-lives ps m.0 m.1 r

-- the message of a table is the same when it is posted
pub message-still : (before now : Processes) (p t : ℕ) (o : Option Table) → now ≡ after_message before (message_of before p t o) → message_of before p t o ≡ message_of now p t o
message-still before now p t o e = sym (message-same now before p t o (λ r. ap (λ ps. lives ps r) e ∙ after_message-lives before (message_of before p t o) r))

-- a table without a message posted none
pub back-none : (before now : Processes) (p t : ℕ) (o : Option Table) (table : Table) → o ≡ Some table → receiver_of now p table ≡ None → now ≡ after_message before (message_of before p t o) → now ≡ before
back-none before now p t o table is none e =
    e ∙ ap (after_message before) (message-still before now p t o e ∙ ap (message_of now p t) is ∙ ap (option_map (λ (heir : Heir). (heir.pid, transfer_message table.metadata t p heir.gift))) none)

-- the identifiers without the last
pub take-last : (ids : List ℕ) (i : ℕ) → i < length ids → take (length ids - i) ids ≡ take (length ids - (i + 1)) ids ++ get_or ids (length ids - 1 - i) 0 ∷ []
take-last ids i h =
    let k = length ids - (i + 1) in
    let more : length ids - i ≡ k + 1 = omega arith in
    let place : length ids - 1 - i ≡ k = omega arith in
    let within : k < length ids = omega arith in
    ap (λ n. take n ids) more ∙ take_more ids k 0 within ∙ ap (λ n. take k ids ++ get_or ids n 0 ∷ []) (sym place)

-- ---- the tables of a process are among the identifiers, so all messages are those of the identifiers
no-message : (ps : Processes) (p t : ℕ) (table : Table) → is_owner table.metadata p ≡ false → message_of ps p t (Some table) ≡ None
no-message ps p t table other = ap (λ (b : Bool). option_map (λ (heir : Heir). (heir.pid, transfer_message table.metadata t p heir.gift)) (if b then living_heir ps table.metadata else None)) other

module _ (ps : Processes) (p : ℕ) where
  -- identifiers past the tables have no message
  none-past : (n : ℕ) (at : ℕ → Option Table) (high : ℕ) (ids : List ℕ) → ((k : ℕ) → at (n + k) ≡ None) → AscendsBetween n high ids → messages_at ps p at ids ≡ []
  none-past n at high [] past b = refl
  none-past n at high (t ∷ ids) past b =
      let here : at t ≡ None = ap at (distance n t b.0) ∙ past (t - n) in
      ap (λ o. option_map_or (λ message. message ∷ messages_at ps p at ids) (message_of ps p t o) (messages_at ps p at ids)) here
      ∙ none-past n at high ids past (between-lower (suc t) n high ids (omega (arith, b.0)) b.1)
    where
      distance : (n t : ℕ) → n ≤ t → t ≡ n + (t - n)
      distance n t h = omega (arith, h)

  no-owner : (t : ℕ) (o : Option Table) → ((table : Table) → o ≡ Some table → is_owner table.metadata p ≡ true → ⊥) → message_of ps p t o ≡ None
  no-owner t None other = refl
  no-owner t (Some table) other = no-message ps p t table (by (is_owner table.metadata p) refl)
    where
      by : (b : Bool) → is_owner table.metadata p ≡ b → b ≡ false
      by true e = absurd (other table refl e)
      by false e = refl

  skip : (n : ℕ) (o : Option Table) (tables : Tables) (messages : List (ℕ × Term)) → message_of ps p n o ≡ None → messages_from ps p (suc n) tables ≡ messages → messages_from ps p n (o ∷ tables) ≡ messages
  skip n o tables messages none rest = ap (λ m. option_map_or (λ message. message ∷ messages_from ps p (suc n) tables) m (messages_from ps p (suc n) tables)) none ∙ rest

  module _ (at : ℕ → Option Table) (high : ℕ) where
    -- the tables from this identifier on; the owner's are all among these
    abbrev AreFound : ℕ → Tables → List ℕ → Type 0
    AreFound n tables ids = ((k : ℕ) → at (n + k) ≡ table_at tables k) × ((k : ℕ) (table : Table) → table_at tables k ≡ Some table → is_owner table.metadata p ≡ true → IsAmong (n + k) ids)

    move : (n k : ℕ) → suc n + k ≡ n + suc k
    move n k = omega arith

    shift : (n : ℕ) (o : Option Table) (tables : Tables) (ids rest : List ℕ) → ((k : ℕ) → IsAmong (n + suc k) ids → IsAmong (n + suc k) rest) → AreFound n (o ∷ tables) ids → AreFound (suc n) tables rest
    shift n o tables ids rest more found = (
      λ k. ap at (move n k) ∙ found.0 (suc k),
      λ k table there own. subst (λ i. IsAmong i rest) (sym (move n k)) (more k (found.1 (suc k) table there own)),
    )

    pub messages-found : (n : ℕ) (tables : Tables) (ids : List ℕ) → n + length tables ≤ high → AscendsBetween n high ids → AreFound n tables ids → messages_from ps p n tables ≡ messages_at ps p at ids
    messages-found n [] ids fits b found = sym (none-past n at high ids found.0 b)
    messages-found n (o ∷ tables) [] fits b found =
        skip n o tables [] (no-owner n o (λ table there own. found.1 0 table there own))
        (messages-found (suc n) tables [] (omega (arith, fits)) (omega (arith, fits)) (shift n o tables [] [] (λ k a. a) found))
    messages-found n (o ∷ tables) (t ∷ ids) fits b found = by (cases_eq n t) (λ rest order there. messages-found (suc n) tables rest (omega (arith, fits)) order there)
      where
        zero-more : (n : ℕ) → n + 0 ≡ n
        zero-more n = omega arith

        tail : n ≡ t → (k : ℕ) → (n + suc k ≡ t) ⊎ IsAmong (n + suc k) ids → IsAmong (n + suc k) ids
        tail same k (inl e) = absurd (omega (arith, same, e))
        tail same k (inr a) = a

        by : (n ≡ t) ⊎ (n ≡ t → ⊥) → ((rest : List ℕ) → AscendsBetween (suc n) high rest → AreFound (suc n) tables rest → messages_from ps p (suc n) tables ≡ messages_at ps p at rest) → messages_from ps p n (o ∷ tables) ≡ messages_at ps p at (t ∷ ids)
        by (inl same) more =
            let rest = more ids (subst (λ i. AscendsBetween (suc i) high ids) (sym same) b.1) (shift n o tables (t ∷ ids) ids (tail same) found) in
            let here : o ≡ at t = sym (found.0 0) ∙ ap at (zero-more n ∙ same) in
            ap (λ r. option_map_or (λ message. message ∷ r) (message_of ps p n o) r) rest
            ∙ ap (λ m. option_map_or (λ message. message ∷ messages_at ps p at ids) m (messages_at ps p at ids)) (ap (λ i. message_of ps p i o) same ∙ ap (message_of ps p t) here)
        by (inr other) more =
            let low : suc n ≤ t = omega (arith, b.0, other) in
            skip n o tables (messages_at ps p at (t ∷ ids))
            (no-owner n o (λ table there own. let above = among-above (suc n) high (t ∷ ids) (n + 0) (low, b.1) (found.1 0 table there own) in absurd (omega (arith, above))))
            (more (t ∷ ids) (low, b.1) (shift n o tables (t ∷ ids) (t ∷ ids) (λ k a. a) found))

-- ---- an ended process lives no more, and no other process changes
module _ (p : ℕ) (gone : Process) (dead : gone.lives ≡ false) where
  ended-first : (c b : Bool) (q : ℕ) (e : ℕ × Process) (before after : Option Process) → (option_map_or (λ (x : Process). x.lives) after false ≡ true → option_map_or (λ (x : Process). x.lives) before false ≡ true)
      → option_map_or (λ (x : Process). x.lives) (cond c (Some (cond b gone e.1)) (cond b before after)) false ≡ true → option_map_or (λ (x : Process). x.lives) (cond c (Some e.1) before) false ≡ true
  ended-first true true q e before after ih h = absurd (true≢false (sym h ∙ dead))
  ended-first true false q e before after ih h = h
  ended-first false true q e before after ih h = h
  ended-first false false q e before after ih h = ih h

  ended-at : (b : Bool) (q : ℕ) (e : ℕ × Process) (es : Processes) → (lives (set_value (λ k. p == k) es gone) q ≡ true → lives es q ≡ true)
      → lives (cond b ((e.0, gone) ∷ es) (e ∷ set_value (λ k. p == k) es gone)) q ≡ true → lives (e ∷ es) q ≡ true
  ended-at true q e es ih h = ended-first (nat_eq q e.0) true q e (process_at es q) (process_at es q) (λ l. l) h
  ended-at false q e es ih h = ended-first (nat_eq q e.0) false q e (process_at es q) (process_at (set_value (λ k. p == k) es gone) q) ih h

  ended-lives : (ps : Processes) (q : ℕ) → lives (set_value (λ k. p == k) ps gone) q ≡ true → lives ps q ≡ true
  ended-lives [] q h = h
  ended-lives (e ∷ es) q h = ended-at (nat_eq p e.0) q e es (ended-lives es q) h

-- who lives after an end lived before
pub ended-before : (ps : Processes) (p q : ℕ) → lives (with_ended ps p) q ≡ true → lives ps q ≡ true
ended-before ps p q = ended-lives p (record { lives = false; mailbox = [] }) refl ps q

pub ended-dead : (ps : Processes) (p : ℕ) → lives ps p ≡ true → lives (with_ended ps p) p ≡ false
ended-dead ps p l = by (process_at ps p) refl
  where
    by : (o : Option Process) → process_at ps p ≡ o → lives (with_ended ps p) p ≡ false
    by None e = absurd (true≢false (sym l ∙ ap (λ o. option_map_or (λ (x : Process). x.lives) o false) e))
    by (Some own) e = ap (λ o. option_map_or (λ (x : Process). x.lives) o false) (lookup-set_value (λ q. p == q) ps own (record { lives = false; mailbox = [] }) e)

heir-before-at : (ps : Processes) (p : ℕ) (metadata : Metadata) (own heir : Heir) (b : Bool) → lives (with_ended ps p) own.pid ≡ b → cond b (Some own) None ≡ Some heir → cond (lives ps own.pid) (Some own) None ≡ Some heir
heir-before-at ps p metadata own heir true l e = ap (λ b. cond b (Some own) None) (ended-before ps p own.pid l) ∙ e
heir-before-at ps p metadata own heir false l e = absurd (cc)

-- an heir that lives after an end lived before
pub heir-before : (ps : Processes) (p : ℕ) (metadata : Metadata) (heir : Heir) → living_heir (with_ended ps p) metadata ≡ Some heir → living_heir ps metadata ≡ Some heir
heir-before ps p metadata heir e = by metadata.heir e
  where
    by : (o : Option Heir) → living_heir (with_ended ps p) (record metadata { heir = o }) ≡ Some heir → living_heir ps (record metadata { heir = o }) ≡ Some heir
    by None e = e
    by (Some own) e = heir-before-at ps p metadata own heir (lives (with_ended ps p) own.pid) refl e
