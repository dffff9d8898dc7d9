-- What the outcomes of the world leave is what a step may: nothing is forgotten, and each table stays or is new.
use Rattle.std.proofs.Common.{◌≡◌, ℕ, ◌==◌, ◌&&◌, Bool, true, false, cond, List, [], ◌∷◌, ◌++◌, Option, None, Some, option_map, refl, sym, subst, ◌∙◌, length, arith, length-append, true≢false}
use Rattle.std.specs.Prelude.{is_some}
use Rattle.std.specs.Option.{option_map_or}
use Rattle.std.specs.Map.{set_value}
use Rattle.std.proofs.lemmas.Map.{length-set_value}
use Rattle.ets_term.specs.declared.term.Term.{Term}
use Rattle.fixed_walk.specs.TableState.{TableState}
use Rattle.ownership.specs.declared.metadata.Metadata.{Metadata}
use Rattle.ownership.specs.declared.metadata.Heir.{Heir}
use Rattle.ownership.specs.declared.options.NewOptions.{NewOptions}
use Rattle.ownership.specs.declared.process.Process.{Process}
use Rattle.ownership.specs.World.{Table, Processes, World, process_at, whereis}
use Rattle.ownership.specs.Access.{is_owner}
use Rattle.ownership.specs.Messages.{transfer_message, push_message, push_messages, after_receive}
use Rattle.ownership.specs.Tables.{after_enrol, new_metadata, with_table, without_table, with_owner, with_heir, after_set_heir}
use Rattle.ownership.specs.End.{with_ended, living_heir, without_fixes, table_after_exit, messages_from, after_exit}
use Rattle.node_core.specs.rules.Tables.{first_buckets}
use Rattle.node_core.proofs.moves.Moves.{Stays, StayKnown, Moves, stays-same, follows-same, follows-gone, follows-changed, follows-push, follows-map}
use Rattle.node_core.proofs.moves.Preserves.{AreBounded, all_released-preserves}
use Rattle.node_core.proofs.moves.WorldLaws.{given}

-- ---- messages are posted and received
length-push_message : (processes : Processes) (q : ℕ) (message : Term) → length (push_message processes q message) ≡ length processes
length-push_message processes q message = by (process_at processes q)
  where
    by : (o : Option _)
        → length (option_map_or (λ process. set_value (λ x. q == x) processes (record process { mailbox = process.mailbox ++ message ∷ [] })) o processes) ≡ length processes
    by None = refl
    by (Some process) =
        length-set_value (λ x. q == x) processes (record process { mailbox = process.mailbox ++ message ∷ [] })

length-push_messages : (processes : Processes) (messages : List (ℕ × Term))
    → length (push_messages processes messages) ≡ length processes
length-push_messages processes [] = refl
length-push_messages processes (m ∷ ms) = length-push_messages (push_message processes m.0 m.1) ms ∙ length-push_message processes m.0 m.1

length-received : (processes : Processes) (p : ℕ) → length (after_receive processes p) ≡ length processes
length-received processes p = by (process_at processes p)
  where
    by : (o : Option _)
        → length (option_map_or (λ process. set_value (λ x. p == x) processes (record process { mailbox = [] })) o processes) ≡ length processes
    by None = refl
    by (Some process) = length-set_value (λ x. p == x) processes (record process { mailbox = [] })

-- ---- and each process is still known
some-set : (q x : ℕ) (es : Processes) (w : Process) → is_some (process_at (set_value (λ k. x == k) es w) q) ≡ is_some (process_at es q)
some-set q x [] w = refl
some-set q x (e ∷ es) w = by (some-set q x es w) (x == e.0)
  where
    here : (b : Bool) → is_some (cond b (Some w) (process_at es q)) ≡ is_some (cond b (Some e.1) (process_at es q))
    here true = refl
    here false = refl

    later : (b : Bool) → is_some (process_at (set_value (λ k. x == k) es w) q) ≡ is_some (process_at es q)
        → is_some (cond b (Some e.1) (process_at (set_value (λ k. x == k) es w) q)) ≡ is_some (cond b (Some e.1) (process_at es q))
    later true rest = refl
    later false rest = rest

    by : is_some (process_at (set_value (λ k. x == k) es w) q) ≡ is_some (process_at es q)
        → (a : Bool) → is_some (process_at (cond a ((e.0, w) ∷ es) (e ∷ set_value (λ k. x == k) es w)) q) ≡ is_some (process_at (e ∷ es) q)
    by rest true = here (q == e.0)
    by rest false = later (q == e.0) rest

stay-set : (x : ℕ) (es : Processes) (w : Process) → StayKnown es (set_value (λ k. x == k) es w)
stay-set x es w q h = some-set q x es w ∙ h

stay-push : (es : Processes) (x : ℕ × Process) → StayKnown es (es ++ x ∷ [])
stay-push [] x q h = absurd (true≢false (sym h))
stay-push (e ∷ es) x q h = by (q == e.0) (stay-push es x q) h
  where
    by : (b : Bool) → (is_some (process_at es q) ≡ true → is_some (process_at (es ++ x ∷ []) q) ≡ true)
        → is_some (cond b (Some e.1) (process_at es q)) ≡ true → is_some (cond b (Some e.1) (process_at (es ++ x ∷ []) q)) ≡ true
    by true rest h = refl
    by false rest h = rest h

stay-message : (processes : Processes) (q : ℕ) (message : Term) → StayKnown processes (push_message processes q message)
stay-message processes q message = by (process_at processes q)
  where
    by : (o : Option Process)
        → StayKnown processes (option_map_or (λ process. set_value (λ x. q == x) processes (record process { mailbox = process.mailbox ++ message ∷ [] })) o processes)
    by None r h = h
    by (Some process) r h = stay-set q processes (record process { mailbox = process.mailbox ++ message ∷ [] }) r h

stay-messages : (processes : Processes) (messages : List (ℕ × Term)) → StayKnown processes (push_messages processes messages)
stay-messages processes [] r h = h
stay-messages processes (m ∷ ms) r h = stay-messages (push_message processes m.0 m.1) ms r (stay-message processes m.0 m.1 r h)

stay-received : (processes : Processes) (p : ℕ) → StayKnown processes (after_receive processes p)
stay-received processes p = by (process_at processes p)
  where
    by : (o : Option Process) → StayKnown processes (option_map_or (λ process. set_value (λ x. p == x) processes (record process { mailbox = [] })) o processes)
    by None r h = h
    by (Some process) r h = stay-set p processes (record process { mailbox = [] }) r h

-- a name that a new named table may have is free
free-of : (named : Bool) (found : Option ℕ) → (named && is_some found) ≡ false → named ≡ true → found ≡ None
free-of true None e h = refl
free-of true (Some t) e h = absurd (true≢false e)
free-of false found e h = absurd (true≢false (sym h))

module _ (own : ℕ → Bool) (old : World) where
  pub enrol-moves : (p : ℕ) → Moves own old (after_enrol old p)
  enrol-moves p =
      record { most = refl; known = let e = length-append old.processes ((p, record { lives = true; mailbox = [] }) ∷ []) in omega (arith, e); stay = stay-push old.processes (p, record { lives = true; mailbox = [] }); tables = follows-same own old.tables }

  pub receive-moves : (p : ℕ) → Moves own old (record old { processes = after_receive old.processes p })
  receive-moves p =
      record { most = refl; known = let e = length-received old.processes p in omega (arith, e); stay = stay-received old.processes p; tables = follows-same own old.tables }

  pub new-moves : (p : ℕ) (name : List ℕ) (options : NewOptions) (fixed : TableState) → fixed.content.slots ≡ []
      → fixed.buckets ≡ first_buckets → AreBounded fixed.fixes → (options.named && is_some (whereis old.tables name)) ≡ false
      → Moves own old (with_table old (new_metadata p name options) fixed)
  new-moves p name options fixed bare fresh bounded free = record {
    most = refl;
    known = omega arith;
    stay = λ q h. h;
    tables =
        follows-push own old.tables (record { metadata = new_metadata p name options; state = fixed }) bare fresh bounded (free-of options.named (whereis old.tables name) free);
  }

  pub gone-moves : (t : ℕ) → Moves own old (without_table old t)
  gone-moves t = record { most = refl; known = omega arith; stay = λ q h. h; tables = follows-gone own old.tables t }

  pub give-moves : (p t q : ℕ) (gift : Term) (metadata : Metadata) → Moves own old (given old p t q gift metadata)
  give-moves p t q gift metadata = record {
    most = refl;
    known = let e = length-push_message old.processes q (transfer_message metadata t p gift) in omega (arith, e);
    stay = stay-message old.processes q (transfer_message metadata t p gift);
    tables =
        follows-changed own old.tables (with_owner q) (λ table. let same = stays-same own table in record { name = refl; named = refl; fixed = same.fixed }) t;
  }

  pub heir-moves : (t : ℕ) (heir : Option Heir) → Moves own old (after_set_heir old t heir)
  heir-moves t heir = record {
    most = refl;
    known = omega arith;
    stay = λ q h. h;
    tables =
        follows-changed own old.tables (with_heir heir) (λ table. let same = stays-same own table in record { name = refl; named = refl; fixed = same.fixed }) t;
  }

-- ---- a process ends
module _ (processes : Processes) (p : ℕ) where
  abbrev StaysGiven : Table → Table → Type 0
  StaysGiven was table = Stays (λ w. p == w) was table

  without_fixes-stays : (table : Table) → StaysGiven table (without_fixes p table)
  without_fixes-stays table = record { name = refl; named = refl; fixed = all_released-preserves p table.state }

  heir-after : (was : Table) (heir : Option Heir) (table : Table)
      → option_map (λ h. with_owner h.pid (without_fixes p was)) heir ≡ Some table → StaysGiven was table
  heir-after was None table e = cc
  heir-after was (Some heir) table e =
      let is : with_owner heir.pid (without_fixes p was) ≡ table = cc in
      subst (StaysGiven was) is (record { name = refl; named = refl; fixed = all_released-preserves p was.state })

  either-after : (its : Bool) (heir : Option Heir) (was table : Table)
      → cond its (option_map (λ h. with_owner h.pid (without_fixes p was)) heir) (Some (without_fixes p was)) ≡ Some table
      → StaysGiven was table
  either-after true heir was table e = heir-after was heir table e
  either-after false heir was table e =
      let is : without_fixes p was ≡ table = cc in subst (StaysGiven was) is (without_fixes-stays was)

  stays-after : (was table : Table) → table_after_exit processes p (Some was) ≡ Some table → StaysGiven was table
  stays-after was table e = either-after (is_owner was.metadata p) (living_heir processes was.metadata) was table e

pub end-moves : (old : World) (p : ℕ) → Moves (λ w. p == w) old (after_exit old (with_ended old.processes p) p)
end-moves old p = record {
  most = refl;
  known =
      let e = length-push_messages (with_ended old.processes p) (messages_from (with_ended old.processes p) p 0 old.tables) in
      let f = length-set_value (λ q. p == q) old.processes (record { lives = false; mailbox = [] }) in
      omega (arith, e, f);
  stay =
      λ q h. stay-messages (with_ended old.processes p) (messages_from (with_ended old.processes p) p 0 old.tables) q (stay-set p old.processes (record { lives = false; mailbox = [] }) q h);
  tables =
      follows-map (λ w. p == w) old.tables (table_after_exit (with_ended old.processes p) p) refl (stays-after (with_ended old.processes p) p);
}
