-- The end of a process, in each part.
use Rattle.std.proofs.Common.{◌≡◌, ℕ, zero, suc, Bool, true, false, not, cond, List, [], ◌∷◌, Option, None, Some, option_map, Ok, refl, sym, ap, subst, ◌∙◌}
use Rattle.std.specs.Prelude.{filter_map, map}
use Rattle.std.specs.Option.{option_map_or}
use Rattle.ets_term.specs.declared.term.Term.{Term}
use Rattle.table_ops.specs.Invariants.{IsContent}
use Rattle.table_ops.specs.Outcomes.{gives}
use Rattle.fixed_walk.specs.Fixes.{FixCounts, with_count}
use Rattle.fixed_walk.specs.TableState.{TableState, after_release_all}
use Rattle.fixed_walk.proofs.KeptLaws.{release_all-keeps}
use Rattle.ownership.specs.declared.fault.WorldFault.TheVariants as fault
use Rattle.ownership.specs.declared.metadata.Heir.{Heir}
use Rattle.ownership.specs.World.{Table, Tables, Processes, lives, table_at}
use Rattle.ownership.specs.Access.{is_owner}
use Rattle.ownership.specs.Messages.{push_messages}
use Rattle.ownership.specs.Tables.{with_owner}
use Rattle.ownership.specs.End as ends
use Rattle.ownership.specs.End.{with_ended, living_heir, without_fixes, table_after_exit, message_of, messages_from, after_exit}
use Rattle.node_core.specs.declared.step.Reply.{Reply}
use Rattle.node_core.specs.State.{State}
use Rattle.node_core.specs.Access.{changes_world}
use Rattle.node_core.specs.rules.Replies.{true_reply}
use Rattle.node_parts.specs.Parts.{replicated_table, replicated_tables, replicated, limit_of_new}
use Rattle.node_parts.proofs.ForAll.{Fate, stay, stay-slots, stay-limit, limit_after, Moves, ForAll, world-refuse, world-gives}
use Rattle.node_parts.proofs.ForAllRules.{thinned, purge, purged, purged-has, purged-moves, purged-content, purged-replicated, gone_fate, none-left, no-limit}
use Rattle.node_parts.proofs.ForAllTables.{replicated_state, processes-same}
use Rattle.node_parts.proofs.Whole.{table-same}

module _ (p : ℕ) where
  -- ---- what each part has of the tables after it
  purged-empty : (m : FixCounts) (f : TableState) → purged m (replicated_state f) ≡ record (replicated_state f) { fixes = m }
  purged-empty m f = purged-has m (λ g. g ≡ record (replicated_state f) { fixes = m }) (replicated_state f) refl refl

  freed-replicated : (table : Table) → without_fixes p (replicated_table table) ≡ replicated_table (without_fixes p table)
  freed-replicated table =
      ap (λ (f : TableState). record table { state = f })
      (purged-empty (with_count table.state.fixes p 0) table.state ∙ sym (purged-replicated (with_count table.state.fixes p 0) table.state))

  exit-replicated-at : (b : Bool) (heir : Option Heir) (table : Table)
      → cond b (option_map (λ (heir : Heir). with_owner heir.pid (without_fixes p (replicated_table table))) heir) (Some (without_fixes p (replicated_table table)))
      ≡ option_map replicated_table (cond b (option_map (λ (heir : Heir). with_owner heir.pid (without_fixes p table)) heir) (Some (without_fixes p table)))
  exit-replicated-at true None table = refl
  exit-replicated-at true (Some heir) table = ap (λ (t : Table). Some (with_owner heir.pid t)) (freed-replicated table)
  exit-replicated-at false heir table = ap Some (freed-replicated table)

  exit-replicated : (ps : Processes) (o : Option Table) → table_after_exit ps p (option_map replicated_table o) ≡ option_map replicated_table (table_after_exit ps p o)
  exit-replicated ps None = refl
  exit-replicated ps (Some table) = exit-replicated-at (is_owner table.metadata p) (living_heir ps table.metadata) table

  exits-replicated : (ps : Processes) (ts : Tables) → map (table_after_exit ps p) (replicated_tables ts) ≡ replicated_tables (map (table_after_exit ps p) ts)
  exits-replicated ps [] = refl
  exits-replicated ps (x ∷ ts) = λ i. exit-replicated ps x i ∷ exits-replicated ps ts i

  messages-replicated : (ps : Processes) (t : ℕ) (ts : Tables) → messages_from ps p t (replicated_tables ts) ≡ messages_from ps p t ts
  messages-replicated ps t [] = refl
  messages-replicated ps t (None ∷ ts) = messages-replicated ps (suc t) ts
  messages-replicated ps t (Some table ∷ ts) =
      ap (λ (l : List (ℕ × Term)). option_map_or (λ message. message ∷ l) (message_of ps p t (Some table)) l) (messages-replicated ps (suc t) ts)

  abbrev exited : State → State
  exited s = record s { world = after_exit s.world (with_ended s.world.processes p) p }

  exited-replicated : (s : State) → exited (replicated s) ≡ replicated (exited s)
  exited-replicated s = λ i. record {
    limits = record s.limits { objects = 0 };
    world = record s.world {
      processes = push_messages (with_ended s.world.processes p) (messages-replicated (with_ended s.world.processes p) 0 s.world.tables i);
      tables = exits-replicated (with_ended s.world.processes p) s.world.tables i;
    };
  }

  -- ---- each table
  abbrev freed_fate : Table → Fate
  freed_fate table = thinned (purge (with_count table.state.fixes p 0))

  abbrev fate_of : Processes → Option Table → Fate
  fate_of ps None = stay
  fate_of ps (Some table) = cond (is_owner table.metadata p) (option_map_or (λ (heir : Heir). freed_fate table) (living_heir ps table.metadata) gone_fate) (freed_fate table)

  record TableMoves (fate : Fate) (old new : Option Table) : Type 0 where
    slots : option_map_or (λ (table : Table). table.state.content.slots) new [] ≡ filter_map fate.slot (option_map_or (λ (table : Table). table.state.content.slots) old [])
    limit : (n : ℕ) → option_map_or (λ (table : Table). table.state.content.limit) new 0 ≡ limit_after fate.limit (option_map_or (λ (table : Table). table.state.content.limit) old 0) n
    content : ((table : Table) → old ≡ Some table → IsContent table.state.content) → (table : Table) → new ≡ Some table → IsContent table.state.content

  freed-moves : (mine new : Table) → new.state ≡ after_release_all p mine.state → TableMoves (freed_fate mine) (Some mine) (Some new)
  freed-moves mine new e =
      let moves = purged-moves (with_count mine.state.fixes p 0) mine.state mine.state refl (λ is.
      purged-content (with_count mine.state.fixes p 0) mine.state ((release_all-keeps p mine.state).distinct is.distinct) is) in
      record {
        slots = ap (λ (f : TableState). f.content.slots) e ∙ moves.slots;
        limit = λ n. ap (λ (f : TableState). f.content.limit) e ∙ moves.limit;
        content = λ contents table is.
            let same : new ≡ table = cc in
            subst (λ (t : Table). IsContent t.state.content) same (subst (λ (f : TableState). IsContent f.content) (sym e) (moves.content (contents mine refl)));
      }

  exit-at : (b : Bool) (heir : Option Heir) (mine : Table)
      → TableMoves (cond b (option_map_or (λ (heir : Heir). freed_fate mine) heir gone_fate) (freed_fate mine)) (Some mine)
      (cond b (option_map (λ (heir : Heir). with_owner heir.pid (without_fixes p mine)) heir) (Some (without_fixes p mine)))
  exit-at true None mine = record { slots = none-left mine.state.content.slots; limit = λ n. no-limit mine.state.content.limit n; content = λ contents table is. cc }
  exit-at true (Some heir) mine = freed-moves mine (with_owner heir.pid (without_fixes p mine)) refl
  exit-at false heir mine = freed-moves mine (without_fixes p mine) refl

  exit-moves : (ps : Processes) (o w : Option Table) → option_map replicated_table o ≡ option_map replicated_table w → TableMoves (fate_of ps w) o (table_after_exit ps p o)
  exit-moves ps None None e = record { slots = stay-slots []; limit = λ n. stay-limit 0 n; content = λ contents table is. cc }
  exit-moves ps None (Some all) e = cc
  exit-moves ps (Some mine) None e = cc
  exit-moves ps (Some mine) (Some all) e =
      let same : replicated_table mine ≡ replicated_table all = cc in
      subst (λ (fate : Fate). TableMoves fate (Some mine) (table_after_exit ps p (Some mine))) (ap (λ (t : Table). fate_of ps (Some t)) same)
      (exit-at (is_owner mine.metadata p) (living_heir ps mine.metadata) mine)

  exited-at : (ps : Processes) (ts : Tables) (u : ℕ) → table_at (map (table_after_exit ps p) ts) u ≡ table_after_exit ps p (table_at ts u)
  exited-at ps [] u = refl
  exited-at ps (x ∷ ts) zero = refl
  exited-at ps (x ∷ ts) (suc u) = exited-at ps ts u

  module _ (whole : State) where
    abbrev ended_fate : ℕ → Fate
    ended_fate u = fate_of (with_ended whole.world.processes p) (table_at whole.world.tables u)

    module _ (part : State) (same : replicated part ≡ replicated whole) where
      abbrev ended : Processes
      ended = with_ended part.world.processes p

      own-moves : (u : ℕ) → TableMoves (ended_fate u) (table_at part.world.tables u) (table_after_exit ended p (table_at part.world.tables u))
      own-moves u =
          subst (λ (ps : Processes). TableMoves (fate_of (with_ended ps p) (table_at whole.world.tables u)) (table_at part.world.tables u) (table_after_exit ended p (table_at part.world.tables u))) (processes-same part whole same)
          (exit-moves ended (table_at part.world.tables u) (table_at whole.world.tables u) (table-same part whole same u))

      exit-all-moves : Moves ended_fate (exited whole) part (exited part)
      exit-all-moves = record {
        same = sym (exited-replicated part) ∙ (ap exited same ∙ exited-replicated whole);
        slots = λ u. ap (λ o. option_map_or (λ (table : Table). table.state.content.slots) o []) (exited-at ended part.world.tables u) ∙ (own-moves u).slots;
        limits = λ u. ap (λ o. option_map_or (λ (table : Table). table.state.content.limit) o 0) (exited-at ended part.world.tables u) ∙ (own-moves u).limit (limit_of_new part);
        new_limit = refl;
        contents = λ contents u table at. (own-moves u).content (contents u) table (sym (exited-at ended part.world.tables u) ∙ at);
      }

    pub end-all : ForAll (λ s. changes_world s (λ _. true_reply) (ends.End s.world p)) whole
    end-all =
        let answer : Unit {0} → Reply = λ _. true_reply in
        world-refuse whole answer fault.NoProcess refl (λ s. not (lives s.world.processes p)) (λ s. gives (Ok tt) (after_exit s.world (with_ended s.world.processes p) p))
        (λ part same. ap (λ ps. not (lives ps p)) (processes-same part whole same)) (λ e.
        world-gives whole answer (λ s. tt) (λ s. after_exit s.world (with_ended s.world.processes p) p) ended_fate (λ part same. (refl, exit-all-moves part same)))
