-- Worked rows, which hold of the definitions by computing: a walk over one key, in a run of two steps.
use Rattle.std.proofs.Common.{◌≡◌, pos, Bool, true, false, cond, [], ◌∷◌, Some, None, option_map, refl, sym, ap, codes, rules}
use Rattle.std.specs.Option.{option_map_or}
use Rattle.std.specs.FinMap as map
use Rattle.ets_term.specs.declared.term.Term.{Term, out-Term, the_lemmas}
use Rattle.ets_term.specs.declared.term.Term.TheOpen.{Term-F}
use Rattle.ets_term.specs.declared.term.Term.TheVariants.{Int, Tid, Tuple}
use Rattle.ets_term.specs.Depth.{is_too_deep}
use Rattle.ets_term.specs.laws.Same.{same-refl}
use Rattle.fixed_walk.specs.Walk.{first_key, next_key}
use Rattle.table_ops.specs.declared.kind.Kind.TheVariants.{Set}
use Rattle.ownership.specs.declared.metadata.Protection.TheVariants.{Public}
use Rattle.node_core.specs.declared.step.Reply.TheVariants.{Value, Badarg}
use Rattle.node_core.specs.declared.step.Step.{Step}
use Rattle.node_core.specs.declared.step.Step.TheVariants.{Ask}
use Rattle.node_core.specs.State.{State}
use Rattle.node_core.specs.Machine.{step, run}
use Rattle.node_core.specs.rules.Walking.{key_reply}
use Rattle.node_core.specs.laws.Walk.{Walks}

abbrev one : Term
one = Int (pos 1)

-- process 7 lives, and has table 0 with the object {1} in it
abbrev old : State
old = record {
  limits = record { processes = 1; tables = 1; objects = 1 };
  world = record {
    max_processes = 1;
    max_tables = 1;
    processes = (7, record { lives = true; mailbox = [] }) ∷ [];
    tables = Some (record {
      metadata = record { name = codes "t"; named = false; owner = 7; heir = None; protection = Public };
      state = record { content = record { kind = Set; keypos = 1; limit = 1; slots = (one, Tuple (one ∷ []) ∷ []) ∷ [] }; buckets = []; fixes = map.empty };
    }) ∷ [];
  };
}

abbrev asks_first : Step
asks_first = Ask 7 (record { name = codes "first"; args = Tid 0 ∷ [] })

abbrev asks_next : Step
asks_next = Ask 7 (record { name = codes "next"; args = Tid 0 ∷ one ∷ [] })

out-tid : out-Term (Tid 0) ≡ Term-F.Tid 0
out-tid = search (rules, the_lemmas)

shallow-tid : is_too_deep (Tid 0) ≡ false
shallow-tid = search (rules, the_lemmas)

shallow-one : is_too_deep one ≡ false
shallow-one = search (rules, the_lemmas)

first : step old asks_first (Value one) old
first = rw (shallow-tid, out-tid) (refl, refl)

last-reply : option_map_or key_reply (next_key ((one, Tuple (one ∷ []) ∷ []) ∷ []) one) Badarg ≡ key_reply None
last-reply = ap (λ (b : Bool). option_map_or key_reply (option_map first_key (cond b (Some []) None)) Badarg) (same-refl one)

next : step old asks_next (key_reply None) old
next = rw (shallow-tid, shallow-one, out-tid) (sym last-reply, refl)

abbrev done : run old (asks_first ∷ asks_next ∷ []) (Value one ∷ key_reply None ∷ []) old
done = (old, first, (old, next, refl))

walks : Walks 7 0 None (one ∷ []) old (asks_first ∷ asks_next ∷ []) (Value one ∷ key_reply None ∷ []) old done
walks = rw out-tid (refl, (refl, (refl, (refl, refl))))
