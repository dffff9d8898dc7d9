-- The names of calls (stdlib manual, module ets).
use Rattle.std.specs.Prelude.{ℕ, List, [], ◌∷◌, Option, codes}
use Rattle.std.specs.Map.{lookup}
use Rattle.std.specs.Str.{bytes_eq}
use Rattle.node_core.specs.declared.call_name.CallName.{CallName}
use Rattle.node_core.specs.declared.call_name.CallName.TheVariants.{Delete, DeleteAllObjects, DeleteObject, First, FirstLookup, GiveAway, Info, Insert, InsertNew, Lookup, LookupElement, Match, MatchDelete, MatchObject, Member, New, Next, NextLookup, Receive, SafeFixtable, Select, SelectCount, SelectDelete, SetOptions, Tab2list, Take, UpdateCounter, UpdateElement, Whereis}

-- each name, as it is spelled
abbrev pub spellings : List (List ℕ × CallName)
spellings =
    (codes "delete", Delete)
    ∷ (codes "delete_all_objects", DeleteAllObjects)
    ∷ (codes "delete_object", DeleteObject)
    ∷ (codes "first", First)
    ∷ (codes "first_lookup", FirstLookup)
    ∷ (codes "give_away", GiveAway)
    ∷ (codes "info", Info)
    ∷ (codes "insert", Insert)
    ∷ (codes "insert_new", InsertNew)
    ∷ (codes "lookup", Lookup)
    ∷ (codes "lookup_element", LookupElement)
    ∷ (codes "match", Match)
    ∷ (codes "match_delete", MatchDelete)
    ∷ (codes "match_object", MatchObject)
    ∷ (codes "member", Member)
    ∷ (codes "new", New)
    ∷ (codes "next", Next)
    ∷ (codes "next_lookup", NextLookup)
    ∷ (codes "receive", Receive)
    ∷ (codes "safe_fixtable", SafeFixtable)
    ∷ (codes "select", Select)
    ∷ (codes "select_count", SelectCount)
    ∷ (codes "select_delete", SelectDelete)
    ∷ (codes "setopts", SetOptions)
    ∷ (codes "tab2list", Tab2list)
    ∷ (codes "take", Take)
    ∷ (codes "update_counter", UpdateCounter)
    ∷ (codes "update_element", UpdateElement)
    ∷ (codes "whereis", Whereis)
    ∷ []

-- the name with this spelling
abbrev pub call_name : List ℕ → Option CallName
call_name text = lookup (bytes_eq text) spellings
