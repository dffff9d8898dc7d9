-- What `info` and growth steps say of a table, whatever the order of its slots.
use Rattle.std.proofs.Common.{◌≡◌, ℕ, Option, None, Some, option_map, refl, sym, ap}
use Rattle.std.specs.Prelude.{pos}
use Rattle.std.specs.Option.{option_map_or}
use Rattle.ets_term.specs.declared.term.Term.TheVariants.{Atom, Int, Pid}
use Rattle.fixed_walk.specs.Fixes.{is_fixed}
use Rattle.fixed_walk.specs.TableState.{TableState}
use Rattle.ownership.specs.declared.info.InfoItem.{InfoItem}
use Rattle.ownership.specs.declared.info.InfoItem.TheVariants as item
use Rattle.ownership.specs.declared.metadata.Metadata.{Metadata}
use Rattle.ownership.specs.World.{Table}
use Rattle.ownership.specs.Info.{info_of, boolean_atom, protection_atom, kind_atom, heir_term}
use Rattle.node_core.specs.declared.step.Reply.TheVariants.{Badarg}
use Rattle.node_core.specs.rules.Growth.{ok_reply}
use Rattle.node_core.proofs.determined.Slots.{count-same}
use Rattle.node_core.proofs.determined.Alike.{AlikeTable, AlikePlace}

item-same : (i : InfoItem) (n : ℕ) (t u : Table) → AlikeTable t u → info_of i n t ≡ info_of i n u
item-same item.Name n t u e = ap (λ (m : Metadata). Atom m.name) (sym e.metadata)
item-same item.NamedTable n t u e = ap (λ (m : Metadata). boolean_atom m.named) (sym e.metadata)
item-same item.Owner n t u e = ap (λ (m : Metadata). Pid m.owner) (sym e.metadata)
item-same item.Protection n t u e = ap (λ (m : Metadata). Atom (protection_atom m.protection)) (sym e.metadata)
item-same item.Heir n t u e = ap (λ (m : Metadata). heir_term m.heir) (sym e.metadata)
item-same item.Id n t u e = refl
item-same item.Size n t u e = ap (λ k. Int (pos k)) (count-same t.state.content.slots u.state.content.slots e.state.slots)
item-same item.Kind n t u e = ap (λ (f : TableState). Atom (kind_atom f.content.kind)) (sym e.state.rest)
item-same item.Keypos n t u e = ap (λ (f : TableState). Int (pos f.content.keypos)) (sym e.state.rest)
item-same item.Fixed n t u e = ap (λ (f : TableState). boolean_atom (is_fixed f.fixes)) (sym e.state.rest)

pub item-at : (i : InfoItem) (n : ℕ) (o u : Option Table) → AlikePlace o u → option_map (info_of i n) o ≡ option_map (info_of i n) u
item-at i n None None e = refl
item-at i n None (Some u) e = absurd e
item-at i n (Some t) None e = absurd e
item-at i n (Some t) (Some u) e = ap Some (item-same i n t u e)

pub growth-at : (o u : Option Table) → AlikePlace o u → option_map_or (λ _. ok_reply) o Badarg ≡ option_map_or (λ _. ok_reply) u Badarg
growth-at None None e = refl
growth-at None (Some u) e = absurd e
growth-at (Some t) None e = absurd e
growth-at (Some t) (Some u) e = refl
