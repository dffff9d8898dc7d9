use Rattle.std.proofs.Common.{◌≡◌, Option, List, option_map, subst, IsSome, refl, sym, ◌∙◌, ap}
use Rattle.node_list.specs.Cells.{Cell}
use Rattle.node_list.specs.Places.{from, first_item}
use Rattle.node_list.specs.ListState.{ListState}
use Rattle.node_list.specs.Changes.{cells_with}
use Rattle.node_list.specs.declared.node.ListNode.{ListNode}
use Rattle.node_list.specs.declared.node.Item.{Item}
use Rattle.node_list.proofs.PlaceLaws.{place-node}
use Rattle.node_list.proofs.ChainLaws.{chain_mut-nodes}
use Rattle.node_list.proofs.list.NodeList.chain_mut.Goals as goal

pub chain_mut-requires : goal.chain_mut-requires
chain_mut-requires c =
    let e = ap (λ (v : ListState). from c.args.at v.cells) c.self.view_is ∙ c.requires.is in
    let f = place-node c.self.inside.nodes c.args.at c.requires.cell c.requires.later c.self.invariant.linked e in
    let P : Option Item → Type 0 = λ o. IsSome o in
    record { node = f.node; is = f.is; has = subst P (sym (f.item ∙ c.requires.has)) refl }

pub invariant_of-self-lent : goal.invariant_of-self-lent
invariant_of-self-lent c = λ w. (chain_mut-nodes c.self.inside.nodes c.args.at w c.chain_mut.ensures.value.node c.self.invariant c.chain_mut.ensures.value.is).list

pub returns : goal.returns
returns c =
    let e = ap (λ (v : ListState). from c.args.at v.cells) c.self.view_is ∙ c.requires.is in
    let f = place-node c.self.inside.nodes c.args.at c.requires.cell c.requires.later c.self.invariant.linked e in
    let same : f.node ≡ c.chain_mut.ensures.value.node = cc (f.is, c.chain_mut.ensures.value.is) in
    let item : first_item (from c.args.at c.args.self.now.cells) ≡ c.chain_mut.ensures.value.node.item = ap first_item c.requires.is ∙ (sym f.item ∙ ap (λ (n : ListNode). n.item) same) in (
      (
        refl,
        λ w.
            ap (λ (zs : List Cell). record { cells = zs; capacity = c.self.inside.nodes.capacity })
            (chain_mut-nodes c.self.inside.nodes c.args.at w c.chain_mut.ensures.value.node c.self.invariant c.chain_mut.ensures.value.is).cells
            ∙ ap (λ (v : ListState). record v { cells = cells_with c.args.at w v.cells }) c.self.view_is,
      ),
      record { lends = tt; value = ap (λ (o : Option Item). option_map (λ (i : Item). i.chain) o) item ∙ c.chain_mut.ensures.value.chain },
    )
