-- `into_raw_box` moves two fields, and what they own goes with them.
use mathlib.Core.Path.{refl, sym, subst}
use mathlib.Core.Bool.{true≢false}
use mathlib.Core.List.{List, [], ◌∷◌, ◌++◌}
use seplogic.Ra.Ura.{Ura}
use mir.Val.{Val, vptr}
use base.Logic.{SProp, ent, id⊢}
use base.Fml.{ftrue, fsep}
use prog.Memory.{Memory}
use prog.Routine.{Routine}
use prog.Wp.{WpFn, Tables}
use types.Logic.{Logic}
use contract.Monad.{Fun, fact}
use contract.Running.{tables, tables_of}
use sound.WpLaws.{WpFn-mono}
use types.Kit.{Item, rewrite, ‵, raw, ◌⊛◌, ◌$◌, ◌∵◌, !, qed, by, move, drop, use1, join, split, fsplit, fjoin, suffices, done}
use types.Part.{whole, sub, agg}
use types.Run.{stop, fld, no_more, and_then, of_opd, returns, enter}
use types.ByLocal.{alloc_all, pass_all, free_all, look_at, get, get_in, sets}
use denote.RattleType.{RattleType}
use denote.Exit.{yes}
use denote.RawPtr.{block_ptr}
use denote.Signature.{Slot, plain}
use denote.Steps.{nothing, heard}
use denote.Triple.Spec.{triple_of}
use denote.Triple.Table.{entered}
use denote.Triple.Walked.{says, Stays, stay_dropped, walk_of, ends_at, Goes-dropped, walk_Meets}
use Rattle.std.specs.Prelude.{◌≡◌, Option, None, Some, IsSome}
use Rattle.std.specs.contracts.alloc.Global as heap
use Rattle.std.proofs.alloc.Global.TheLaws as heap_laws
use Rattle.std.specs.contracts.impls.GlobalAllocator.TheImpl.{ghosts}
use Rattle.ets_c.proofs.Values.{both, raw_box_good, raw_box_out, raw_box_in}
use Rattle.node_text.specs.contracts.store.request.Request as request
use Rattle.ets_c.specs.contracts.store_ptr.RawBox as raw_box
use Rattle.ets_c.specs.contracts.request_ptr.RequestPtr as handle
use Rattle.ets_c.specs.contracts.request_ptr.RequestPtr.into_raw_box as F
use Rattle.ets_c.specs.contracts.request_ptr.RequestPtr.into_raw_box.Key.{name as #self}
use Rattle.ets_c.proofs.request_ptr.RequestPtr.into_raw_box.Statement as stated
use Rattle.ets_c.proofs.request_ptr.RequestPtr.into_raw_box.Code as code

abbrev From : Slot 0
From = plain (λ _. handle.the_row)

abbrev stayed : Stays (F.ended).signature.params (F.ended).kept
stayed = (stay_dropped From yes, tt)

module _ {M : Type 1} {𝓤 : Ura M} (𝓛 : Logic 𝓤) (at_mem : Memory → SProp 𝓤) (run : Routine → Fun 𝓤) (𝓣 : Tables 𝓤 𝓛.H) where
  open 𝓛 use {H}

  opened : (z : (walk_of 𝓛 F.ended stayed (F.clauses 𝓛 at_mem run)).Ghost) (s : Option request.the_row.Denot) → z.0.3.0.request ≡ s → IsSome s
      → ent 𝓤 (types.Kit.⋆ 𝓛 ((‵ ftrue ⊛ ‵ (fsep (handle.the_row.own_val z.0.3.0 z.0.4.0) ftrue)) ∷ [])) (WpFn 𝓤 H 𝓣.C 𝓣.Λ code.function (z.0.4.0 ++ []) ((walk_of 𝓛 F.ended stayed (F.clauses 𝓛 at_mem run)).post z))
  opened z None has is = absurd (true≢false (sym is))
  opened z (Some x) has is =
      let Post = (walk_of 𝓛 F.ended stayed (F.clauses 𝓛 at_mem run)).post z in
      let R : RattleType = request.the_row in
      let Z : RattleType = heap.the_row in
      let LZ = heap_laws.the_row_laws in
      let d = z.0.3.0 in
      let To : RattleType = raw_box.the_row R Z ghosts in
      let v : To.Denot = record { at = d.at; alloc = d.alloc; value = x } in
      qed 𝓛 ((‵ ftrue ⊛ ‵ (fsep (handle.the_row.own_val z.0.3.0 z.0.4.0) ftrue)) ∷ []) ∵ split ! $ drop ! $ fsplit ! $
      rewrite ! 0 (λ (s : Option request.the_row.Denot). ‵ (handle.the_row.own_val (record { at = d.at; alloc = d.alloc; request = s }) z.0.4.0)) has refl $
      use1 𝓛 (‵ (To.own_val v z.0.4.0)) (id⊢ 𝓤 _) $
      raw_box_out R Z LZ ghosts ! v z.0.4.0 (λ b o h e ws fa. raw_box_in R Z LZ ghosts ! b o h d.alloc x $
      let made : To.Denot = record { at = block_ptr b o; alloc = d.alloc; value = x } in
      let w : Val = both (vptr b o) h in
      let good = raw_box_good R Z LZ ghosts b o h fa in
      move ! (1 ∷ []) $ drop ! $
      let Γ : List (Item 𝓤) = ‵ (To.own_val made (w ∷ [])) ∷ [] in
      by ! (subst (λ (us : List Val). ent 𝓤 (types.Kit.⋆ 𝓛 Γ) (WpFn 𝓤 H 𝓣.C 𝓣.Λ code.function (us ++ []) Post)) (sym ws)
      (qed 𝓛 Γ ∵ enter ! 𝓣.C 𝓣.Λ code.function (w ∷ []) _ $ alloc_all ! (λ ls. pass_all ! refl (good, tt) $
      sets ! (of_opd ! (get_in ! (fld ! refl (stop !)) (sub ! 0 refl (whole !)))) refl (tt, tt) $ sets ! (of_opd ! (get_in ! (fld ! refl (stop !)) (sub ! 1 refl (whole !)))) refl fa $
      sets ! (of_opd ! (get ! refl)) refl (tt, tt) $
      sets ! (agg ! (and_then ! (get ! refl) (and_then ! (get ! refl) (no_more !)))) refl good $ returns ! (look_at ! 0 refl) $ free_all ! refl $
      suffices ! _ (ends_at 𝓛 F.ended stayed (F.clauses 𝓛 at_mem run) z w made (tt, tt) (tt, tt)) $ says ! has $
      nothing ! $ nothing ! $ fjoin ! $ join ! $ nothing ! $ join ! $ done !))))

  walk : (z : (walk_of 𝓛 F.ended stayed (F.clauses 𝓛 at_mem run)).Ghost)
      → ent 𝓤 ((walk_of 𝓛 F.ended stayed (F.clauses 𝓛 at_mem run)).pre z) (WpFn 𝓤 H 𝓣.C 𝓣.Λ code.function (z.0.4.0 ++ []) ((walk_of 𝓛 F.ended stayed (F.clauses 𝓛 at_mem run)).post z))
  walk z =
      qed 𝓛 ((‵ ftrue ⊛ ‵ (fsep (handle.the_row.own_val z.0.3.0 z.0.4.0) ftrue)) ∷ raw (fact 𝓤 (IsSome z.0.3.0.request)) ∷ []) ∵ move ! (1 ∷ []) $ heard ! (IsSome z.0.3.0.request) (λ is.
      by ! (opened z z.0.3.0.request refl is))

pub into_raw_box_spec : {M : Type 1} → stated.statement M
unfolding tables_of
into_raw_box_spec 𝓤 𝓛 𝓜 𝓡 wired =
    let 𝓣 : Tables 𝓤 𝓛.H = tables_of 𝓤 𝓛.H 𝓜 (tables 𝓤 𝓛.H 𝓜 𝓡 𝓡.env) in
    entered 𝓤 𝓛.H (triple_of 𝓛 F.signature (F.spec 𝓛 𝓜.mem 𝓡.returns)) 𝓣.C 𝓣.Λ #self code.function (code.unfolded 𝓤 𝓛.H 𝓜 𝓡 wired)
    (walk_Meets 𝓛 F.ended stayed (Goes-dropped 𝓛 0 From yes (λ κs x f. refl), tt) (F.clauses 𝓛 𝓜.mem 𝓡.returns) (WpFn 𝓤 𝓛.H 𝓣.C 𝓣.Λ code.function) (WpFn-mono 𝓤 𝓛.H 𝓛.laws 𝓣 code.function)
    (walk 𝓛 𝓜.mem 𝓡.returns 𝓣))
