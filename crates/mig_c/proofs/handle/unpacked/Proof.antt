-- `unpacked` gives the pointer back, with a handle of the heap.
use Rattle.std.proofs.Common.{◌≡◌, List, [], ◌∷◌, ◌++◌, refl, sym, subst, Some}
use Rattle.std.specs.Prelude.{IsSome}
use mir.Val.{Val, vptr}
use base.Logic.{SProp, ent, emp, id⊢}
use base.Fml.{ftrue}
use prog.Wp.{WpFn}
use types.Kit.{‵, raw, ◌⊛◌, ◌$◌, ◌∵◌, !, qed, by, move, keep, split, fsplit, fjoin, suffices, use0}
use denote.Steps.{nothing, heard}
use types.Run.{stop, fld, of_opd, no_more, and_then, returns, enter}
use types.ByLocal.{alloc_all, pass_all, free_all, look_at, get, get_in, sets}
use types.Part.{agg, sub, whole}
use contract.Monad.{fact, fact_i}
use contract.Running.{tables}
use denote.Exit.{yes}
use denote.RattleType.{RattleType, owns}
use denote.RawPtr.{block_ptr}
use denote.Signature.{types_at, plain}
use denote.Triple.Walked.{Stays, stay_dropped, walk_of}
use Rattle.core.proofs.alloc.Calls.{Al, Goes-blank, handle_tells}
use Rattle.std.proofs.raw_atomic.Walks.{proved_at, leaves}
use Rattle.std.specs.contracts.alloc.Global as heap
use Rattle.std.proofs.alloc.Global.TheLaws as heap_laws
use Rattle.std.specs.contracts.impls.GlobalAllocator.TheImpl.{ghosts}
use Rattle.mig_single_load.proofs.ComesNext.{there_is}
use Rattle.mig_c.proofs.Values.{both, Loose, loose_good, loose_in}
use Rattle.mig_c.proofs.Handles.{alone, R, H, handle_out}
use mir.Syntax.{impl, tnil, dnil}
use Rattle.mig_c.specs.contracts.handle.unpacked.{ended, clauses}
use Rattle.mig_c.specs.contracts.handle.unpacked.Key.{name as #self}
use Rattle.mig_c.proofs.handle.unpacked.Statement.{statement}
use Rattle.mig_c.proofs.handle.unpacked.Code as code

abbrev L : RattleType
L = Loose R heap.the_row heap_laws.the_row_laws ghosts

abbrev al : Al
al = record { row = heap.the_row; laws = heap_laws.the_row_laws; g = ghosts; d = impl [] tnil dnil; drops = impl [] tnil dnil }

abbrev hs : Stays ended.signature.params ended.kept
hs = (stay_dropped (plain (λ _. H)) yes, (stay_dropped (plain (λ _. heap.the_row)) yes, tt))

-- `unpacked` returns the pointer to the object of a handle that has one
pub unpacked_spec : {M : Type 1} → statement M
unpacked_spec 𝓤 𝓛 𝓜 𝓡 wired =
    let 𝓣 = tables 𝓤 𝓛.H 𝓜 𝓡 𝓡.env in let c = clauses 𝓛 𝓜.mem 𝓡.returns in let Z : RattleType = heap.the_row in
    let LZ = heap_laws.the_row_laws in let fn = code.function in
    proved_at 𝓛 ended hs c 𝓜 𝓡 (
      Goes-blank 𝓛 0 (plain (λ _. H)) yes (λ κs x f. tt),
      (Goes-blank 𝓛 0 (plain (λ _. Z)) yes (λ κs x f. tt), tt),
    ) #self fn (code.unfolded 𝓤 𝓛.H 𝓜 𝓡 wired) (λ z are.
    let κs = z.0.0 in let v = z.0.3.0 in let a = z.0.3.1.0 in let Post : Val → SProp 𝓤 = (walk_of 𝓛 ended hs c).post z in
    let Run : List Val → SProp 𝓤 = λ ws. WpFn 𝓤 𝓛.H 𝓣.C 𝓣.Λ fn ws Post in
    let asked = raw ((c κs z.0.3).requires z.1) in
    qed 𝓛 ((‵ ftrue ⊛ ‵ (owns (types_at ended.signature.params κs) z.0.3 z.0.4)) ∷ asked ∷ []) ∵ split ! $ move !
    (2 ∷ []) $ heard ! (IsSome v.value) (λ is. let of = there_is v.value is in let x : R.Denot = of.0 in
    move ! (1 ∷ []) $ fsplit ! $ move ! (1 ∷ []) $ fsplit ! $
    handle_tells al ! a z.0.4.1.0 (λ h eh fits. move ! (2 ∷ []) $ handle_out ! v z.0.4.0 x of.1 (λ b o e ws.
    let w : Val = alone (vptr b o) in
    suffices ! (Run (w ∷ h ∷ [])) (subst (λ (us : List Val). ent 𝓤 (Run (w ∷ h ∷ [])) (Run us)) (sym (λ i. ws i ++ (eh i ++ []))) (id⊢ 𝓤 (Run (w ∷ h ∷ [])))) $
    enter ! 𝓣.C 𝓣.Λ fn (w ∷ h ∷ []) Post $ alloc_all ! (λ l. pass_all ! refl ((tt, (tt, tt)), (fits, tt)) $
    sets ! (of_opd ! (get_in ! (fld ! refl (stop !)) (sub ! 0 refl (whole !)))) refl (tt, tt) $ sets ! (of_opd ! (get ! refl)) refl (tt, tt) $
    sets ! (agg ! (and_then ! (get ! refl) (and_then ! (get ! refl) (no_more !)))) refl
    (loose_good R Z LZ ghosts b o h fits) $ returns ! (look_at ! 0 refl) $ free_all ! refl $
    loose_in R Z LZ ghosts ! b o h a x $ use0 𝓛 (raw (fact 𝓤 (v.value ≡ Some x))) (fact_i 𝓤 (v.value ≡ Some x) (emp 𝓤) of.1) $
    nothing ! $ nothing ! $ fjoin ! $ nothing ! $ fjoin ! $ keep ! (3 ∷ 0 ∷ 2 ∷ 1 ∷ []) $ by !
    (leaves 𝓛 ended hs c z (both (vptr b o) h) (record { at = block_ptr b o; alloc = a; value = x }) (tt, (tt, tt)) (tt, (tt, tt))))))))
