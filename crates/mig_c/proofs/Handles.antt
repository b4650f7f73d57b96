-- The machine values of a handle: one pointer. Assumes `Logic`.
use Rattle.std.proofs.Common.{◌≡◌, ℕ, List, [], ◌∷◌, ◌++◌, refl, subst, Option, Some}
use seplogic.Ra.Ura.{Ura}
use mir.Raw.{raw as bare}
use mir.Val.{Val, vptr, vstruct, vcons, vnil, of_list}
use base.Logic.{never, fst∗}
use types.Logic.{Logic, sem}
use types.Kit.{Item, Goal, Seq, Step, step, ‵, ◌$◌, drop, fsplit, fjoin, fpick, fpack, feq_i, feq_l, rewrite}
use denote.RattleType.{RattleType, Valss}
use denote.Builtin.{RawPtr}
use denote.Memory.{lone}
use denote.RawPtr.{Ptr, block_ptr, null_ptr, ptr_val, in_a_block}
use denote.Steps.{nothing}
use denote.Struct.Struct.{within}
use denote.Struct.Owning.{shape}
use Rattle.std.specs.contracts.impls.GlobalAllocator.TheImpl.{ghosts}
use Rattle.std_alloc.specs.Box.Ownership.{box_owns}
use Rattle.mig_c.specs.Owned.{heap, owned}
use Rattle.mig_c.specs.contracts.object.Object as object
use Rattle.mig_c.specs.contracts.handle.Handle as handle

abbrev pub alone : Val → Val
alone v = vstruct (vcons v vnil)

abbrev pub R : RattleType
R = object.the_row

abbrev pub H : RattleType
H = handle.the_row

module _ {M : Type 1} {𝓤 : Ura M} {𝓛 : Logic 𝓤} {K : Type 0} {Γ : List (Item 𝓤)} {G : Goal 𝓤 𝓛.H} where
  pub handle_out : K → (d : H.Denot) (vs : List Val) (x : R.Denot) → d.value ≡ Some x
      → ((b o : ℕ) → d.at ≡ block_ptr b o → vs ≡ alone (vptr b o) ∷ [] → Seq K 𝓛 (‵ (box_owns (ghosts.dealloc_token heap) R (block_ptr b o) x) ∷ Γ) G)
      → Seq K 𝓛 (‵ (H.own_val d vs) ∷ Γ) G
  handle_out t d vs x is k =
      fsplit t $ fpick t (λ vss. fsplit t $ feq_l t (λ ev. fsplit t $ feq_l t (λ ep. drop t $ rewrite t 0 (λ (v : Option R.Denot). ‵ (owned d.at v)) is refl $
      in_a_block t d.at (λ p. box_owns (ghosts.dealloc_token heap) R p x)
      (fst∗ 𝓤 (never 𝓤) (sem 𝓛 (ghosts.dealloc_token heap (bare (lone R.mir)) null_ptr))) (λ b o e. k b o e
      (subst (λ (p : Ptr). vs ≡ vstruct (of_list (ptr_val p ∷ [])) ∷ []) e
      (subst (λ (ps : List Val). vs ≡ vstruct (of_list (ps ++ [])) ∷ []) ep ev))))))

  pub handle_in : K → (p : Ptr) (x : Option R.Denot)
      → Step K 𝓛 (‵ (H.own_val (record { at = p; value = x }) (alone (ptr_val p) ∷ [])) ∷ Γ) G (‵ (owned p x) ∷ Γ) G
  handle_in t p x = step (λ s. let v : Val = alone (ptr_val p) in
      nothing t $ feq_i t (List Val) (ptr_val p ∷ []) (ptr_val p ∷ []) refl $ fjoin t $ feq_i t (List Val) (v ∷ []) (v ∷ []) refl $ fjoin t $
      fpack t (Valss (RawPtr ∷ [])) (within (shape handle.the_type) (p, tt) (v ∷ [])) (ptr_val p ∷ [], tt) $ fjoin t $ s)
