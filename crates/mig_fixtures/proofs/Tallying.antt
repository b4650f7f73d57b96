-- Calls of `Tally::refuses` and `Tally::count`: the arguments, and the facts after the call.
-- Assumes `Logic`.
use Rattle.std.proofs.Common.{◌≡◌, ℕ, ◌^◌, ◌<◌, List, [], ◌∷◌, refl, ap, w64}
use seplogic.Ra.Ura.{Ura}
use mir.Val.{Val, vunit, vint, vptr}
use base.Logic.{SProp, ent, sep, guard, id⊢}
use base.Fml.{Lft, Share, ftrue, fsep, flft}
use prog.Memory.{Memory}
use prog.Routine.{Routine}
use types.Logic.{Logic, sem}
use contract.Monad.{Fun}
use types.Kit.{‵, raw, ◌⊛◌, some, later, ◌$◌, ◌∵◌, !, qed, move, keep, use1, split, join, pick, fjoin, feq_i, feq_l, flt_i, check, await, updating}
use types.Kit.{now as at_once, done}
use denote.RattleType.{RattleType}
use denote.Memory.{hidden_shr}
use denote.Builtin.{unit}
use denote.Steps.{nothing, only}
use denote.Triple.Statement.{Contract}
use denote.Triple.Spec.{triple_of}
use Rattle.mig_fixtures.specs.contracts.heap.Tally as TY
use Rattle.mig_fixtures.specs.contracts.heap.Tally.refuses as RF
use Rattle.mig_fixtures.specs.contracts.heap.Tally.count as CT

abbrev pub Tallied : RattleType
Tallied = TY.the_row

module _ {M : Type 1} {𝓤 : Ura M} (𝓛 : Logic 𝓤) (at_mem : Memory → SProp 𝓤) (run : Routine → Fun 𝓤) where
  abbrev pub Refuses : Contract 𝓤
  Refuses = triple_of 𝓛 RF.signature (RF.spec 𝓛 at_mem run)

  abbrev pub Counts : Contract 𝓤
  Counts = triple_of 𝓛 CT.signature (CT.spec 𝓛 at_mem run)

  abbrev pub at_refuses : Lft → Share → ℕ × ℕ → Tallied.Denot → Refuses.Ghost
  at_refuses κ q c t = (((κ, tt), (q, tt), tt, (record { ref_ptr = c; now = t }, tt), (vptr c.0 c.1 ∷ [], tt)), tt)

  abbrev pub at_counts : Lft → Share → ℕ × ℕ → Tallied.Denot → ℕ → ℕ → Counts.Ghost
  at_counts κ q c t n m = (
    (
      (κ, tt),
      (q, tt),
      tt,
      (record { ref_ptr = c; now = t }, (n, (m, tt))),
      (vptr c.0 c.1 ∷ [], (vint w64 n ∷ [], (vint w64 m ∷ [], tt))),
    ),
    tt,
  )

module _ {M : Type 1} {𝓤 : Ura M} (𝓛 : Logic 𝓤) (at_mem : Memory → SProp 𝓤) (run : Routine → Fun 𝓤) (κ : Lft) (q : Share) (c : ℕ × ℕ) (t : Tallied.Denot) where
  open 𝓛 use {H, A}

  pub Refuses-goes : ent 𝓤 (sep 𝓤 (sem 𝓛 (hidden_shr Tallied κ t c.0 c.1)) (A.lft κ q)) ((Refuses 𝓛 at_mem run).pre (at_refuses 𝓛 at_mem run κ q c t))
  Refuses-goes =
      qed 𝓛 (‵ (hidden_shr Tallied κ t c.0 c.1) ∷ ‵ (flft κ q) ∷ []) ∵ feq_i ! (List Val) (vptr c.0 c.1 ∷ []) (vptr c.0 c.1 ∷ []) refl $ fjoin ! $
      nothing ! $ move ! (1 ∷ []) $ fjoin ! $ nothing ! $ move ! (2 ∷ []) $ join ! $ join ! $ nothing ! $ move ! (1 ∷ []) $ done !

  pub Counts-goes : (n m : ℕ) → n < 2 ^ 64 → m < 2 ^ 64
      → ent 𝓤 (sep 𝓤 (sem 𝓛 (hidden_shr Tallied κ t c.0 c.1)) (A.lft κ q)) ((Counts 𝓛 at_mem run).pre (at_counts 𝓛 at_mem run κ q c t n m))
  Counts-goes n m fn fm =
      qed 𝓛 (‵ (hidden_shr Tallied κ t c.0 c.1) ∷ ‵ (flft κ q) ∷ []) ∵
      nothing ! $ flt_i ! m (2 ^ 64) fm $ feq_i ! (List Val) (vint w64 m ∷ []) (vint w64 m ∷ []) refl $ fjoin ! $ fjoin ! $
      flt_i ! n (2 ^ 64) fn $ feq_i ! (List Val) (vint w64 n ∷ []) (vint w64 n ∷ []) refl $ fjoin ! $ fjoin ! $
      move ! (1 ∷ []) $ feq_i ! (List Val) (vptr c.0 c.1 ∷ []) (vptr c.0 c.1 ∷ []) refl $ fjoin ! $ move ! (0 ∷ 1 ∷ []) $ fjoin ! $
      nothing ! $ move ! (2 ∷ 0 ∷ []) $ join ! $ join ! $ nothing ! $ move ! (1 ∷ []) $ done !

  pub Counts-gives : (n m : ℕ) (v : Val) → ent 𝓤 ((Counts 𝓛 at_mem run).post (at_counts 𝓛 at_mem run κ q c t n m) v) (H.⇛ (guard 𝓤 (v ≡ vunit) (A.lft κ q)))
  Counts-gives n m v =
      qed 𝓛 (raw ((Counts 𝓛 at_mem run).post (at_counts 𝓛 at_mem run κ q c t n m) v) ∷ []) ∵ updating ! $
      use1 𝓛 (later (some (λ (r : Unit {0}). ((‵ (flft κ q) ⊛ ‵ ftrue) ⊛ ‵ (unit.own_val r (v ∷ []))) ⊛ some
      (λ (ws : Unit {0} × (Unit {0} × (Unit {0} × Unit {0}))). ‵ (fsep ftrue (fsep ftrue (fsep ftrue ftrue))) ⊛ ‵ ftrue))))
      (id⊢ 𝓤 _) $ await ! tt $ pick ! (λ r.
      split ! $ split ! $ move ! (1 ∷ []) $ feq_l ! (λ e. split ! $ at_once ! $ check ! (ap only e) $ keep ! (0 ∷ []) $ done !))
