-- `none` keeps null, of which nothing is owned.
use Rattle.std.proofs.Common.{◌≡◌, [], ◌∷◌, refl, Option, None}
use lib.Dec.{lit<}
use mir.Val.{Val}
use base.Logic.{SProp, emp}
use base.Fml.{ftrue}
use types.Kit.{‵, raw, ◌⊛◌, ◌$◌, ◌∵◌, !, qed, by, keep, split, use0}
use types.Run.{lit, no_more, and_then, returns, enter}
use types.ByLocal.{alloc_all, pass_all, free_all, look_at, sets}
use types.Part.{agg}
use contract.Monad.{fact, fact_i}
use contract.Running.{tables}
use denote.RattleType.{owns}
use denote.RawPtr.{null_ptr, ptr_val}
use denote.Signature.{types_at}
use denote.Steps.{nothing}
use denote.Triple.Walked.{Stays, walk_of}
use Rattle.std.proofs.raw_atomic.Walks.{proved_at, leaves}
use Rattle.mig_c.proofs.Handles.{alone, R, handle_in}
use Rattle.mig_c.specs.contracts.handle.none.{ended, clauses}
use Rattle.mig_c.specs.contracts.handle.none.Key.{name as #self}
use Rattle.mig_c.proofs.handle.none.Statement.{statement}
use Rattle.mig_c.proofs.handle.none.Code as code

abbrev hs : Stays ended.signature.params ended.kept
hs = tt

-- `none` creates a handle without an object
pub none_spec : {M : Type 1} → statement M
none_spec 𝓤 𝓛 𝓜 𝓡 wired =
    let 𝓣 = tables 𝓤 𝓛.H 𝓜 𝓡 𝓡.env in let c = clauses 𝓛 𝓜.mem 𝓡.returns in let fn = code.function in
    proved_at 𝓛 ended hs c 𝓜 𝓡 tt #self fn (code.unfolded 𝓤 𝓛.H 𝓜 𝓡 wired) (λ z are.
    let κs = z.0.0 in let Post : Val → SProp 𝓤 = (walk_of 𝓛 ended hs c).post z in
    let asked = raw ((c κs z.0.3).requires z.1) in let no : Option R.Denot = None in
    qed 𝓛 ((‵ ftrue ⊛ ‵ (owns (types_at ended.signature.params κs) z.0.3 z.0.4)) ∷ asked ∷ []) ∵ split ! $
    enter ! 𝓣.C 𝓣.Λ fn [] Post $ alloc_all ! (λ l. pass_all ! refl tt $
    sets ! (agg ! (and_then ! (lit ! tt) (no_more !))) refl (tt, (record { fits = lit< tt }, tt)) $ returns ! (look_at ! 0 refl) $ free_all ! refl $
    nothing ! $ handle_in ! null_ptr no $ use0 𝓛 (raw (fact 𝓤 (no ≡ no))) (fact_i 𝓤 (no ≡ no) (emp 𝓤) refl) $
    nothing ! $ nothing ! $ keep ! (0 ∷ 1 ∷ 3 ∷ 2 ∷ []) $ by ! (leaves 𝓛 ended hs c z (alone (ptr_val null_ptr)) (record { at = null_ptr; value = no }) tt tt)))
