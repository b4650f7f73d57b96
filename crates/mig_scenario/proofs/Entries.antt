-- The list of blocks that the lines are made into.
use Rattle.std.proofs.Common.{ℕ, ◌≡◌, ◌<◌, ◌+◌, List, [], ◌∷◌, ◌++◌, length, map, take, get_or, refl, sym, ap, ◌∙◌}
use Rattle.std.proofs.lemmas.List.{map_push, map_more, append-nil}
use Rattle.std.specs.Borrow.{Bor}
use Rattle.std.specs.declared.vec.Vec.{Vec}
use Rattle.mig_mem.specs.RamTable.{Block, entry_block}
use Rattle.mig_scenario.specs.declared.line.Line.{Line}
use Rattle.mig_scenario.specs.declared.line.Line.TheVariants as kept
use Rattle.mig_scenario.specs.Line.{ScenarioLine, EmptyLine, BlockLine, StepLine}
use Rattle.mig_scenario.specs.Scenario.{blocks_of}
use Rattle.mig_scenario.specs.Seen.{seen}

blocks_push : (ls : List ScenarioLine) (l : ScenarioLine) → blocks_of (ls ++ l ∷ []) ≡ blocks_of ls ++ blocks_of (l ∷ [])
blocks_push [] l = refl
blocks_push (EmptyLine ∷ ls) l = blocks_push ls l
blocks_push (BlockLine pages id ∷ ls) l = ap (λ (bs : List Block). record { id = id; pages = pages } ∷ bs) (blocks_push ls l)
blocks_push (StepLine step ∷ ls) l = blocks_push ls l

blocks_more : (lines : List Line) (i : ℕ) (x : Line) → i < length lines → get_or lines i kept.Empty ≡ x
    → blocks_of (map seen (take (i + 1) lines)) ≡ blocks_of (map seen (take i lines)) ++ blocks_of (seen x ∷ [])
blocks_more lines i x h e =
    ap (λ (ls : List ScenarioLine). blocks_of ls) (map_more seen lines i kept.Empty h)
    ∙ blocks_push (map seen (take i lines)) (seen (get_or lines i kept.Empty))
    ∙ ap (λ (y : Line). blocks_of (map seen (take i lines)) ++ blocks_of (seen y ∷ [])) e

-- a block's line adds an entry
pub entry_more : {A : Type 0} (list : List (Vec ℕ A × ℕ)) (v : Vec ℕ A) (lines : List Line) (i pages : ℕ) (id : Bor (List ℕ))
    → map entry_block list ≡ blocks_of (map seen (take i lines)) → i < length lines → get_or lines i kept.Empty ≡ kept.Block pages id → v.items ≡ id.now
    → map entry_block (list ++ (v, pages) ∷ []) ≡ blocks_of (map seen (take (i + 1) lines))
entry_more {A} list v lines i pages id h lt e same =
    map_push (λ (y : Vec ℕ A × ℕ). entry_block y) list (v, pages)
    ∙ ap (λ (bs : List Block). bs ++ record { id = v.items; pages = pages } ∷ []) h
    ∙ ap (λ (bytes : List ℕ). blocks_of (map seen (take i lines)) ++ record { id = bytes; pages = pages } ∷ []) same
    ∙ sym (blocks_more lines i (kept.Block pages id) lt e)

no_block : (x : Line) → ((pages : ℕ) (id : Bor (List ℕ)) → x ≡ kept.Block pages id → ⊥) → blocks_of (seen x ∷ []) ≡ []
no_block kept.Empty h = refl
no_block (kept.Block pages id) h = absurd (h pages id refl)
no_block (kept.Step step) h = refl

-- another line adds none
pub entry_same : {A : Type 0} (list : List (Vec ℕ A × ℕ)) (lines : List Line) (i : ℕ)
    → map entry_block list ≡ blocks_of (map seen (take i lines)) → i < length lines
    → ((pages : ℕ) (id : Bor (List ℕ)) → get_or lines i kept.Empty ≡ kept.Block pages id → ⊥)
    → map entry_block list ≡ blocks_of (map seen (take (i + 1) lines))
entry_same list lines i h lt other =
    let x = get_or lines i kept.Empty in
    h ∙ sym (blocks_more lines i x lt refl ∙ ap (λ (bs : List Block). blocks_of (map seen (take i lines)) ++ bs)
    (no_block x other) ∙ append-nil (blocks_of (map seen (take i lines))))
