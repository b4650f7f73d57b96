-- Items that are moved out of a list one by one, each for another one.
use Rattle.std.proofs.Common.{ℕ, ◌≡◌, ◌+◌, ◌∙◌, List, drop, set, get_or, sym, ap, arith}
use Rattle.std.proofs.lemmas.List.{drop-drop, drop-set-lt, get_or-drop}

-- the items from one on are still there, that one is taken, and those after it are still there
pub still_there : {X : Type 0} (xs first : List X) (i : ℕ) (d : X) → drop i xs ≡ drop i first → get_or xs i d ≡ get_or first i d
still_there {X} xs first i d same =
    let e : i + 0 ≡ i = omega arith in
    ap (λ (n : ℕ). get_or xs n d) (sym e) ∙ sym (get_or-drop i xs 0 d) ∙ ap (λ (l : List X). get_or l 0 d) same ∙ get_or-drop i first 0 d
    ∙ ap (λ (n : ℕ). get_or first n d) e

-- once the item at `i` is replaced, the items after it are still those of the first list
pub next_there : {X : Type 0} (xs first : List X) (i : ℕ) (y : X) → drop i xs ≡ drop i first → drop (i + 1) (set xs i y) ≡ drop (i + 1) first
next_there {X} xs first i y same =
    drop-set-lt (i + 1) xs i y (omega arith) ∙ sym (drop-drop 1 i xs) ∙ ap (λ (l : List X). drop 1 l) same ∙ drop-drop 1 i first
