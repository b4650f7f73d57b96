-- Two lists that are related element by element: one place of them, and one element more.
use Rattle.std.proofs.Common.{zero, suc, ◌++◌, set, replicate, sym, ap, subst, ◌∙◌, take}
use Rattle.std.specs.Prelude.{ℕ, ◌≡◌, ◌<◌, ◌+◌, List, length, slice_get, get_or, Some, [], ◌∷◌}
use Rattle.std.specs.List.{AllZip}
use Rattle.std.proofs.lemmas.List.{replicate_more, take_more}
use Rattle.mig_send.proofs.Gathering.{zip_push}

-- ---- one place

-- two lists related element by element stay so with a related pair set at the same place
pub zip_set : {X Y : Type 0} (R : X → Y → Type 0) (xs : List X) (ys : List Y) (j : ℕ) (x : X) (y : Y) → AllZip R xs ys → R x y
    → AllZip R (set xs j x) (set ys j y)
zip_set R [] [] j x y zip here = tt
zip_set R [] (b ∷ ys) j x y zip here = absurd zip
zip_set R (a ∷ xs) [] j x y zip here = absurd zip
zip_set R (a ∷ xs) (b ∷ ys) zero x y zip here = (here, zip.1)
zip_set R (a ∷ xs) (b ∷ ys) (suc j) x y zip here = (zip.0, zip_set R xs ys j x y zip.1 here)

-- in two related lists, the element y at a place of the second is related to that of the first
pub zip_at : {X Y : Type 0} (R : X → Y → Type 0) (xs : List X) (ys : List Y) (j : ℕ) (d : X) (y : Y) → AllZip R xs ys
    → slice_get ys j ≡ Some y → R (get_or xs j d) y
zip_at R [] [] j d y zip is = absurd cc
zip_at R [] (b ∷ ys) j d y zip is = absurd zip
zip_at R (a ∷ xs) [] j d y zip is = absurd zip
zip_at R (a ∷ xs) (b ∷ ys) zero d y zip is = subst (λ z. R a z) (let same : b ≡ y = cc in same) zip.0
zip_at R (a ∷ xs) (b ∷ ys) (suc j) d y zip is = zip_at R xs ys j d y zip.1 is

-- an element x set at place j of a list is related to the other list's element there
pub zip_here : {X Y : Type 0} (R : X → Y → Type 0) (xs : List X) (ys : List Y) (j : ℕ) (x : X) (y : Y) → AllZip R (set xs j x) ys
    → slice_get ys j ≡ Some y → R x y
zip_here R [] [] j x y zip is = absurd cc
zip_here R [] (b ∷ ys) j x y zip is = absurd zip
zip_here R (a ∷ xs) [] zero x y zip is = absurd zip
zip_here R (a ∷ xs) [] (suc j) x y zip is = absurd zip
zip_here R (a ∷ xs) (b ∷ ys) zero x y zip is = subst (λ z. R x z) (let same : b ≡ y = cc in same) zip.0
zip_here R (a ∷ xs) (b ∷ ys) (suc j) x y zip is = zip_here R xs ys j x y zip.1 is

-- ---- one element more

-- if a list's first i elements and the next are each related, so are i + 1 with y added
pub zip_more : {X Y : Type 0} (R : X → Y → Type 0) (xs : List X) (ys : List Y) (i : ℕ) (x : X) (y : Y) → i < length xs
    → get_or xs i x ≡ x → AllZip R (take i xs) ys → R x y
    → AllZip R (take (i + 1) xs) (ys ++ y ∷ [])
zip_more R xs ys i x y below is zip here =
    subst (λ l. AllZip R l (ys ++ y ∷ [])) (sym (take_more xs i x below ∙ ap (λ z. take i xs ++ z ∷ []) is)) (zip_push R (take i xs) ys x y zip here)

-- if n copies of x are related to a list, and x to y, so are n + 1 copies to the list with y added
pub zip_replicate : {X Y : Type 0} (R : X → Y → Type 0) (n : ℕ) (x : X) (y : Y) (ys : List Y) → AllZip R (replicate n x) ys
    → R x y → AllZip R (replicate (n + 1) x) (ys ++ y ∷ [])
zip_replicate R n x y ys zip here = subst (λ l. AllZip R l (ys ++ y ∷ [])) (replicate_more n x) (zip_push R (replicate n x) ys x y zip here)
