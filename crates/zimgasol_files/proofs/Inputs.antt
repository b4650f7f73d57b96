-- The bytes that are read of an input.
use Rattle.std.proofs.Common.{ℕ, ◌≡◌, ◌+◌, ◌<◌, ◌≤◌, List, [], ◌++◌, length, take, Option, Some, None, refl, sym, ap, ◌∙◌, append_assoc}
use Rattle.std.proofs.Math.Seq.{take-length, take-append-add}
use Rattle.std.proofs.lemmas.List.{length-take-le}
use Rattle.std.specs.Io.KnownBytes.{Keeps, Consumes, IsAtEnd}

pub keeps_same : (u : Option (List ℕ)) → Keeps u u
keeps_same None = tt
keeps_same (Some xs) = refl

pub keeps_then : (u v w : Option (List ℕ)) → Keeps u v → Keeps v w → Keeps u w
keeps_then None v w a b = tt
keeps_then (Some xs) None w a b = absurd a
keeps_then (Some xs) (Some ys) None a b = absurd b
keeps_then (Some xs) (Some ys) (Some zs) a b = b ∙ a

keeps_consumes : (u v w : Option (List ℕ)) (bs : List ℕ) → Keeps u v → Consumes v w bs → Consumes u w bs
keeps_consumes None v w bs a b = tt
keeps_consumes (Some xs) None w bs a b = absurd a
keeps_consumes (Some xs) (Some ys) None bs a b = absurd b
keeps_consumes (Some xs) (Some ys) (Some zs) bs a b = sym a ∙ b

-- a read after some that failed
pub reads_ok : (u v w : Option (List ℕ)) (n : ℕ) (buffer : List ℕ) → Keeps u v → Consumes v w (take n buffer) × (n ≡ 0 → 0 < length buffer → IsAtEnd w)
    → Consumes u w (take n buffer) × (n ≡ 0 → 0 < length buffer → IsAtEnd w)
reads_ok u v w n buffer a b = (keeps_consumes u v w (take n buffer) a b.0, b.1)

pub consumes_none : (u : Option (List ℕ)) → Consumes u u []
consumes_none None = tt
consumes_none (Some xs) = refl

pub consumes_then : (u v w : Option (List ℕ)) (a b : List ℕ) → Consumes u v a → Consumes v w b → Consumes u w (a ++ b)
consumes_then None v w a b x y = tt
consumes_then (Some xs) None w a b x y = absurd x
consumes_then (Some xs) (Some ys) None a b x y = absurd y
consumes_then (Some xs) (Some ys) (Some zs) a b x y = x ∙ ap (λ (l : List ℕ). a ++ l) y ∙ sym (append_assoc a b zs)

-- what a buffer holds after a read into its rest
pub read_more : (a more : ℕ) (xs ys full : List ℕ) → a ≤ length xs → take (a + length ys) full ≡ take a xs ++ ys → length full ≡ a + length ys
    → take (a + more) full ≡ take a xs ++ take more ys
read_more a more xs ys full within is len =
    let all : full ≡ take a xs ++ ys = sym (take-length full) ∙ ap (λ n. take n full) len ∙ is in
    ap (λ (l : List ℕ). take (a + more) l) all ∙ ap (λ n. take (n + more) (take a xs ++ ys)) (sym (length-take-le a xs within))
    ∙ take-append-add (take a xs) ys more
