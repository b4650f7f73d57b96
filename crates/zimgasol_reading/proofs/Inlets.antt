-- What is left of the file of a channel, without the packets of devices.
use Rattle.std.proofs.Common.{ℕ, ◌≡◌, List, [], ◌++◌, take, Option, None, Some, refl, sym, ap, ◌∙◌, subst}
use Rattle.std.specs.Option.{option_map}
use Rattle.std.specs.Io.KnownBytes.{Keeps, Consumes, IsAtEnd, prepend_known}

-- functions that agree on all bytes give the same of bytes that are kept
pub keeps_map : (f g : List ℕ → List ℕ) (u v : Option (List ℕ)) → ((xs : List ℕ) → f xs ≡ g xs) → Keeps u v → Keeps (option_map f u) (option_map g v)
keeps_map f g None v same kept = tt
keeps_map f g (Some xs) None same kept = absurd kept
keeps_map f g (Some xs) (Some ys) same kept = sym (same ys) ∙ ap f kept

-- the bytes that wait change, and what is given of them and what follows doesn't
pub keeps_read : (f g : List ℕ → List ℕ) (old new : List ℕ) (w : Option (List ℕ)) → ((more : List ℕ) → f (old ++ more) ≡ g (new ++ more))
    → Keeps (option_map f (prepend_known old w)) (option_map g (prepend_known new w))
keeps_read f g old new None same = tt
keeps_read f g old new (Some ys) same = sym (same ys)

-- the first bytes are taken
pub consumes_taken : (f g : List ℕ → List ℕ) (old new bytes : List ℕ) (w : Option (List ℕ))
    → ((more : List ℕ) → f (old ++ more) ≡ bytes ++ g (new ++ more))
    → Consumes (option_map f (prepend_known old w)) (option_map g (prepend_known new w)) bytes
consumes_taken f g old new bytes None same = tt
consumes_taken f g old new bytes (Some ys) same = same ys

-- at the end of the file
pub keeps_at_end : (f g : List ℕ → List ℕ) (u : Option (List ℕ)) → IsAtEnd u → f [] ≡ g [] → Keeps (option_map f u) (option_map g u)
keeps_at_end f g None end same = tt
keeps_at_end f g (Some xs) end same = ap g end ∙ sym same ∙ ap f (sym end)

pub none_at_end : (g : List ℕ → List ℕ) (u : Option (List ℕ)) → IsAtEnd u → g [] ≡ [] → IsAtEnd (option_map g u)
none_at_end g None end none = tt
none_at_end g (Some xs) end none = ap g end ∙ none

pub keeps_all : (u v w : Option (List ℕ)) → Keeps u v → Keeps v w → Keeps u w
keeps_all None v w a b = tt
keeps_all (Some xs) None w a b = absurd a
keeps_all (Some xs) (Some ys) None a b = absurd b
keeps_all (Some xs) (Some ys) (Some zs) a b = b ∙ a

pub keeps_itself : (u : Option (List ℕ)) → Keeps u u
keeps_itself None = tt
keeps_itself (Some xs) = refl

-- a file before its first byte, of which nothing waits yet
pub keeps_begun : (f g : List ℕ → List ℕ) (left new : Option (List ℕ)) (waiting : List ℕ) → ((xs : List ℕ) → g xs ≡ f xs) → waiting ≡ []
    → Keeps (prepend_known waiting left) new → Keeps (option_map f left) (option_map g new)
keeps_begun f g None new waiting same none kept = tt
keeps_begun f g (Some xs) new waiting same none kept =
    keeps_map f g (Some xs) new (λ ys. sym (same ys)) (subst (λ (l : List ℕ). Keeps (prepend_known l (Some xs)) new) none kept)
