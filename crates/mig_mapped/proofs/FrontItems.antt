-- Each item of a front is read from bytes in one way.
use Rattle.std.proofs.Common.{ℕ, ◌≡◌, ◌≢◌, ◌+◌, ◌^◌, ◌<◌, ◌≤◌, true, false, List, [], ◌∷◌, ◌++◌, length, take, drop, get_or}
use Rattle.std.proofs.Common.{refl, sym, ap, ap₂, subst, ◌∙◌, append_assoc, append-nil, arith}
use Rattle.std.specs.Int.{w32, w64, from_be_bytes}
use Rattle.std.specs.List.{flat_map, AllByRecursion}
use Rattle.std.proofs.Math.Seq.{take-append_seam, drop-append_seam}
use Rattle.std.proofs.lemmas.Nat.{from_be_bytes-to_be_bytes_4, from_be_bytes-to_be_bytes_8}
use Rattle.mig_stream.specs.Fields.{be16, be32, be64, counted}
use Rattle.mig_stream.specs.Format.{subsection_type, command_type, subsection_name, mapped_ram}
use Rattle.mig_stream.specs.Text.{file_header}
use Rattle.mig_stream.specs.Machine.{Command, command, IsCommand, SubsectionBody, PageBits, Uuid, Capabilities, IsCapability, subsection}
use Rattle.mig_mapped.specs.Front.{IsOther}
use Rattle.mig_mapped.specs.FrontParts.{BeginsWithNone, machine_bytes, IsMachine, Start, started, IsStart}

-- ---- any kind of item

-- it is read in one way
abbrev pub IsUnique : (X : Type 0) → (X → List ℕ) → (X → Type 0) → Type 0
IsUnique X spelled IsValid = (x y : X) (a b : List ℕ) → IsValid x → IsValid y → spelled x ++ a ≡ spelled y ++ b → (x ≡ y) × (a ≡ b)

-- and so are as many as there are
pub all_unique : (X : Type 0) (spelled : X → List ℕ) (IsValid : X → Type 0) → IsUnique X spelled IsValid → (xs ys : List X) (a b : List ℕ)
    → AllByRecursion IsValid xs → AllByRecursion IsValid ys → BeginsWithNone X spelled IsValid a → BeginsWithNone X spelled IsValid b
    → flat_map spelled xs ++ a ≡ flat_map spelled ys ++ b → (xs ≡ ys) × (a ≡ b)
all_unique X spelled IsValid unique [] [] a b vx vy na nb e = (refl, e)
all_unique X spelled IsValid unique [] (y ∷ ys) a b vx vy na nb e =
    absurd (na y (flat_map spelled ys ++ b) vy.0 (e ∙ append_assoc (spelled y) (flat_map spelled ys) b))
all_unique X spelled IsValid unique (x ∷ xs) [] a b vx vy na nb e =
    absurd (nb x (flat_map spelled xs ++ a) vx.0 (sym e ∙ append_assoc (spelled x) (flat_map spelled xs) a))
all_unique X spelled IsValid unique (x ∷ xs) (y ∷ ys) a b vx vy na nb e =
    let one = unique x y (flat_map spelled xs ++ a) (flat_map spelled ys ++ b) vx.0 vy.0
    (sym (append_assoc (spelled x) (flat_map spelled xs) a) ∙ e ∙ append_assoc (spelled y) (flat_map spelled ys) b) in
    let more = all_unique X spelled IsValid unique xs ys a b vx.1 vy.1 na nb one.1 in
    (ap₂ (λ (z : X) (zs : List X). z ∷ zs) one.0 more.0, more.1)

-- ---- fields

be32_unique : (n m : ℕ) (a b : List ℕ) → n < 2 ^ 32 → m < 2 ^ 32 → be32 n ++ a ≡ be32 m ++ b → (n ≡ m) × (a ≡ b)
be32_unique n m a b n_small m_small e = (
  sym (from_be_bytes-to_be_bytes_4 n n_small) ∙ ap (λ (l : List ℕ). from_be_bytes w32 (take 4 l)) e ∙ from_be_bytes-to_be_bytes_4 m m_small,
  ap (drop 4) e,
)

be64_unique : (n m : ℕ) (a b : List ℕ) → n < 2 ^ 64 → m < 2 ^ 64 → be64 n ++ a ≡ be64 m ++ b → (n ≡ m) × (a ≡ b)
be64_unique n m a b n_small m_small e = (
  sym (from_be_bytes-to_be_bytes_8 n n_small) ∙ ap (λ (l : List ℕ). from_be_bytes w64 (take 8 l)) e ∙ from_be_bytes-to_be_bytes_8 m m_small,
  ap (drop 8) e,
)

be16_unique : (n m : ℕ) (a b : List ℕ) → be16 n ++ a ≡ be16 m ++ b → (n ≡ m) × (a ≡ b)
be16_unique n m a b e = (
  omega (arith, ap (λ (l : List ℕ). get_or l 0 0) e, ap (λ (l : List ℕ). get_or l 1 0) e),
  ap (drop 2) e,
)

-- bytes of one length
same_length : (xs ys a b : List ℕ) → length xs ≡ length ys → xs ++ a ≡ ys ++ b → (xs ≡ ys) × (a ≡ b)
same_length xs ys a b len e = (
  sym (take-append_seam xs a) ∙ ap (take (length xs)) e ∙ ap (λ (n : ℕ). take n (ys ++ b)) len ∙ take-append_seam ys b,
  sym (drop-append_seam xs a) ∙ ap (drop (length xs)) e ∙ ap (λ (n : ℕ). drop n (ys ++ b)) len ∙ drop-append_seam ys b,
)

pub counted_unique : (x y a b : List ℕ) → counted x ++ a ≡ counted y ++ b → (x ≡ y) × (a ≡ b)
counted_unique x y a b e = same_length x y a b (ap (λ (l : List ℕ). get_or l 0 0) e) (ap (drop 1) e)

-- names, of which some are known
pub names_longer : (xs ys : List (List ℕ)) (a b : List ℕ) → length ys ≤ length xs → flat_map counted xs ++ a ≡ flat_map counted ys ++ b
    → (more : List (List ℕ)) × (xs ≡ ys ++ more) × (flat_map counted more ++ a ≡ b)
names_longer xs [] a b le e = (xs, refl, e)
names_longer [] (y ∷ ys) a b le e = absurd (omega (arith, le))
names_longer (x ∷ xs) (y ∷ ys) a b le e =
    let one = counted_unique x y (flat_map counted xs ++ a) (flat_map counted ys ++ b)
    (sym (append_assoc (counted x) (flat_map counted xs) a) ∙ e ∙ append_assoc (counted y) (flat_map counted ys) b) in
    let rest = names_longer xs ys a b (omega (arith, le)) one.1 in
    (rest.0, ap₂ (λ (z : List ℕ) (zs : List (List ℕ)). z ∷ zs) one.0 rest.1, rest.2)

no_more : (ys more : List (List ℕ)) → length (ys ++ more) ≡ length ys → more ≡ []
no_more [] [] e = refl
no_more [] (x ∷ more) e = absurd (omega (arith, e))
no_more (y ∷ ys) more e = no_more ys more (omega (arith, e))

pub names_unique : (xs ys : List (List ℕ)) (a b : List ℕ) → length xs ≡ length ys → flat_map counted xs ++ a ≡ flat_map counted ys ++ b
    → (xs ≡ ys) × (a ≡ b)
names_unique xs ys a b len e =
    let rest = names_longer xs ys a b (omega (arith, len)) e in
    let none : rest.0 ≡ [] = no_more ys rest.0 (sym (ap length rest.1) ∙ len) in (
      rest.1 ∙ ap (λ (l : List (List ℕ)). ys ++ l) none ∙ append-nil ys,
      sym (ap (λ (l : List (List ℕ)). flat_map counted l ++ a) none) ∙ rest.2,
    )

-- ---- the machine's name

pub machine_unique : IsUnique (List ℕ) machine_bytes IsMachine
unfolding file_header
machine_unique x y a b vx vy e =
    let one = be32_unique (length x) (length y) (x ++ a) (y ++ b) (omega (arith, vx)) (omega (arith, vy)) (ap (drop 9) e) in
    same_length x y a b one.0 one.1

-- ---- subsections

pub other_unique : IsUnique SubsectionBody subsection IsOther
unfolding subsection_name
other_unique (PageBits m) (PageBits n) a b vx vy e =
    let one = be32_unique m n a b vx vy (ap (drop 36) e) in
    (ap PageBits one.0, one.1)
other_unique (PageBits m) (Uuid v) a b vx vy e = absurd (let lens : 30 ≡ 18 = ap (λ (l : List ℕ). get_or l 1 0) e in omega (arith, lens))
other_unique (PageBits m) (Capabilities names) a b vx vy e = absurd vy
other_unique (Uuid u) (PageBits n) a b vx vy e = absurd (let lens : 18 ≡ 30 = ap (λ (l : List ℕ). get_or l 1 0) e in omega (arith, lens))
other_unique (Uuid u) (Uuid v) a b vx vy e =
    let one = same_length u v a b (vx ∙ sym vy) (ap (drop 24) e) in
    (ap Uuid one.0, one.1)
other_unique (Uuid u) (Capabilities names) a b vx vy e = absurd vy
other_unique (Capabilities names) y a b vx vy e = absurd vx

pub capabilities_unique : (xs ys : List (List ℕ)) (a b : List ℕ) → length xs < 2 ^ 32 → length ys < 2 ^ 32
    → subsection (Capabilities xs) ++ a ≡ subsection (Capabilities ys) ++ b → (xs ≡ ys) × (a ≡ b)
unfolding subsection_name
capabilities_unique xs ys a b x_small y_small e =
    let one = be32_unique (length xs) (length ys) (flat_map counted xs ++ a) (flat_map counted ys ++ b) x_small y_small (ap (drop 32) e) in
    names_unique xs ys a b one.0 one.1

-- no other subsection begins where one with capabilities does
pub none_at_capabilities : (names : List (List ℕ)) (rest : List ℕ) → BeginsWithNone SubsectionBody subsection IsOther (subsection (Capabilities names) ++ rest)
unfolding subsection_name
none_at_capabilities names rest (PageBits bits) more v e = let lens : 26 ≡ 30 = ap (λ (l : List ℕ). get_or l 1 0) e in omega (arith, lens)
none_at_capabilities names rest (Uuid uuid) more v e = let lens : 26 ≡ 18 = ap (λ (l : List ℕ). get_or l 1 0) e in omega (arith, lens)
none_at_capabilities names rest (Capabilities others) more v e = v

-- or where another byte is
pub none_at_byte : (bytes : List ℕ) → get_or bytes 0 0 ≢ subsection_type → BeginsWithNone SubsectionBody subsection IsOther bytes
none_at_byte bytes isnt x more v e = isnt (ap (λ (l : List ℕ). get_or l 0 0) e)

-- ---- COMMANDs

pub command_unique : IsUnique Command command IsCommand
command_unique x y a b vx vy e =
    let number = be16_unique x.number y.number (be16 (length x.carried) ++ (x.carried ++ a)) (be16 (length y.carried) ++ (y.carried ++ b)) (ap (drop 1) e) in
    let len = be16_unique (length x.carried) (length y.carried) (x.carried ++ a) (y.carried ++ b) number.1 in
    let carried = same_length x.carried y.carried a b len.0 len.1 in
    (ap₂ (λ (n : ℕ) (l : List ℕ). record { number = n; carried = l }) number.0 carried.0, carried.1)

pub none_at_other_byte : (bytes : List ℕ) → get_or bytes 0 0 ≢ command_type → BeginsWithNone Command command IsCommand bytes
none_at_other_byte bytes isnt x more v e = isnt (ap (λ (l : List ℕ). get_or l 0 0) e)

-- ---- START

pub start_unique : IsUnique Start started IsStart
start_unique x y a b vx vy e =
    let id = be32_unique x.id y.id _ _ vx.has_id vy.has_id (ap (drop 1) e) in
    let total = be64_unique (x.total + 4) (y.total + 4) a b
    (omega (arith, vx.has_total.is_limited)) (omega (arith, vy.has_total.is_limited)) (ap (drop 17) e) in
    (ap₂ (λ (n m : ℕ). record { id = n; total = m }) id.0 (omega (arith, total.0)), total.1)

-- ---- the names of capabilities

pub mapped_alone : IsCapability mapped_ram → ⊥
unfolding mapped_ram
mapped_alone is = let two : true ≡ false = is.isnt_mapped in absurd cc

pub named_unique : (xs ys a b : List (List ℕ)) → AllByRecursion IsCapability xs → AllByRecursion IsCapability ys
    → xs ++ mapped_ram ∷ a ≡ ys ++ mapped_ram ∷ b → (xs ≡ ys) × (a ≡ b)
named_unique [] [] a b vx vy e = (refl, ap (drop 1) e)
named_unique [] (y ∷ ys) a b vx vy e =
    let same : mapped_ram ≡ y = ap (λ (l : List (List ℕ)). get_or l 0 []) e in
    absurd (mapped_alone (subst IsCapability (sym same) vy.0))
named_unique (x ∷ xs) [] a b vx vy e =
    let same : x ≡ mapped_ram = ap (λ (l : List (List ℕ)). get_or l 0 []) e in
    absurd (mapped_alone (subst IsCapability same vx.0))
named_unique (x ∷ xs) (y ∷ ys) a b vx vy e =
    let more = named_unique xs ys a b vx.1 vy.1 (ap (drop 1) e) in
    (ap₂ (λ (z : List ℕ) (zs : List (List ℕ)). z ∷ zs) (ap (λ (l : List (List ℕ)). get_or l 0 []) e) more.0, more.1)
