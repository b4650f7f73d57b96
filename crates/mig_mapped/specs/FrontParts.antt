-- How the code finds the parts of a front, one after another. Only private contracts cite it.
use Rattle.std.specs.Prelude.{ℕ, ◌≡◌, ◌+◌, ◌<◌, ◌≤◌, ◌^◌, List, ◌∷◌, ◌++◌, length, Option, Some, None}
use Rattle.std.specs.List.{flat_map, AllByRecursion}
use Rattle.mig_stream.specs.Fields.{counted}
use Rattle.mig_stream.specs.Format.{mapped_ram, most_name_bytes}
use Rattle.mig_stream.specs.Text.{file_header, configuration}
use Rattle.mig_stream.specs.Machine.{Capabilities, IsCapability, subsection}
use Rattle.mig_mapped.specs.declared.front.MappedFront.{MappedFront}
use Rattle.mig_mapped.specs.declared.front.NameList.{NameList}
use Rattle.mig_mapped.specs.Front.{IsTotal, start_bytes}

-- ---- an item, and items of one kind

-- These bytes begin with a valid item, which has this many bytes.
pub record Begins (X : Type 0) (spelled : X → List ℕ) (IsValid : X → Type 0) (bytes : List ℕ) (len : ℕ) : Type 0 where
  pub item : X
  pub rest : List ℕ
  pub is_valid : IsValid item
  pub is_spelled : bytes ≡ spelled item ++ rest
  pub has_len : len ≡ length (spelled item)

abbrev pub BeginsWithNone : (X : Type 0) → (X → List ℕ) → (X → Type 0) → List ℕ → Type 0
BeginsWithNone X spelled IsValid bytes = (item : X) (rest : List ℕ) → IsValid item → bytes ≡ spelled item ++ rest → ⊥

-- These bytes begin with valid items, which have this many bytes, and no other one follows.
pub record BeginsWithAll (X : Type 0) (spelled : X → List ℕ) (IsValid : X → Type 0) (bytes : List ℕ) (len : ℕ) : Type 0 where
  pub items : List X
  pub rest : List ℕ
  pub are_valid : AllByRecursion IsValid items
  pub is_spelled : bytes ≡ flat_map spelled items ++ rest
  pub has_len : len ≡ length (flat_map spelled items)
  pub are_all : BeginsWithNone X spelled IsValid rest

-- ---- the kinds of items

-- the file header, and the configuration up to its subsections
abbrev pub machine_bytes : List ℕ → List ℕ
machine_bytes name = file_header ++ configuration (Some name)

abbrev pub IsMachine : List ℕ → Type 0
IsMachine name = length name ≤ most_name_bytes

-- RAM's START: the section id, and the total
pub record Start : Type 0 where
  pub id : ℕ
  pub total : ℕ

abbrev pub started : Start → List ℕ
started s = start_bytes s.id s.total

pub record IsStart (s : Start) : Type 0 where
  pub has_id : s.id < 2 ^ 32
  pub has_total : IsTotal s.total

abbrev pub HasTotal : List ℕ → ℕ → Type 0
HasTotal bytes total = (id : ℕ) × (rest : List ℕ) × IsStart (record { id = id; total = total }) × (bytes ≡ start_bytes id total ++ rest)

-- ---- the offsets of a front

-- they lie in these bytes, one after another
pub record LiesIn (bytes : List ℕ) (front : MappedFront) : Type 0 where
  pub has_list : front.subsection ≤ front.count
  pub has_name : front.count + 4 ≤ front.name
  pub has_rest : front.name + 11 ≤ front.place
  pub has_place : front.place ≤ length bytes
  pub has_capability : 0 < front.capabilities

-- ---- the names of capabilities

-- the place of the first name in the subsection
abbrev pub names_at : ℕ
names_at = 36

-- `mapped-ram` is one of these names, at this place if the first name is at `from`
pub record IsNamed (names : List (List ℕ)) (from place : ℕ) : Type 0 where
  pub before : List (List ℕ)
  pub after : List (List ℕ)
  pub are_names : names ≡ before ++ mapped_ram ∷ after
  pub are_before : AllByRecursion IsCapability before
  pub are_after : AllByRecursion IsCapability after
  pub has_place : place ≡ from + length (flat_map counted before)

-- or at no place
abbrev pub MayBeNamed : List (List ℕ) → ℕ → Option ℕ → Type 0
MayBeNamed names from None = AllByRecursion IsCapability names
MayBeNamed names from (Some place) = IsNamed names from place

-- The names at the front of some bytes, after which the rest follows.
pub record AreNames (names : List (List ℕ)) (rest bytes : List ℕ) (found : NameList) : Type 0 where
  pub is_spelled : bytes ≡ flat_map counted names ++ rest
  pub has_len : found.len ≡ names_at + length (flat_map counted names)
  pub has_count : found.count ≡ length names
  pub is_named : MayBeNamed names names_at found.mapped

abbrev pub HasNames : ℕ → List ℕ → NameList → Type 0
HasNames count bytes found = (names : List (List ℕ)) × (rest : List ℕ) × (length names ≡ count) × AreNames names rest bytes found

abbrev pub HasNoNames : ℕ → List ℕ → Type 0
HasNoNames count bytes = (names : List (List ℕ)) (rest : List ℕ) (found : NameList) → length names ≡ count → AreNames names rest bytes found → ⊥

-- The subsection with capabilities at the front of some bytes, after which the rest follows.
pub record IsCapabilities (names : List (List ℕ)) (rest bytes : List ℕ) (found : NameList) : Type 0 where
  pub is_spelled : bytes ≡ subsection (Capabilities names) ++ rest
  pub is_short : length names < 2 ^ 32
  pub has_len : found.len ≡ length (subsection (Capabilities names))
  pub has_count : found.count ≡ length names
  pub is_named : MayBeNamed names names_at found.mapped

abbrev pub HasCapabilities : List ℕ → NameList → Type 0
HasCapabilities bytes found = (names : List (List ℕ)) × (rest : List ℕ) × IsCapabilities names rest bytes found

abbrev pub HasNoCapabilities : List ℕ → Type 0
HasNoCapabilities bytes = (names : List (List ℕ)) (rest : List ℕ) (found : NameList) → IsCapabilities names rest bytes found → ⊥
