-- The stream as which a file is opened.
use Rattle.std.specs.Prelude.{ℕ, ◌≡◌, ◌+◌, List, ◌++◌, length, take, drop, Option, Some}
use Rattle.mig_mapped.specs.Front.{Front, IsFront, HasFront, mapped_front, plain_front}
use Rattle.mig_mapped.specs.Head.{MappedProgress}
use Rattle.mig_mapped.specs.declared.front.MappedFront.{MappedFront}
use Rattle.zimgasol_mapped.specs.declared.opening.Input.{Input}
use Rattle.zimgasol_mapped.specs.declared.opening.Input.TheVariants.{AsItIs, Plain}
use Rattle.zimgasol_mapped.specs.Sparse.{BeginsAt}
use Rattle.zimgasol_mapped.specs.Heads.{IsIndexOf}
use Rattle.zimgasol_mapped.specs.Plain.{plain_stream}

-- The stream is the plain one of a file with mapped-ram, whose front begins at the offset `before`.
pub record IsPlainOf (page_size : ℕ) (file stream : List ℕ) : Type 0 where
  pub before : ℕ
  pub front : Front
  pub rest : List ℕ
  pub index : MappedProgress
  pub begins : BeginsAt file before
  pub is_front : IsFront front
  pub has_front : drop before file ≡ mapped_front front ++ rest
  pub has_index : IsIndexOf file page_size (before + length (mapped_front front)) front.total index
  pub is_stream : stream ≡ plain_stream file before (plain_front front) index

-- A front is looked for in these bytes of a file: the first ones of its stream, which begins at
-- this offset.
pub record IsSearched (file : List ℕ) (before : ℕ) (bytes : List ℕ) : Type 0 where
  pub begins : BeginsAt file before
  pub are_first : bytes ≡ take 262144 (drop before file)

-- None of mapped-ram is there.
abbrev pub HasNoFront : List ℕ → Type 0
HasNoFront file = (before : ℕ) × (bytes : List ℕ) × IsSearched file before bytes × ((found : MappedFront) → HasFront bytes found → ⊥)

-- the bytes of a stream that are still to come, where they are known
abbrev pub input_left : {F : Type 0} → (F → Option (List ℕ)) → Input F → Option (List ℕ)
input_left remaining (AsItIs file) = remaining file
input_left remaining (Plain left) = left

-- A file with mapped-ram is read as the plain stream of the same memory, and any other as its own
-- bytes.
abbrev pub IsOpened : {F : Type 0} → (F → Option (List ℕ)) → ℕ → List ℕ → Input F → Type 0
IsOpened remaining page_size file (AsItIs reader) = HasNoFront file × (remaining reader ≡ Some file)
IsOpened remaining page_size file (Plain left) = (stream : List ℕ) × (left ≡ Some stream) × IsPlainOf page_size file stream
