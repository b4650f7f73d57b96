-- The front of a file with mapped-ram, and its end. The front is what comes before the first entry
-- of the size list. It is that of a machine's stream (`mig_stream`, `Machine`), whose configuration
-- names `mapped-ram` among its capabilities.
use Rattle.std.specs.Prelude.{ℕ, ◌≡◌, ◌≢◌, ◌+◌, ◌%◌, ◌<◌, ◌≤◌, ◌^◌, List, [], ◌∷◌, ◌++◌, length, slice_index, Some, ⊤}
use Rattle.std.specs.List.{flat_map, AllByRecursion}
use Rattle.mig_mem.specs.RamTable.{RamTable}
use Rattle.mig_stream.specs.declared.item.RecordKind.TheVariants.{SizeList}
use Rattle.mig_stream.specs.declared.item.Subsection.TheVariants as kind
use Rattle.mig_stream.specs.Fields.{be64, counted}
use Rattle.mig_stream.specs.Format.{subsection_type, mapped_ram, flags_of, least_page_size, most_name_bytes}
use Rattle.mig_stream.specs.Text.{body, file_header, start_head}
use Rattle.mig_stream.specs.Written.{written_id, closing}
use Rattle.mig_stream.specs.Machine.{Command, command, IsCommand, SubsectionBody, PageBits, Uuid, Capabilities, IsCapability, subsection_head}
use Rattle.mig_stream.specs.Machine.{configured}
use Rattle.mig_mapped.specs.declared.front.MappedFront.{MappedFront}

-- ---- the front

-- The machine's name; the subsections of its configuration before and after that of the
-- capabilities, and the names of the capabilities before and after `mapped-ram`; the COMMANDs; the
-- section id of RAM's START; and how many bytes the blocks have together.
pub record Front : Type 0 where
  pub machine : List ℕ
  pub before : List SubsectionBody
  pub names_before : List (List ℕ)
  pub names_after : List (List ℕ)
  pub after : List SubsectionBody
  pub commands : List Command
  pub id : ℕ
  pub total : ℕ

-- a subsection that has no capabilities
abbrev pub IsOther : SubsectionBody → Type 0
IsOther (PageBits bits) = bits < 2 ^ 32
IsOther (Uuid uuid) = length uuid ≡ 16
IsOther (Capabilities names) = ⊥

-- what the blocks of a guest have together: some pages, and at most 1 TiB
pub record IsTotal (total : ℕ) : Type 0 where
  pub is_some : 0 < total
  pub is_whole : total % least_page_size ≡ 0
  pub is_limited : total ≤ 2 ^ 40

-- `mapped-ram` is named once, and one subsection has capabilities.
pub record IsFront (f : Front) : Type 0 where
  pub has_machine : length f.machine ≤ most_name_bytes
  pub are_before : AllByRecursion IsOther f.before
  pub are_after : AllByRecursion IsOther f.after
  pub are_names_before : AllByRecursion IsCapability f.names_before
  pub are_names_after : AllByRecursion IsCapability f.names_after
  pub has_count : length f.names_before + length f.names_after + 1 < 2 ^ 32
  pub are_commands : AllByRecursion IsCommand f.commands
  pub has_id : f.id < 2 ^ 32
  pub has_total : IsTotal f.total

-- the file header, and a machine's configuration
abbrev pub configured_as : List ℕ → List SubsectionBody → List ℕ
configured_as machine subsections = file_header ++ configured (Some (record { name = machine; subsections = subsections }))

-- RAM's START up to the total
abbrev pub start_bytes : ℕ → ℕ → List ℕ
start_bytes id total = start_head id ++ be64 (total + flags_of SizeList)

-- a front with this subsection for the capabilities, or with none
abbrev pub front_with : Front → List SubsectionBody → List ℕ
front_with f capabilities =
    configured_as f.machine (f.before ++ capabilities ++ f.after) ++ flat_map command f.commands ++ start_bytes f.id f.total

abbrev pub mapped_names : Front → List (List ℕ)
mapped_names f = f.names_before ++ mapped_ram ∷ f.names_after

-- the front of the file
abbrev pub mapped_front : Front → List ℕ
mapped_front f = front_with f (Capabilities (mapped_names f) ∷ [])

-- the subsection of these capabilities, which isn't there if there are none
abbrev pub subsection_of : List (List ℕ) → List SubsectionBody
subsection_of [] = []
subsection_of (name ∷ names) = Capabilities (name ∷ names) ∷ []

-- the front of a plain stream of the same guest
abbrev pub plain_front : Front → List ℕ
plain_front f = front_with f (subsection_of (f.names_before ++ f.names_after))

-- ---- where its parts are

abbrev pub subsection_offset : Front → ℕ
subsection_offset f = length (configured_as f.machine f.before)

abbrev pub count_offset : Front → ℕ
count_offset f = subsection_offset f + length (subsection_type ∷ subsection_head kind.Capabilities)

abbrev pub name_offset : Front → ℕ
name_offset f = count_offset f + 4 + length (flat_map counted f.names_before)

abbrev pub offsets : Front → MappedFront
offsets f = record {
  place = length (mapped_front f);
  total = f.total;
  subsection = subsection_offset f;
  count = count_offset f;
  capabilities = length (mapped_names f);
  name = name_offset f;
}

-- these bytes begin with a front, whose parts are at these offsets
pub record BeginsWith (f : Front) (bytes : List ℕ) (found : MappedFront) : Type 0 where
  pub is_front : IsFront f
  pub rest : List ℕ
  pub is_spelled : bytes ≡ mapped_front f ++ rest
  pub has_offsets : found ≡ offsets f

abbrev pub HasFront : List ℕ → MappedFront → Type 0
HasFront bytes found = (f : Front) × BeginsWith f bytes found

-- ---- a plain stream's configuration

-- Each subsection may be there. At most one has capabilities, none of which is `mapped-ram`, and
-- there is room for one more.
abbrev pub IsPlain : List SubsectionBody → Type 0
IsPlain [] = ⊤
IsPlain (PageBits bits ∷ others) = bits < 2 ^ 32 × IsPlain others
IsPlain (Uuid uuid ∷ others) = (length uuid ≡ 16) × IsPlain others
IsPlain (Capabilities names ∷ others) = length names + 1 < 2 ^ 32 × AllByRecursion IsCapability names × AllByRecursion IsOther others

-- with `mapped-ram` after the other capabilities, or in a last subsection
abbrev pub with_mapped : List SubsectionBody → List SubsectionBody
with_mapped [] = Capabilities (mapped_ram ∷ []) ∷ []
with_mapped (PageBits bits ∷ others) = PageBits bits ∷ with_mapped others
with_mapped (Uuid uuid ∷ others) = Uuid uuid ∷ with_mapped others
with_mapped (Capabilities names ∷ others) = Capabilities (names ++ mapped_ram ∷ []) ∷ others

-- These bytes begin with a plain stream's configuration, after which no other subsection begins.
pub record IsConfigured (machine : List ℕ) (subsections : List SubsectionBody) (rest bytes : List ℕ) : Type 0 where
  pub has_machine : length machine ≤ most_name_bytes
  pub are_plain : IsPlain subsections
  pub is_spelled : bytes ≡ configured_as machine subsections ++ rest
  pub is_last : slice_index rest 0 ≢ subsection_type

-- the same bytes with the capability
abbrev pub AddsCapability : List ℕ → List ℕ → Type 0
AddsCapability bytes added =
    (machine : List ℕ) × (subsections : List SubsectionBody) × (rest : List ℕ) × IsConfigured machine subsections rest bytes
    × (added ≡ configured_as machine (with_mapped subsections) ++ rest)

abbrev pub HasNoPlace : List ℕ → Type 0
HasNoPlace bytes = (machine : List ℕ) (subsections : List SubsectionBody) (rest : List ℕ) → IsConfigured machine subsections rest bytes → ⊥

-- ---- what is written

-- a machine's front without other state
abbrev pub alone : List ℕ → ℕ → Front
alone machine total = record {
  machine = machine;
  before = [];
  names_before = [];
  names_after = [];
  after = [];
  commands = [];
  id = written_id;
  total = total;
}

-- what follows the last block's pages: the end of START, END, and the end byte
abbrev pub end_bytes : RamTable → List ℕ
end_bytes table = body table written_id [] ++ closing table
