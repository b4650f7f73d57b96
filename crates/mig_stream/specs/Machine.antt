-- Machines' streams, as QEMU writes them, up to the footer of RAM's END
-- (`qemu_savevm_state_header`, `vmstate_configuration`, `qemu_savevm_command_send` and
-- `qemu_savevm_state_setup` in `migration/savevm.c`). A background snapshot (`bg_migration_thread`
-- in `migration/migration.c`) has no END: RAM is over where the first device's section begins.
use Rattle.std.specs.Prelude.{◌≡◌, ◌⊎◌, ℕ, ◌+◌, ◌%◌, ◌<◌, ◌≤◌, ◌^◌, Bool, true, false, if◌then◌else◌, List, [], ◌∷◌, ◌++◌, length, Option, None, Some, IfSome, ⊤}
use Rattle.std.specs.List.{flat_map, list_any, AllByRecursion}
use Rattle.std.specs.Str.{bytes_eq}
use Rattle.mig_mem.specs.RamTable.{Block, RamTable, IsTable}
use Rattle.mig_stream.specs.declared.item.Mode.{Mode}
use Rattle.mig_stream.specs.declared.item.Mode.TheVariants.{Single}
use Rattle.mig_stream.specs.declared.item.Section.TheVariants.{Part, End}
use Rattle.mig_stream.specs.declared.item.Subsection.{Subsection}
use Rattle.mig_stream.specs.declared.item.Subsection.TheVariants as kind
use Rattle.mig_stream.specs.declared.item.EntryForm.{EntryForm}
use Rattle.mig_stream.specs.declared.item.EntryForm.TheVariants.{Plain, Addressed, Sized}
use Rattle.mig_stream.specs.declared.item.RecordKind.TheVariants.{SizeList}
use Rattle.mig_stream.specs.Fields.{be16, be32, be64, counted}
use Rattle.mig_stream.specs.Format.{command_type, full_type, early_name, early_version, subsection_type, subsection_name, subsection_version, ignore_shared, mapped_ram, least_page_size, flags_of, most_name_bytes}
use Rattle.mig_stream.specs.Items.{is_passed_command, allows_postcopy, plugged_words}
use Rattle.mig_stream.specs.PageRecord.{PageRecord}
use Rattle.mig_stream.specs.Text.{Record, Follow, all_records, body, footer, section, AreRounds, entry, total_bytes, file_header, configuration, start_head}

-- ---- COMMANDs

-- the number of a COMMAND, and its data
pub record Command : Type 0 where
  pub number : ℕ
  pub carried : List ℕ

abbrev pub command_bytes : Command → List ℕ
command_bytes c = be16 c.number ++ be16 (length c.carried) ++ c.carried

abbrev pub command : Command → List ℕ
command c = command_type ∷ command_bytes c

-- a COMMAND that is passed over
pub record IsCommand (c : Command) : Type 0 where
  pub has_number : is_passed_command c.number ≡ true
  pub has_length : length c.carried < 2 ^ 16

-- it allows postcopy of RAM
abbrev pub is_advise : Command → Bool
is_advise c = allows_postcopy c.number (length c.carried)

-- ---- a device's section before RAM's pages

-- What virtio-mem writes whole before RAM's pages (`vmstate_virtio_mem_device_early` in
-- `hw/virtio/virtio-mem.c`): the path of the device; the address and the size of its region, the
-- size of its blocks, its NUMA node, and how many bytes are plugged; and a bit for each block, in
-- words of 64 bits (`put_bitmap` in `migration/vmstate-types.c`): whether the block is plugged.
pub record EarlyState : Type 0 where
  pub id : ℕ
  pub path : List ℕ
  pub instance_id : ℕ
  pub address : ℕ
  pub region : ℕ
  pub block_size : ℕ
  pub node : ℕ
  pub plugged : ℕ
  pub words : List ℕ

abbrev pub early_head : EarlyState → List ℕ
early_head e = be32 e.id ++ counted (e.path ++ early_name) ++ be32 e.instance_id ++ be32 early_version

abbrev pub early_numbers : EarlyState → List ℕ
early_numbers e = be64 e.address ++ be64 e.region ++ be64 e.block_size ++ be32 e.node ++ be64 e.plugged

abbrev pub early_bytes : EarlyState → List ℕ
early_bytes e = early_head e ++ early_numbers e ++ flat_map be64 e.words ++ footer e.id

abbrev pub early_state : EarlyState → List ℕ
early_state e = full_type ∷ early_bytes e

-- Its region has a word for each 64 blocks. Its other numbers may be any, and so may each word.
pub record IsEarlyState (e : EarlyState) : Type 0 where
  pub has_id : e.id < 2 ^ 32
  pub has_name : length (e.path ++ early_name) < 2 ^ 8
  pub has_region : e.region < 2 ^ 64
  pub has_blocks : 0 < e.block_size
  pub has_block_size : e.block_size < 2 ^ 64
  pub has_words : length e.words ≡ plugged_words e.region e.block_size

-- ---- what is passed over: COMMANDs, and that device's section

pub data PassedSection : Type 0 where
  CommandOf : Command → PassedSection
  EarlyOf : EarlyState → PassedSection

abbrev pub passed_section : PassedSection → List ℕ
passed_section (CommandOf c) = command c
passed_section (EarlyOf e) = early_state e

-- The device's section stands there only if no PART has come yet.
abbrev pub IsPassedSection : Bool → PassedSection → Type 0
IsPassedSection before_parts (CommandOf c) = IsCommand c
IsPassedSection before_parts (EarlyOf e) = (before_parts ≡ true) × IsEarlyState e

abbrev pub has_advise : PassedSection → Bool
has_advise (CommandOf c) = is_advise c
has_advise (EarlyOf e) = false

-- ---- the configuration

-- The content of a subsection of the configuration: the bits of a page's offset, the machine's
-- UUID, or the names of capabilities.
pub data SubsectionBody : Type 0 where
  PageBits : ℕ → SubsectionBody
  Uuid : List ℕ → SubsectionBody
  Capabilities : List (List ℕ) → SubsectionBody

abbrev pub kind_of : SubsectionBody → Subsection
kind_of (PageBits bits) = kind.PageBits
kind_of (Uuid uuid) = kind.Uuid
kind_of (Capabilities names) = kind.Capabilities

abbrev pub body_bytes : SubsectionBody → List ℕ
body_bytes (PageBits bits) = be32 bits
body_bytes (Uuid uuid) = uuid
body_bytes (Capabilities names) = be32 (length names) ++ flat_map counted names

-- a capability with which RAM's section is read
pub record IsCapability (name : List ℕ) : Type 0 where
  pub has_length : length name < 2 ^ 8
  pub isnt_mapped : bytes_eq name mapped_ram ≡ false

-- A valid content of a subsection, in a stream with this page size: a page has 2^bits bytes.
abbrev pub IsSubsectionBody : ℕ → SubsectionBody → Type 0
IsSubsectionBody page_size (PageBits bits) = bits < 2 ^ 32 × (2 ^ bits ≡ page_size)
IsSubsectionBody page_size (Uuid uuid) = length uuid ≡ 16
IsSubsectionBody page_size (Capabilities names) = length names < 2 ^ 32 × AllByRecursion IsCapability names

abbrev pub subsection_head : Subsection → List ℕ
subsection_head kind = counted (subsection_name kind) ++ be32 subsection_version

abbrev pub subsection : SubsectionBody → List ℕ
subsection h = subsection_type ∷ (subsection_head (kind_of h) ++ body_bytes h)

-- the machine's name, and the subsections after it
pub record Configuration : Type 0 where
  pub name : List ℕ
  pub subsections : List SubsectionBody

abbrev pub configured : Option Configuration → List ℕ
configured None = []
configured (Some c) = configuration (Some c.name) ++ flat_map subsection c.subsections

pub record IsConfiguration (page_size : ℕ) (c : Configuration) : Type 0 where
  pub has_name : length c.name ≤ most_name_bytes
  pub are_bodies : AllByRecursion (IsSubsectionBody page_size) c.subsections

-- ---- the size list

-- these names of capabilities have "x-ignore-shared"
abbrev pub ignore_shared_in : List (List ℕ) → Bool
ignore_shared_in names = list_any (λ name. bytes_eq name ignore_shared) names

abbrev pub names_shared : SubsectionBody → Bool
names_shared (PageBits bits) = false
names_shared (Uuid uuid) = false
names_shared (Capabilities names) = ignore_shared_in names

-- the configuration names "x-ignore-shared"
abbrev pub ignores_shared : Option Configuration → Bool
ignores_shared None = false
ignores_shared (Some c) = list_any names_shared c.subsections

-- The form of the size list, by the configuration and what is passed over before START.
abbrev pub form_of : Option Configuration → List PassedSection → EntryForm
form_of machine opening =
    if list_any has_advise opening then Sized else
    if ignores_shared machine then Addressed else Plain

-- the page size of a block, in a number of 8 bytes whose first byte is 0
pub record IsBlockPageSize (size : ℕ) : Type 0 where
  pub is_some : 0 < size
  pub is_multiple : size % least_page_size ≡ 0
  pub fits : size < 2 ^ 56

-- What follows the length of a block in its entry: nothing, or the 8 bytes of its guest address, or
-- those of its page size, which is there only if it isn't the host's.
abbrev pub IsTail : EntryForm → List ℕ → Type 0
IsTail Plain tail = tail ≡ []
IsTail Addressed tail = length tail ≡ 8
IsTail Sized tail = (tail ≡ []) ⊎ ((size : ℕ) × (tail ≡ be64 size) × IsBlockPageSize size)

-- the entries of blocks, each with its tail
abbrev pub entries : ℕ → List Block → List (List ℕ) → List ℕ
entries page_size [] tails = []
entries page_size (b ∷ blocks) [] = []
entries page_size (b ∷ blocks) (tail ∷ tails) = entry page_size b ++ (tail ++ entries page_size blocks tails)

-- a size list whose entries have these tails
unfoldable pub tailed_list : RamTable → List (List ℕ) → List ℕ
tailed_list table tails = be64 (total_bytes table + flags_of SizeList) ++ entries table.page_size table.blocks tails

-- ---- between START and END: PARTs, and what is passed over

pub data PartOrPassed : Type 0 where
  PartOf : List Record → PartOrPassed
  PassedOf : PassedSection → PartOrPassed

abbrev pub part_or_passed : RamTable → ℕ → PartOrPassed → List ℕ
part_or_passed table id (PartOf records) = section table Part id records
part_or_passed table id (PassedOf x) = passed_section x

-- These may stand there, before the first PART or after it.
abbrev pub AreBetween : Bool → List PartOrPassed → Type 0
AreBetween before_parts [] = ⊤
AreBetween before_parts (PartOf records ∷ others) = AreBetween false others
AreBetween before_parts (PassedOf x ∷ others) = IsPassedSection before_parts x × AreBetween before_parts others

-- the records of the PARTs alone
abbrev pub parts_of : List PartOrPassed → List (List Record)
parts_of [] = []
parts_of (PartOf records ∷ others) = records ∷ parts_of others
parts_of (PassedOf x ∷ others) = parts_of others

-- ---- the complete stream

-- The bytes are a machine's stream up to the footer of RAM's END: file header, configuration with
-- subsections or none, what is passed over, START with the size list, PARTs and what is passed
-- over, and END, each section of RAM with any records. What stands before START says what follows
-- the entries of the size list.
pub record IsMachineText (mode : Mode) (limit : ℕ) (text : List ℕ) (table : RamTable) (rounds : List (List PageRecord)) : Type 0 where
  pub id : ℕ
  pub machine : Option Configuration
  pub opening : List PassedSection
  pub tails : List (List ℕ)
  pub first : List Record
  pub others : List PartOrPassed
  pub last : List Record
  pub is_spelled : text ≡ file_header ++ configured machine ++ flat_map passed_section opening
      ++ start_head id ++ tailed_list table tails ++ body table id first
      ++ flat_map (part_or_passed table id) others
      ++ section table End id last
  pub has_table : IsTable table
  pub has_limit : total_bytes table ≤ limit
  pub has_id : id < 2 ^ 32
  pub has_machine : IfSome machine (IsConfiguration table.page_size)
  pub is_opening : AllByRecursion (IsPassedSection true) opening
  -- QEMU doesn't allow both at once
  pub is_one_form : ignores_shared machine ≡ true → list_any has_advise opening ≡ false
  pub has_tails : length tails ≡ length table.blocks
  pub are_tails : AllByRecursion (IsTail (form_of machine opening)) tails
  pub are_others : AreBetween true others
  pub follow : Follow table None (first ++ all_records (parts_of others) ++ last)
  pub has_rounds : AreRounds mode (first ∷ parts_of others ++ last ∷ []) rounds

-- The bytes are the RAM of a background snapshot: with an END of no records after them they are a
-- machine's single stream. Beside START there is a PART. The stream itself has no END.
pub record IsSnapshotText (mode : Mode) (limit : ℕ) (text : List ℕ) (table : RamTable) (rounds : List (List PageRecord)) : Type 0 where
  pub id : ℕ
  pub is_single : mode ≡ Single
  pub with_end : IsMachineText mode limit (text ++ section table End id []) table (rounds ++ [] ∷ [])
  pub has_part : 2 ≤ length rounds
