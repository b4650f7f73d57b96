-- The items of a stream: how long each is, which faults it may have, and how far the stream has
-- been read after it.
use Rattle.std.specs.Prelude.{ℕ, ◌+◌, ◌-◌, ◌*◌, ◌/◌, ◌%◌, ◌^◌, Bool, true, false, not, ◌&&◌, ◌||◌, nat_lt, nat_le, ◌==◌, if◌then◌else◌, List, [], ◌∷◌, ◌++◌, length, slice_index, slice_range, find, nat_eq, Option, Some, None, is_none, is_some}
use Rattle.std.specs.Option.{unwrap_or}
use Rattle.std.specs.List.{list_any, ends_with}
use Rattle.std.specs.Int.{div_ceil}
use Rattle.std.specs.Str.{bytes_eq}
use Rattle.mig_mem.specs.declared.place.Place.{Place}
use Rattle.mig_mem.specs.Place.{place_at}
use Rattle.mig_mem.specs.First.{first_of}
use Rattle.mig_mem.specs.RamTable.{Block, block, block_of, is_id, max_blocks}
use Rattle.mig_stream.specs.declared.fault.StreamFault.{StreamFault}
use Rattle.mig_stream.specs.declared.fault.StreamFault.TheVariants as fault
use Rattle.mig_stream.specs.declared.item.Frame.{Frame}
use Rattle.mig_stream.specs.declared.item.Frame.TheVariants.{Ram, Machine}
use Rattle.mig_stream.specs.declared.item.Mode.{Mode}
use Rattle.mig_stream.specs.declared.item.Mode.TheVariants.{Single, Main, MainBySection, MainAsShown}
use Rattle.mig_stream.specs.declared.item.Section.{Section}
use Rattle.mig_stream.specs.declared.item.Section.TheVariants as section
use Rattle.mig_stream.specs.declared.item.Before.{Before}
use Rattle.mig_stream.specs.declared.item.Before.TheVariants as before
use Rattle.mig_stream.specs.declared.item.Filling.TheVariants.{Zero, Normal}
use Rattle.mig_stream.specs.declared.item.RecordKind.{RecordKind}
use Rattle.mig_stream.specs.declared.item.RecordKind.TheVariants.{SizeList, Named, Continued, EndOfSection, Flush}
use Rattle.mig_stream.specs.declared.item.Subsection.{Subsection}
use Rattle.mig_stream.specs.declared.item.Subsection.TheVariants.{PageBits, Uuid, Capabilities}
use Rattle.mig_stream.specs.declared.item.EntryForm.{EntryForm}
use Rattle.mig_stream.specs.declared.item.EntryForm.TheVariants.{Plain, Addressed, Sized}
use Rattle.mig_stream.specs.declared.item.PassedItem.{PassedItem}
use Rattle.mig_stream.specs.declared.item.PassedItem.TheVariants.{Command, SubsectionHead, SubsectionBody, Capability, Address, Early}
use Rattle.mig_stream.specs.declared.item.EarlyPart.{EarlyPart}
use Rattle.mig_stream.specs.declared.item.EarlyPart.TheVariants as early
use Rattle.mig_stream.specs.declared.item.Due.{Due}
use Rattle.mig_stream.specs.declared.item.Due.TheVariants.{FileHeader, TypeByte, ConfigLength, ConfigName, StartHead, SectionHead, RecordHead, ListEntry, PageSize, BlockName, Content, Footer, Passed, Nothing}
use Rattle.mig_stream.specs.Fields.{be16_at, be32_at, be64_at}
use Rattle.mig_stream.specs.Format.{magic, version, end_byte, section_type, full_type, subsection_type, command_type, configuration_type, footer_type, early_name, early_version, subsection_name, subsections, subsection_version, ignore_shared, mapped_ram, advise_command, advise_bytes, least_page_size, passed_commands, ram_name, ram_instance, ram_version, flags_of, record_kinds, most_name_bytes}
use Rattle.mig_stream.specs.PageRecord.{PageRecord}
use Rattle.mig_stream.specs.Progress.{StreamProgress}

-- ---- the length of an item, by its first bytes

-- the length of a part of virtio-mem's early state
abbrev pub early_size : EarlyPart → List ℕ → ℕ
early_size early.Head bytes = 13 + slice_index bytes 4
early_size (early.Numbers id) bytes = 36
early_size (early.Plugged id others) bytes = 8
early_size (early.Footer id) bytes = 5

-- the length of an item that is passed over
abbrev pub passed_size : PassedItem → List ℕ → ℕ
passed_size (Command before) bytes = 4 + be16_at 2 bytes
passed_size SubsectionHead bytes = 5 + slice_index bytes 0
passed_size (SubsectionBody PageBits) bytes = 4
passed_size (SubsectionBody Uuid) bytes = 16
passed_size (SubsectionBody Capabilities) bytes = 4
passed_size (Capability others) bytes = 1 + slice_index bytes 0
passed_size (Address last) bytes = 8
passed_size (Early before part) bytes = early_size part bytes

abbrev pub size : ℕ → Due → List ℕ → ℕ
size page_size FileHeader bytes = 8
size page_size (TypeByte before) bytes = 1
size page_size ConfigLength bytes = 4
size page_size (ConfigName len) bytes = len
size page_size StartHead bytes = 13 + slice_index bytes 4
size page_size SectionHead bytes = 4
size page_size RecordHead bytes = 8
size page_size ListEntry bytes = 9 + slice_index bytes 0
size page_size (PageSize true) bytes = 8
size page_size (PageSize false) bytes = if slice_index bytes 0 == 0 then 8 else 9 + slice_index bytes 0
size page_size (BlockName filling page) bytes = 1 + slice_index bytes 0
size page_size (Content Zero place) bytes = 1
size page_size (Content Normal place) bytes = page_size
size page_size Footer bytes = 5
size page_size (Passed passed) bytes = passed_size passed bytes
size page_size Nothing bytes = 0

-- ---- the fields of an item

-- the id after a length byte
abbrev pub id_in : List ℕ → List ℕ
id_in item = slice_range item 1 (1 + slice_index item 0)

-- the length of a block in an entry of the size list
abbrev pub length_in : List ℕ → ℕ
length_in item = be64_at (1 + slice_index item 0) item

-- Where the page size of a block may be, these bytes are one. Nothing else begins so: an id's
-- length isn't 0, and no record has flags 0.
abbrev pub is_page_size : List ℕ → Bool
is_page_size bytes = slice_index bytes 0 == 0 && (not (be64_at 0 bytes == 0) && be64_at 0 bytes % least_page_size == 0)

-- the kind of a record by its flags
abbrev pub record_kind : ℕ → Option RecordKind
record_kind flags = find (λ kind. flags == flags_of kind) record_kinds

-- there is such a block, and it has a page with this number
abbrev pub has_page : List Block → Option ℕ → ℕ → Bool
has_page blocks None page = false
has_page blocks (Some b) page = nat_lt page (block blocks b).pages

-- the subsection with a name
abbrev pub subsection_of : List ℕ → Option Subsection
subsection_of name = find (λ subsection. bytes_eq name (subsection_name subsection)) subsections

-- ---- the faults of an item

abbrev pub is_single : Mode → Bool
is_single Single = true
is_single Main = false
is_single MainBySection = false
is_single MainAsShown = false

abbrev pub is_allowed : Before → ℕ → Bool
is_allowed before.FileHeader byte = byte == configuration_type || byte == section_type section.Start
is_allowed before.Configuration byte = byte == section_type section.Start
is_allowed before.Command byte = byte == section_type section.Start
is_allowed before.Footer byte = byte == section_type section.Part || byte == section_type section.End
is_allowed before.LastFooter byte = byte == end_byte

abbrev pub is_machine : Frame → Bool
is_machine Ram = false
is_machine Machine = true

abbrev pub is_start : Section → Bool
is_start section.Start = true
is_start section.Part = false
is_start section.End = false

-- In a machine's stream a COMMAND is accepted there too, after the configuration a subsection, and
-- up to the first PART a device's section. The last section of RAM so far is of this kind.
abbrev pub may_pass : Section → Before → ℕ → Bool
may_pass kind before.FileHeader byte = byte == command_type || byte == full_type
may_pass kind before.Configuration byte = byte == command_type || byte == full_type || byte == subsection_type
may_pass kind before.Command byte = byte == command_type || byte == full_type
may_pass kind before.Footer byte = byte == command_type || (byte == full_type && is_start kind)
may_pass kind before.LastFooter byte = false

abbrev pub is_passed : Frame → Section → Before → ℕ → Bool
is_passed frame kind before byte = may_pass kind before byte && is_machine frame

abbrev pub is_part : Section → Bool
is_part section.Start = false
is_part section.Part = true
is_part section.End = false

-- A background snapshot is a machine's single stream without END: RAM is over before the type byte
-- of a device's section that stands where a PART or END may begin, after at least one PART.
abbrev pub ends_before : Frame → Mode → Section → Due → List ℕ → Bool
ends_before frame mode kind (TypeByte before.Footer) item = (is_machine frame && is_single mode) && (is_part kind && slice_index item 0 == full_type)
ends_before frame mode kind other item = false

-- RAM is over before this item
abbrev pub is_over : StreamProgress → List ℕ → Bool
is_over c item = ends_before c.frame c.mode c.section c.due item

-- the footer of this section closes the stream
abbrev pub closes : Frame → Section → Bool
closes frame section.Start = false
closes frame section.Part = false
closes frame section.End = is_machine frame

-- a main stream that ends here ends after a page record that no FLUSH follows
abbrev pub has_tail : Bool → StreamProgress → Bool
has_tail ends c = ends && not (is_single c.mode) && not (length c.records == 0)

-- a COMMAND with this number is passed over
abbrev pub is_passed_command : ℕ → Bool
is_passed_command number = list_any (λ known. number == known) passed_commands

-- a COMMAND with this number, and with this many bytes of data, allows postcopy of RAM
abbrev pub allows_postcopy : ℕ → ℕ → Bool
allows_postcopy number len = number == advise_command && len == advise_bytes

-- the COMMAND before this type byte is before START
abbrev pub is_before_start : Before → Bool
is_before_start before.FileHeader = false
is_before_start before.Configuration = false
is_before_start before.Command = true
is_before_start before.Footer = false
is_before_start before.LastFooter = false

-- a COMMAND before START allows postcopy of RAM
abbrev pub advises : Before → List ℕ → Bool
advises before item = is_before_start before && allows_postcopy (be16_at 0 item) (be16_at 2 item)

abbrev pub is_addressed : EntryForm → Bool
is_addressed Plain = false
is_addressed Addressed = true
is_addressed Sized = false

-- the name of a device's section, after its type byte
abbrev pub name_of_section : List ℕ → List ℕ
name_of_section item = slice_range item 5 (5 + slice_index item 4)

-- The device's section is virtio-mem's early state: no other's length can be told.
abbrev pub is_early : List ℕ → Bool
is_early item = ends_with nat_eq (name_of_section item) early_name && be32_at (9 + slice_index item 4) item == early_version

-- The tests of a part of it. Its third number is the size of a block.
abbrev pub early_faults : EarlyPart → List ℕ → List (Bool × StreamFault)
early_faults early.Head item = (not (is_early item), fault.SectionName) ∷ []
early_faults (early.Numbers id) item = (be64_at 16 item == 0, fault.Length) ∷ []
early_faults (early.Plugged id others) item = []
early_faults (early.Footer id) item = (not (slice_index item 0 == footer_type && be32_at 1 item == id), fault.Footer) ∷ []

-- the test of a subsection's name and version
abbrev pub subsection_faults : List ℕ → List (Bool × StreamFault)
subsection_faults item =
    (is_none (subsection_of (id_in item)) || not (be32_at (1 + slice_index item 0) item == subsection_version), fault.Subsection) ∷ []

-- The tests of an item that is passed over, in a stream of this page size, whose size list has this
-- form. Postcopy of RAM isn't allowed beside "x-ignore-shared".
abbrev pub passed_faults : ℕ → EntryForm → PassedItem → List ℕ → List (Bool × StreamFault)
passed_faults page_size form (Command before) item =
    (not (is_passed_command (be16_at 0 item)) || (is_addressed form && advises before item), fault.Command) ∷ []
passed_faults page_size form SubsectionHead item = subsection_faults item
passed_faults page_size form (SubsectionBody PageBits) item = (not (2 ^ be32_at 0 item == page_size), fault.PageBits) ∷ []
passed_faults page_size form (SubsectionBody Uuid) item = []
passed_faults page_size form (SubsectionBody Capabilities) item = []
passed_faults page_size form (Capability others) item = (bytes_eq (id_in item) mapped_ram, fault.Capability) ∷ []
passed_faults page_size form (Address last) item = []
passed_faults page_size form (Early before part) item = early_faults part item

-- the open round takes no more page records
abbrev pub is_full : Option ℕ → Bool
is_full None = false
is_full (Some room) = room == 0

-- the tests of a record head with this page number, after that of its flags
abbrev pub kind_faults : StreamProgress → RecordKind → ℕ → List (Bool × StreamFault)
kind_faults c SizeList page =
    (is_some c.left, fault.SizePlace) ∷
    (page == 0 || nat_lt c.limit (page * c.page_size), fault.Total) ∷ []
kind_faults c (Named filling) page =
    (is_none c.left, fault.SizePlace) ∷
    (is_full c.room, fault.Waiting) ∷ []
kind_faults c (Continued filling) page =
    (is_none c.left, fault.SizePlace) ∷
    (is_full c.room, fault.Waiting) ∷
    (is_none c.named, fault.NoBlock) ∷
    (not (has_page c.blocks c.named page), fault.OffsetOut) ∷ []
kind_faults c EndOfSection page =
    (is_none c.left, fault.SizePlace) ∷
    (not (page == 0), fault.OffsetOut) ∷ []
kind_faults c Flush page =
    (is_none c.left, fault.SizePlace) ∷
    (is_single c.mode, fault.Flush) ∷
    (not (page == 0), fault.OffsetOut) ∷ []

abbrev pub head_faults : StreamProgress → ℕ → Option RecordKind → ℕ → List (Bool × StreamFault)
head_faults c flags None page = (true, fault.Flags flags) ∷ []
head_faults c flags (Some kind) page = kind_faults c kind page

-- the tests of a record head
abbrev pub record_faults : StreamProgress → List ℕ → List (Bool × StreamFault)
record_faults c item =
    let flags = be64_at 0 item % c.page_size in
    head_faults c flags (record_kind flags) (be64_at 0 item / c.page_size)

-- the tests of an entry of the size list
abbrev pub entry_faults : StreamProgress → List ℕ → List (Bool × StreamFault)
entry_faults c item =
    (nat_le max_blocks (length c.blocks), fault.TooManyBlocks) ∷
    (not (is_id (id_in item)), fault.Id) ∷
    (is_some (block_of c.blocks (id_in item)), fault.IdTwice) ∷
    (length_in item == 0 || not (length_in item % c.page_size == 0), fault.Length) ∷
    (nat_lt (unwrap_or c.left 0) (length_in item), fault.SizeSum) ∷ []

-- Each test of an item, with its fault if the test holds, in the order of the tests.
abbrev pub faults : StreamProgress → Due → List ℕ → List (Bool × StreamFault)
faults c FileHeader item =
    (not (be32_at 0 item == magic), fault.Magic) ∷
    (not (be32_at 4 item == version), fault.Version) ∷ []
faults c (TypeByte before) item =
    let byte = slice_index item 0 in
    (not (is_allowed before byte || is_passed c.frame c.section before byte), fault.SectionType) ∷
    (has_tail (byte == end_byte) c, fault.Tail) ∷ []
faults c ConfigLength item = (nat_lt most_name_bytes (be32_at 0 item), fault.ConfigLength) ∷ []
faults c (ConfigName len) item = []
faults c StartHead item =
    let len = slice_index item 4 in
    (not (bytes_eq (slice_range item 5 (5 + len)) ram_name), fault.SectionName) ∷
    (not (be32_at (5 + len) item == ram_instance), fault.Instance) ∷
    (not (be32_at (9 + len) item == ram_version), fault.RamVersion) ∷ []
faults c SectionHead item = (not (be32_at 0 item == c.section_id), fault.SectionId) ∷ []
faults c RecordHead item = record_faults c item
faults c ListEntry item = entry_faults c item
faults c (PageSize true) item = if is_page_size item then [] else record_faults c item
faults c (PageSize false) item = if is_page_size item then [] else entry_faults c item
faults c (BlockName filling page) item =
    let named = block_of c.blocks (id_in item) in
    (is_none named, fault.UnknownBlock) ∷
    (not (has_page c.blocks named page), fault.OffsetOut) ∷ []
faults c (Content Zero place) item = (not (slice_index item 0 == 0), fault.Fill (slice_index item 0)) ∷ []
faults c (Content Normal place) item = []
faults c Footer item =
    (not (slice_index item 0 == footer_type && be32_at 1 item == c.section_id), fault.Footer) ∷
    (has_tail (closes c.frame c.section) c, fault.Tail) ∷ []
faults c (Passed passed) item = passed_faults c.page_size c.form passed item
faults c Nothing item = []

abbrev pub first_fault : StreamProgress → List ℕ → Option StreamFault
first_fault c item = first_of (faults c c.due item)

-- ---- how far the stream has been read after an item without a fault

-- the item after a type byte, and the section that it begins
abbrev pub after_type : StreamProgress → ℕ → StreamProgress
after_type c byte =
    if byte == configuration_type then record c { due = ConfigLength } else
    if byte == section_type section.Start then record c { due = StartHead; section = section.Start } else
    if byte == section_type section.Part then record c { due = SectionHead; section = section.Part } else
    if byte == section_type section.End then record c { due = SectionHead; section = section.End } else
    record c { due = Nothing }

-- what the type byte after a COMMAND, or after a device's section, follows
abbrev pub after_command : Before → Before
after_command before.FileHeader = before.Command
after_command before.Configuration = before.Command
after_command before.Command = before.Command
after_command before.Footer = before.Footer
after_command before.LastFooter = before.LastFooter

-- the item after the type byte of one that is passed over
abbrev pub passed_by : Before → ℕ → PassedItem
passed_by before byte =
    if byte == command_type then Command (after_command before) else
    if byte == full_type then Early (after_command before) early.Head else SubsectionHead

abbrev pub after_type_byte : StreamProgress → Before → ℕ → StreamProgress
after_type_byte c before byte =
    if is_passed c.frame c.section before byte then record c { due = Passed (passed_by before byte) } else after_type c byte

-- what a subsection holds, after its name and version
abbrev pub body_of : Option Subsection → Due
body_of None = Nothing
body_of (Some subsection) = Passed (SubsectionBody subsection)

-- the item after the count of capabilities, or after one of them, with this many after it
abbrev pub capabilities_due : ℕ → Due
capabilities_due others = if others == 0 then TypeByte before.Configuration else Passed (Capability (others - 1))

-- what is due after an entry of the size list and all that belongs to it, given whether it is the
-- last entry
abbrev pub list_due : Bool → Due
list_due last = if last then RecordHead else ListEntry

-- what is due after the length of the block in an entry of this form
abbrev pub entry_due : EntryForm → Bool → Due
entry_due Plain last = list_due last
entry_due Addressed last = Passed (Address last)
entry_due Sized last = PageSize last

-- Of a virtio-mem with a region and blocks of these sizes: the words of 64 bits that have a bit for
-- each block.
abbrev pub plugged_words : ℕ → ℕ → ℕ
plugged_words region block_size = div_ceil (region / block_size) 64

-- the item after the numbers of virtio-mem's early state, or after one of its words, with this many
-- words after it
abbrev pub plugged_due : Before → ℕ → ℕ → Due
plugged_due before id others = Passed (Early before (if others == 0 then early.Footer id else early.Plugged id (others - 1)))

-- the item after a part of virtio-mem's early state: its second and third numbers are the sizes of
-- its region and of a block
abbrev pub behind_early : Before → EarlyPart → List ℕ → Due
behind_early before early.Head item = Passed (Early before (early.Numbers (be32_at 0 item)))
behind_early before (early.Numbers id) item = plugged_due before id (plugged_words (be64_at 8 item) (be64_at 16 item))
behind_early before (early.Plugged id others) item = plugged_due before id others
behind_early before (early.Footer id) item = TypeByte before

-- the item after one that is passed over
abbrev pub behind_passed : PassedItem → List ℕ → Due
behind_passed (Command before) item = TypeByte before
behind_passed SubsectionHead item = body_of (subsection_of (id_in item))
behind_passed (SubsectionBody PageBits) item = TypeByte before.Configuration
behind_passed (SubsectionBody Uuid) item = TypeByte before.Configuration
behind_passed (SubsectionBody Capabilities) item = capabilities_due (be32_at 0 item)
behind_passed (Capability others) item = capabilities_due others
behind_passed (Address last) item = list_due last
behind_passed (Early before part) item = behind_early before part item

-- the form of the size list after an item that is passed over
abbrev pub passed_form : EntryForm → PassedItem → List ℕ → EntryForm
passed_form form (Command before) item = if advises before item then Sized else form
passed_form form SubsectionHead item = form
passed_form form (SubsectionBody kind) item = form
passed_form form (Capability others) item = if bytes_eq (id_in item) ignore_shared then Addressed else form
passed_form form (Address last) item = form
passed_form form (Early before part) item = form

-- the records so far are a complete round
abbrev pub end_round : StreamProgress → StreamProgress
end_round c = record c { room = c.waiting; records = []; rounds = c.rounds ++ c.records ∷ [] }

abbrev pub has_none : List PageRecord → Bool
has_none [] = true
has_none (r ∷ records) = false

-- What a FLUSH shows, given whether it is in START, and whether the open round has no page record:
-- FLUSHes end the rounds if one is in START, or is the first record behind START.
abbrev pub flush_mode : Mode → Bool → Bool → Mode
flush_mode Single in_start none = Single
flush_mode Main in_start none = Main
flush_mode MainBySection in_start none = MainBySection
flush_mode MainAsShown true none = Main
flush_mode MainAsShown false true = Main
flush_mode MainAsShown false false = MainBySection

-- FLUSH ends a round. Only if it is the first record behind START, and shows what ends a round, it
-- ends none: START's EOS did.
abbrev pub flush_ends : Mode → Bool → Bool → Bool
flush_ends Single in_start none = true
flush_ends Main in_start none = true
flush_ends MainBySection in_start none = true
flush_ends MainAsShown true none = true
flush_ends MainAsShown false true = false
flush_ends MainAsShown false false = true

abbrev pub flush_rounds : Bool → List (List PageRecord) → List PageRecord → List (List PageRecord)
flush_rounds true rounds records = rounds ++ records ∷ []
flush_rounds false rounds records = rounds

abbrev pub flush_records : StreamProgress → StreamProgress
flush_records c = record c {
  mode = flush_mode c.mode (is_start c.section) (has_none c.records);
  due = RecordHead;
  room = c.waiting;
  records = [];
  rounds = flush_rounds (flush_ends c.mode (is_start c.section) (has_none c.records)) c.rounds c.records;
}

-- what an EOS shows: behind START, that each EOS ends a round
abbrev pub eos_mode : Mode → Bool → Mode
eos_mode Single in_start = Single
eos_mode Main in_start = Main
eos_mode MainBySection in_start = MainBySection
eos_mode MainAsShown true = MainAsShown
eos_mode MainAsShown false = MainBySection

-- EOS ends the records of a section. In a main stream without FLUSHes it ends a round too.
abbrev pub eos_room : Mode → Option ℕ → Option ℕ → Option ℕ
eos_room Single waiting room = room
eos_room Main waiting room = room
eos_room MainBySection waiting room = waiting
eos_room MainAsShown waiting room = waiting

abbrev pub eos_records : Mode → List PageRecord → List PageRecord
eos_records Single records = records
eos_records Main records = records
eos_records MainBySection records = []
eos_records MainAsShown records = []

abbrev pub eos_rounds : Mode → List (List PageRecord) → List PageRecord → List (List PageRecord)
eos_rounds Single rounds records = rounds
eos_rounds Main rounds records = rounds
eos_rounds MainBySection rounds records = rounds ++ records ∷ []
eos_rounds MainAsShown rounds records = rounds ++ records ∷ []

abbrev pub end_records : StreamProgress → StreamProgress
end_records c = record c {
  mode = eos_mode c.mode (is_start c.section);
  due = Footer;
  room = eos_room c.mode c.waiting c.room;
  records = eos_records c.mode c.records;
  rounds = eos_rounds c.mode c.rounds c.records;
}

abbrev pub after_kind : StreamProgress → RecordKind → ℕ → StreamProgress
after_kind c SizeList page = record c { due = ListEntry; left = Some (page * c.page_size) }
after_kind c (Named filling) page = record c { due = BlockName filling page }
after_kind c (Continued filling) page = record c { due = Content filling (place_at (unwrap_or c.named 0) page) }
after_kind c EndOfSection page = end_records c
after_kind c Flush page = flush_records c

abbrev pub after_head : StreamProgress → Option RecordKind → ℕ → StreamProgress
after_head c None page = c
after_head c (Some kind) page = after_kind c kind page

abbrev pub after_record : StreamProgress → List ℕ → StreamProgress
after_record c item = after_head c (record_kind (be64_at 0 item % c.page_size)) (be64_at 0 item / c.page_size)

abbrev pub after_entry : StreamProgress → List ℕ → StreamProgress
after_entry c item =
    let left = unwrap_or c.left 0 - length_in item in
    record c {
      due = entry_due c.form (left == 0);
      left = Some left;
      blocks = c.blocks ++ record { id = id_in item; pages = length_in item / c.page_size } ∷ [];
    }

-- with one more page record in the open round
abbrev pub less_room : Option ℕ → Option ℕ
less_room None = None
less_room (Some room) = Some (room - 1)

abbrev pub with_record : StreamProgress → Place → Option (List ℕ) → StreamProgress
with_record c place content = record c { due = RecordHead; room = less_room c.room; records = c.records ++ record { place = place; content = content } ∷ [] }

abbrev pub footer_of : Section → Before
footer_of section.Start = before.Footer
footer_of section.Part = before.Footer
footer_of section.End = before.LastFooter

abbrev pub after_footer : Frame → Section → Due
after_footer frame kind = if closes frame kind then Nothing else TypeByte (footer_of kind)

-- In a single stream a section is a round; in a main stream the round continues after the footer.
abbrev pub open_room : Mode → Option ℕ → Option ℕ → Option ℕ
open_room mode None room = None
open_room Single (Some waiting) room = Some waiting
open_room Main (Some waiting) room = room
open_room MainBySection (Some waiting) room = room
open_room MainAsShown (Some waiting) room = room

abbrev pub open_records : Mode → List PageRecord → List PageRecord
open_records Single records = []
open_records Main records = records
open_records MainBySection records = records
open_records MainAsShown records = records

abbrev pub whole_rounds : Mode → List (List PageRecord) → List PageRecord → List (List PageRecord)
whole_rounds Single rounds records = rounds ++ records ∷ []
whole_rounds Main rounds records = rounds
whole_rounds MainBySection rounds records = rounds
whole_rounds MainAsShown rounds records = rounds

abbrev pub end_section : StreamProgress → StreamProgress
end_section c = record c {
  due = after_footer c.frame c.section;
  room = open_room c.mode c.waiting c.room;
  records = open_records c.mode c.records;
  rounds = whole_rounds c.mode c.rounds c.records;
}

abbrev pub after_item : StreamProgress → Due → List ℕ → StreamProgress
after_item c FileHeader item = record c { due = TypeByte before.FileHeader }
after_item c (TypeByte before) item = after_type_byte c before (slice_index item 0)
-- a name of no bytes is no item
after_item c ConfigLength item =
    let len = be32_at 0 item in
    record c { due = if len == 0 then TypeByte before.Configuration else ConfigName len }
after_item c (ConfigName len) item = record c { due = TypeByte before.Configuration }
after_item c StartHead item = record c { due = RecordHead; section_id = be32_at 0 item }
after_item c SectionHead item = record c { due = RecordHead }
after_item c RecordHead item = after_record c item
after_item c ListEntry item = after_entry c item
after_item c (PageSize true) item = if is_page_size item then record c { due = RecordHead } else after_record c item
after_item c (PageSize false) item = if is_page_size item then record c { due = ListEntry } else after_entry c item
after_item c (BlockName filling page) item =
    let named = block_of c.blocks (id_in item) in
    record c { due = Content filling (place_at (unwrap_or named 0) page); named = named }
after_item c (Content Zero place) item = with_record c place None
after_item c (Content Normal place) item = with_record c place (Some item)
after_item c Footer item = end_section c
after_item c (Passed passed) item = record c { due = behind_passed passed item; form = passed_form c.form passed item }
after_item c Nothing item = c

abbrev pub after : StreamProgress → List ℕ → StreamProgress
after c item = after_item c c.due item
