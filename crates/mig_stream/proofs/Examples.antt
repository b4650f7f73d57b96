-- Worked examples of the definitions: what a writer spells, and how items are judged.
use Rattle.std.proofs.Common.{◌≡◌, flat_map, ℕ, ◌^◌, false, true, List, [], ◌∷◌, ◌++◌, replicate, Some, None, refl, inl, inr}
use Rattle.mig_mem.specs.Image.{Page}
use Rattle.mig_mem.specs.RamTable.{RamTable, is_id}
use Rattle.mig_stream.specs.declared.fault.StreamFault.TheVariants as fault
use Rattle.mig_stream.specs.declared.item.Frame.TheVariants.{Ram, Machine}
use Rattle.mig_stream.specs.declared.item.Mode.{Mode}
use Rattle.mig_stream.specs.declared.item.Mode.TheVariants.{Single, Main}
use Rattle.mig_stream.specs.declared.item.Section.{Section}
use Rattle.mig_stream.specs.declared.item.Section.TheVariants as section
use Rattle.mig_stream.specs.declared.item.StreamState.TheVariants.{Closed, Bad}
use Rattle.mig_stream.specs.declared.item.Before.TheVariants as before
use Rattle.mig_stream.specs.declared.item.Filling.TheVariants.{Zero}
use Rattle.mig_stream.specs.declared.item.Subsection.TheVariants as kinds
use Rattle.mig_stream.specs.declared.item.EntryForm.TheVariants.{Addressed, Sized}
use Rattle.mig_stream.specs.declared.item.PassedItem.TheVariants as pass
use Rattle.mig_stream.specs.declared.item.Due.TheVariants.{TypeByte, RecordHead, ListEntry, PageSize, BlockName, Content, Footer, Passed, Nothing}
use Rattle.mig_stream.specs.Fields.{be32, be64, counted, be32_at, be64_at}
use Rattle.mig_stream.specs.Format.{subsection_name, ignore_shared, mapped_ram}
use Rattle.mig_stream.specs.Progress.{StreamProgress, start}
use Rattle.mig_stream.specs.Items.{first_fault}
use Rattle.mig_stream.specs.Reading.{settings, in_frame, after_all, Front, Ends, stopped}
use Rattle.mig_stream.specs.Text.{file_header, size_list, start_head, body, footer, section as spelled_section}
use Rattle.mig_stream.specs.Machine.{Command, command_bytes, command, Uuid, Capabilities, form_of, tailed_list, configured, subsection_head, subsection}
use Rattle.mig_stream.specs.Machine.{CommandOf, PassedOf, part_or_passed}
use Rattle.mig_stream.specs.Reader.{IsClosedAt}
use Rattle.mig_stream.proofs.Closing.{closed_by}
use Rattle.mig_stream.specs.Written.{RoundPart, FlushPart, written, written_parts, opening, closing}

-- ---- what a writer spells

-- the table of one block `a`, of this many pages
abbrev table : ℕ → ℕ → RamTable
table page_size pages = record { page_size = page_size; blocks = record { id = 0x61 ∷ []; pages = pages } ∷ [] }

-- a page of that block
abbrev page : ℕ → List ℕ → Page
page number content = record { place = record { block = 0; page = number }; content = content }

-- A table of one page and no part: file header, START with the size list, END, end byte.
no_part : written (table 4096 1) [] ≡
    0x51 ∷ 0x45 ∷ 0x56 ∷ 0x4D ∷ 0 ∷ 0 ∷ 0 ∷ 3
    ∷ 0x01 ∷ 0 ∷ 0 ∷ 0 ∷ 1 ∷ 3 ∷ 0x72 ∷ 0x61 ∷ 0x6D ∷ 0 ∷ 0 ∷ 0 ∷ 0 ∷ 0 ∷ 0 ∷ 0 ∷ 4
    ∷ 0 ∷ 0 ∷ 0 ∷ 0 ∷ 0 ∷ 0 ∷ 0x10 ∷ 4 ∷ 1 ∷ 0x61 ∷ 0 ∷ 0 ∷ 0 ∷ 0 ∷ 0 ∷ 0 ∷ 0x10 ∷ 0
    ∷ 0 ∷ 0 ∷ 0 ∷ 0 ∷ 0 ∷ 0 ∷ 0 ∷ 0x10 ∷ 0x7E ∷ 0 ∷ 0 ∷ 0 ∷ 1
    ∷ 0x03 ∷ 0 ∷ 0 ∷ 0 ∷ 1 ∷ 0 ∷ 0 ∷ 0 ∷ 0 ∷ 0 ∷ 0 ∷ 0 ∷ 0x10 ∷ 0x7E ∷ 0 ∷ 0 ∷ 0 ∷ 1
    ∷ 0x00 ∷ []
unfolding opening closing file_header size_list
no_part = refl

-- A page of zeros and another page, in one round: a zero record that names the block, and a page
-- with CONTINUE.
two_pages : written_parts (table 4096 2) None (RoundPart (page 0 (replicate 4096 0) ∷ page 1 (9 ∷ replicate 4095 0) ∷ []) ∷ []) ≡
    (0x02 ∷ 0 ∷ 0 ∷ 0 ∷ 1 ∷ []) ++ (0 ∷ 0 ∷ 0 ∷ 0 ∷ 0 ∷ 0 ∷ 0 ∷ 0x02 ∷ 1 ∷ 0x61 ∷ 0 ∷ [])
    ++ (0 ∷ 0 ∷ 0 ∷ 0 ∷ 0 ∷ 0 ∷ 0x10 ∷ 0x28 ∷ 9 ∷ replicate 4095 0)
    ++ (0 ∷ 0 ∷ 0 ∷ 0 ∷ 0 ∷ 0 ∷ 0 ∷ 0x10 ∷ 0x7E ∷ 0 ∷ 0 ∷ 0 ∷ 1 ∷ [])
two_pages = refl

-- A page of zeros, a FLUSH, and the page again: the second record has CONTINUE, across sections and
-- the FLUSH.
carried_on : written_parts (table 4096 1) None (RoundPart (page 0 (replicate 4096 0) ∷ []) ∷ FlushPart ∷ RoundPart (page 0 (replicate 4096 0) ∷ []) ∷ []) ≡
    (0x02 ∷ 0 ∷ 0 ∷ 0 ∷ 1 ∷ 0 ∷ 0 ∷ 0 ∷ 0 ∷ 0 ∷ 0 ∷ 0 ∷ 0x02 ∷ 1 ∷ 0x61 ∷ 0 ∷ 0 ∷ 0 ∷ 0 ∷ 0 ∷ 0 ∷ 0 ∷ 0 ∷ 0x10 ∷ 0x7E ∷ 0 ∷ 0 ∷ 0 ∷ 1 ∷ [])
    ++ (0x02 ∷ 0 ∷ 0 ∷ 0 ∷ 1 ∷ 0 ∷ 0 ∷ 0 ∷ 0 ∷ 0 ∷ 0 ∷ 0x02 ∷ 0x00 ∷ 0 ∷ 0 ∷ 0 ∷ 0 ∷ 0 ∷ 0 ∷ 0 ∷ 0x10 ∷ 0x7E ∷ 0 ∷ 0 ∷ 0 ∷ 1 ∷ [])
    ++ (0x02 ∷ 0 ∷ 0 ∷ 0 ∷ 1 ∷ 0 ∷ 0 ∷ 0 ∷ 0 ∷ 0 ∷ 0 ∷ 0 ∷ 0x22 ∷ 0 ∷ 0 ∷ 0 ∷ 0 ∷ 0 ∷ 0 ∷ 0 ∷ 0 ∷ 0x10 ∷ 0x7E ∷ 0 ∷ 0 ∷ 0 ∷ 1 ∷ [])
carried_on = refl

-- ---- how items are judged

-- START's head was read, and the limit on the table's total is one page of 4,096 bytes
abbrev in_start : Mode → StreamProgress
in_start mode = record (start Ram mode 4096 4096 None) { due = RecordHead; section_id = 1 }

-- the head of a PART was read; the table has one page, and no block was named yet
abbrev in_part : Mode → ℕ → StreamProgress
in_part mode page_size = record (start Ram mode page_size (2 ^ 40) None) {
  due = RecordHead;
  section = section.Part;
  section_id = 1;
  left = Some 0;
  blocks = (table page_size 1).blocks;
}

-- START's first record is the size list and nothing else: a FLUSH there is judged so, even in a
-- single stream.
flush_in_place_of_list : first_fault (in_start Single) (be64 0x200) ≡ Some fault.SizePlace
unfolding be64_at
flush_in_place_of_list = refl

-- A size list elsewhere is judged by its place, even where its total of 0 would be a fault too.
list_in_part : first_fault (in_part Single 4096) (be64 0x004) ≡ Some fault.SizePlace
unfolding be64_at
list_in_part = refl

-- A total that is the limit is accepted; one page more is not.
total_at_limit : first_fault (in_start Single) (be64 0x1004) ≡ None
unfolding be64_at
total_at_limit = refl

total_above_limit : first_fault (in_start Single) (be64 0x2004) ≡ Some fault.Total
unfolding be64_at
total_above_limit = refl

-- A 257th entry is one too many, before its id is looked at.
entry_too_many : first_fault (record (in_start Single) {
  due = ListEntry;
  left = Some 4096;
  blocks = replicate 256 (record { id = 0x61 ∷ []; pages = 1 });
}) (0 ∷ be64 0x1000) ≡ Some fault.TooManyBlocks
unfolding be64_at is_id
entry_too_many = refl

-- At pages of 8,192 bytes the flags have 13 bits, so a head with offset 4,096 has flags that no
-- record has.
thirteenth_bit : first_fault (in_part Single 8192) (be64 0x1008) ≡ Some (fault.Flags 0x1008)
unfolding be64_at
thirteenth_bit = refl

-- A FLUSH is refused in a single stream before its offset is looked at.
flush_in_single : first_fault (in_part Single 4096) (be64 0x1200) ≡ Some fault.Flush
unfolding be64_at
flush_in_single = refl

-- CONTINUE where no block was named yet is judged before the offset, which lies outside of the only
-- block.
continue_without_block : first_fault (in_part Single 4096) (be64 0x5028) ≡ Some fault.NoBlock
unfolding be64_at
continue_without_block = refl

-- An empty id in a page record is one that the table hasn't.
empty_id : first_fault (record (in_part Single 4096) { due = BlockName Zero 0 }) (0 ∷ []) ≡ Some fault.UnknownBlock
empty_id = refl

-- The byte of a zero page record has to be 0.
fill_byte : first_fault (record (in_part Single 4096) { due = Content Zero (record { block = 0; page = 0 }) }) (7 ∷ []) ≡ Some (fault.Fill 7)
fill_byte = refl

-- A main stream may not end after a page record that no FLUSH follows.
abbrev with_open_record : StreamProgress
with_open_record = record (in_part Main 4096) {
  due = TypeByte before.LastFooter;
  records = record { place = record { block = 0; page = 0 }; content = None } ∷ [];
}

end_behind_record : first_fault with_open_record (0x00 ∷ []) ≡ Some fault.Tail
end_behind_record = refl

-- ---- a machine's stream

-- what a reader of a machine's stream is made with
abbrev machine : Mode → StreamProgress
machine mode = start Machine mode 4096 (2 ^ 40) None

-- The stream of one block of one page and no round, as QEMU writes it: SWITCHOVER_START stands
-- before END, and no end byte after its footer.
abbrev empty_machine : List ℕ
empty_machine =
    0x51 ∷ 0x45 ∷ 0x56 ∷ 0x4D ∷ 0 ∷ 0 ∷ 0 ∷ 3
    ∷ 0x01 ∷ 0 ∷ 0 ∷ 0 ∷ 1 ∷ 3 ∷ 0x72 ∷ 0x61 ∷ 0x6D ∷ 0 ∷ 0 ∷ 0 ∷ 0 ∷ 0 ∷ 0 ∷ 0 ∷ 4
    ∷ 0 ∷ 0 ∷ 0 ∷ 0 ∷ 0 ∷ 0 ∷ 0x10 ∷ 4 ∷ 1 ∷ 0x61 ∷ 0 ∷ 0 ∷ 0 ∷ 0 ∷ 0 ∷ 0 ∷ 0x10 ∷ 0
    ∷ 0 ∷ 0 ∷ 0 ∷ 0 ∷ 0 ∷ 0 ∷ 0 ∷ 0x10 ∷ 0x7E ∷ 0 ∷ 0 ∷ 0 ∷ 1
    ∷ 0x08 ∷ 0 ∷ 0x0B ∷ 0 ∷ 0
    ∷ 0x03 ∷ 0 ∷ 0 ∷ 0 ∷ 1 ∷ 0 ∷ 0 ∷ 0 ∷ 0 ∷ 0 ∷ 0 ∷ 0 ∷ 0x10 ∷ 0x7E ∷ 0 ∷ 0 ∷ 0 ∷ 1 ∷ []

abbrev switchover : Command
switchover = record { number = 11; carried = [] }

-- it is spelled so
empty_spelled : file_header ++ configured None ++ flat_map command [] ++ start_head 1 ++ size_list (table 4096 1) ++ body (table 4096 1) 1 []
    ++ flat_map (part_or_passed (table 4096 1) 1) (PassedOf (CommandOf switchover) ∷ []) ++ spelled_section (table 4096 1) section.End 1 [] ≡ empty_machine
unfolding file_header size_list
empty_spelled = refl

-- it is read so, item by item, to the footer of END
empty_front : Front (machine Single) empty_machine
    (record (machine Single) { due = Nothing; section = section.End; section_id = 1; left = Some 0; blocks = (table 4096 1).blocks; rounds = [] ∷ [] ∷ [] })
unfolding be32_at be64_at is_id
empty_front = record {
  items = (0x51 ∷ 0x45 ∷ 0x56 ∷ 0x4D ∷ 0 ∷ 0 ∷ 0 ∷ 3 ∷ []) ∷ (0x01 ∷ []) ∷ (0 ∷ 0 ∷ 0 ∷ 1 ∷ 3 ∷ 0x72 ∷ 0x61 ∷ 0x6D ∷ 0 ∷ 0 ∷ 0 ∷ 0 ∷ 0 ∷ 0 ∷ 0 ∷ 4 ∷ [])
      ∷ (0 ∷ 0 ∷ 0 ∷ 0 ∷ 0 ∷ 0 ∷ 0x10 ∷ 4 ∷ []) ∷ (1 ∷ 0x61 ∷ 0 ∷ 0 ∷ 0 ∷ 0 ∷ 0 ∷ 0 ∷ 0x10 ∷ 0 ∷ [])
      ∷ (0 ∷ 0 ∷ 0 ∷ 0 ∷ 0 ∷ 0 ∷ 0 ∷ 0x10 ∷ []) ∷ (0x7E ∷ 0 ∷ 0 ∷ 0 ∷ 1 ∷ [])
      ∷ (0x08 ∷ []) ∷ (0 ∷ 0x0B ∷ 0 ∷ 0 ∷ [])
      ∷ (0x03 ∷ []) ∷ (0 ∷ 0 ∷ 0 ∷ 1 ∷ []) ∷ (0 ∷ 0 ∷ 0 ∷ 0 ∷ 0 ∷ 0 ∷ 0 ∷ 0x10 ∷ []) ∷ (0x7E ∷ 0 ∷ 0 ∷ 0 ∷ 1 ∷ []) ∷ [];
  has_bytes = refl;
  are_faultless = (
    record { is_due = λ e. absurd cc; is_whole = refl },
    refl,
    (
      record { is_due = λ e. absurd cc; is_whole = refl },
      refl,
      (
        record { is_due = λ e. absurd cc; is_whole = refl },
        refl,
        (
          record { is_due = λ e. absurd cc; is_whole = refl },
          refl,
          (
            record { is_due = λ e. absurd cc; is_whole = refl },
            refl,
            (
              record { is_due = λ e. absurd cc; is_whole = refl },
              refl,
              (
                record { is_due = λ e. absurd cc; is_whole = refl },
                refl,
                (
                  record { is_due = λ e. absurd cc; is_whole = refl },
                  refl,
                  (
                    record { is_due = λ e. absurd cc; is_whole = refl },
                    refl,
                    (
                      record { is_due = λ e. absurd cc; is_whole = refl },
                      refl,
                      (
                        record { is_due = λ e. absurd cc; is_whole = refl },
                        refl,
                        (record { is_due = λ e. absurd cc; is_whole = refl }, refl, (record { is_due = λ e. absurd cc; is_whole = refl }, refl, tt)),
                      ),
                    ),
                  ),
                ),
              ),
            ),
          ),
        ),
      ),
    ),
  );
  leads_to = refl;
}

-- What stands after it, the section of a device, is left: the stream is closed by its first 79
-- bytes.
abbrev device : List ℕ
device = 0x04 ∷ 0 ∷ 0 ∷ 0 ∷ 2 ∷ 5 ∷ 0x74 ∷ 0x69 ∷ 0x6D ∷ 0x65 ∷ 0x72 ∷ 0 ∷ []

device_left : IsClosedAt (in_frame Machine (settings Single 4096 (2 ^ 40))) (empty_machine ++ device) 79
device_left = closed_by (in_frame Machine (settings Single 4096 (2 ^ 40))) (empty_machine ++ device) _ device 79
    (record { front = empty_machine; has_text = refl; leads = empty_front; ends = inl refl }) refl

-- ---- a background snapshot

-- its last PART was read, or only START
abbrev behind : Mode → Section → StreamProgress
behind mode kind = record (machine mode) { due = TypeByte before.Footer; section = kind; section_id = 1; left = Some 0; blocks = (table 4096 1).blocks }

-- RAM is over before the type byte of a device's section, which is left.
device_begins : Ends (behind Single section.Part) device Closed
device_begins = inr (0x04 ∷ [], 0 ∷ 0 ∷ 0 ∷ 2 ∷ 5 ∷ 0x74 ∷ 0x69 ∷ 0x6D ∷ 0x65 ∷ 0x72 ∷ 0 ∷ [], refl, record { is_due = λ e. absurd cc; is_whole = refl }, refl)

-- In a stream without a PART a device's section is refused there, and so it is in a main stream.
device_too_early : stopped (behind Single section.Start) (0x04 ∷ []) fault.SectionType ≡ Bad fault.SectionType
device_too_early = refl

device_in_main : stopped (behind Main section.Part) (0x04 ∷ []) fault.SectionType ≡ Bad fault.SectionType
device_in_main = refl

-- A COMMAND that is passed over may stand between.
command_between : after_all (behind Single section.Part) ((0x08 ∷ []) ∷ (0 ∷ 0x0B ∷ 0 ∷ 0 ∷ []) ∷ []) ≡ behind Single section.Part
command_between = refl

-- Without the frame the COMMAND is refused.
command_refused : first_fault (record (in_part Single 4096) { due = TypeByte before.Footer }) (0x08 ∷ []) ≡ Some fault.SectionType
command_refused = refl

-- A UUID after the configuration: a subsection of 42 bytes, which is passed over.
uuid_spelled : subsection (Uuid (replicate 16 0x11)) ≡
    0x05 ∷ 18 ∷ 0x63 ∷ 0x6F ∷ 0x6E ∷ 0x66 ∷ 0x69 ∷ 0x67 ∷ 0x75 ∷ 0x72 ∷ 0x61 ∷ 0x74 ∷ 0x69 ∷ 0x6F ∷ 0x6E ∷ 0x2F ∷ 0x75 ∷ 0x75
    ∷ 0x69 ∷ 0x64 ∷ 0 ∷ 0 ∷ 0 ∷ 1 ∷ replicate 16 0x11
unfolding subsection_name
uuid_spelled = refl

uuid_passed : after_all (record (machine Single) { due = TypeByte before.Configuration })
    ((0x05 ∷ []) ∷ subsection_head kinds.Uuid ∷ replicate 16 0x11 ∷ []) ≡ record (machine Single) { due = TypeByte before.Configuration }
unfolding subsection_name
uuid_passed = refl

-- One of another name is refused, and so is one of another version.
other_subsection : first_fault (record (machine Single) { due = Passed pass.SubsectionHead }) (counted (0x78 ∷ []) ++ be32 1) ≡ Some fault.Subsection
unfolding subsection_name be32_at
other_subsection = refl

other_version : first_fault (record (machine Single) { due = Passed pass.SubsectionHead })
    (counted (subsection_name kinds.Uuid) ++ be32 2) ≡ Some fault.Subsection
unfolding subsection_name be32_at
other_version = refl

-- A subsection stands after the configuration alone, and the section of a device before the first
-- PART alone.
late_subsection : first_fault (record (machine Single) { due = TypeByte before.Command }) (0x05 ∷ []) ≡ Some fault.SectionType
late_subsection = refl

early_device : first_fault (record (machine Single) { due = TypeByte before.Configuration }) (0x04 ∷ []) ≡ None
early_device = refl

-- ---- what follows the entries of a machine's size list

-- "mapped-ram" is refused.
mapped_refused : first_fault (record (machine Single) { due = Passed (pass.Capability 0) })
    (counted (0x6D ∷ 0x61 ∷ 0x70 ∷ 0x70 ∷ 0x65 ∷ 0x64 ∷ 0x2D ∷ 0x72 ∷ 0x61 ∷ 0x6D ∷ [])) ≡ Some fault.Capability
unfolding mapped_ram
mapped_refused = refl

-- "x-ignore-shared" is passed over, and says that guest addresses follow.
shared_passed : after_all (record (machine Single) { due = Passed (pass.Capability 0) })
    (counted (0x78 ∷ 0x2D ∷ 0x69 ∷ 0x67 ∷ 0x6E ∷ 0x6F ∷ 0x72 ∷ 0x65 ∷ 0x2D ∷ 0x73 ∷ 0x68 ∷ 0x61 ∷ 0x72 ∷ 0x65 ∷ 0x64 ∷ []) ∷ []) ≡
    record (machine Single) { due = TypeByte before.Configuration; form = Addressed }
unfolding ignore_shared
shared_passed = refl

shared_form : form_of (Some (record { name = []; subsections = Capabilities (ignore_shared ∷ []) ∷ [] })) [] ≡ Addressed
unfolding ignore_shared
shared_form = refl

-- a POSTCOPY_ADVISE, of these page sizes of blocks and of the guest
abbrev advise : List ℕ → Command
advise carried = record { number = 3; carried = carried }

abbrev page_sizes : List ℕ
page_sizes = be64 0x201000 ++ be64 0x1000

-- With postcopy of RAM it says that page sizes may follow; for dirty bitmaps alone it says nothing.
advise_form : form_of None (CommandOf (advise page_sizes) ∷ []) ≡ Sized
advise_form = refl

bitmaps_form : form_of None (CommandOf (advise []) ∷ []) ≡ form_of None []
bitmaps_form = refl

-- Beside "x-ignore-shared" it is refused.
advise_refused : first_fault (record (machine Single) { due = Passed (pass.Command before.Command); form = Addressed })
    (command_bytes (advise page_sizes)) ≡ Some fault.Command
advise_refused = refl

-- two blocks `a` and `b`, of a page and of two pages
abbrev two_blocks : RamTable
two_blocks = record { page_size = 4096; blocks = record { id = 0x61 ∷ []; pages = 1 } ∷ record { id = 0x62 ∷ []; pages = 2 } ∷ [] }

-- the head of their size list is due, in an open stream of this form
abbrev list_begins : StreamProgress → StreamProgress
list_begins c = record c { due = RecordHead; section_id = 1 }

-- and after it, and all that belongs to it
abbrev list_ends : StreamProgress → StreamProgress
list_ends c = record c { section_id = 1; left = Some 0; blocks = two_blocks.blocks }

-- Their size list with guest addresses, 0 and 0xFFFC0000: it has 8 bytes more for each.
abbrev addresses : List (List ℕ)
addresses = be64 0 ∷ be64 0xFFFC0000 ∷ []

addressed_spelled : tailed_list two_blocks addresses ≡
    (0 ∷ 0 ∷ 0 ∷ 0 ∷ 0 ∷ 0 ∷ 0x30 ∷ 4 ∷ []) ++ (1 ∷ 0x61 ∷ 0 ∷ 0 ∷ 0 ∷ 0 ∷ 0 ∷ 0 ∷ 0x10 ∷ 0 ∷ []) ++ (0 ∷ 0 ∷ 0 ∷ 0 ∷ 0 ∷ 0 ∷ 0 ∷ 0 ∷ [])
    ++ (1 ∷ 0x62 ∷ 0 ∷ 0 ∷ 0 ∷ 0 ∷ 0 ∷ 0 ∷ 0x20 ∷ 0 ∷ []) ++ (0 ∷ 0 ∷ 0 ∷ 0 ∷ 0xFF ∷ 0xFC ∷ 0 ∷ 0 ∷ [])
unfolding tailed_list
addressed_spelled = refl

addressed_read : Front (list_begins (record (machine Single) { form = Addressed })) (tailed_list two_blocks addresses)
    (record (list_ends (record (machine Single) { form = Addressed })) { due = RecordHead })
unfolding tailed_list be64_at is_id
addressed_read = record {
  items = be64 0x3004 ∷ (counted (0x61 ∷ []) ++ be64 0x1000) ∷ be64 0 ∷ (counted (0x62 ∷ []) ++ be64 0x2000) ∷ be64 0xFFFC0000 ∷ [];
  has_bytes = refl;
  are_faultless = (
    record { is_due = λ e. absurd cc; is_whole = refl },
    refl,
    (
      record { is_due = λ e. absurd cc; is_whole = refl },
      refl,
      (
        record { is_due = λ e. absurd cc; is_whole = refl },
        refl,
        (record { is_due = λ e. absurd cc; is_whole = refl }, refl, (record { is_due = λ e. absurd cc; is_whole = refl }, refl, tt)),
      ),
    ),
  );
  leads_to = refl;
}

-- Of the blocks only the second has its page size behind it, of 2 MiB. Behind the first the next
-- entry is, and behind the second a record may follow.
abbrev sizes : List (List ℕ)
sizes = [] ∷ be64 0x200000 ∷ []

sized_read : Front (list_begins (record (machine Single) { form = Sized })) (tailed_list two_blocks sizes)
    (record (list_ends (record (machine Single) { form = Sized })) { due = RecordHead })
unfolding tailed_list be64_at is_id
sized_read = record {
  items = be64 0x3004 ∷ (counted (0x61 ∷ []) ++ be64 0x1000) ∷ (counted (0x62 ∷ []) ++ be64 0x2000) ∷ be64 0x200000 ∷ [];
  has_bytes = refl;
  are_faultless = (
    record { is_due = λ e. absurd cc; is_whole = refl },
    refl,
    (
      record { is_due = λ e. absurd cc; is_whole = refl },
      refl,
      (
        record { is_due = λ e. absurd cc; is_whole = refl },
        refl,
        (record { is_due = λ e. absurd cc; is_whole = refl }, refl, tt),
      ),
    ),
  );
  leads_to = refl;
}

-- Where the last page size isn't, the EOS of START is read.
unsized_eos : after_all (record (list_ends (record (machine Single) { form = Sized })) { due = PageSize true })
    (be64 0x10 ∷ []) ≡ record (list_ends (record (machine Single) { form = Sized })) { due = Footer }
unfolding be64_at
unsized_eos = refl

-- A page size that is no multiple of 4,096 is taken for an entry, whose id has no bytes, or for a
-- record.
odd_size : first_fault (record (machine Single) { due = PageSize false; left = Some 4096; form = Sized }) (be64 0x1001) ≡ Some fault.Id
unfolding be64_at is_id
odd_size = refl

no_size : first_fault (record (list_ends (record (machine Single) { form = Sized })) { due = PageSize true }) (be64 0) ≡ Some (fault.Flags 0)
unfolding be64_at
no_size = refl

-- ---- page bits and COMMANDs

-- Page bits of another page size are refused, and those of 4,096 bytes are passed over.
other_page_bits : first_fault (record (machine Single) { due = Passed (pass.SubsectionBody kinds.PageBits) }) (be32 13) ≡ Some fault.PageBits
unfolding be32_at
other_page_bits = refl

own_page_bits : first_fault (record (machine Single) { due = Passed (pass.SubsectionBody kinds.PageBits) }) (be32 12) ≡ None
unfolding be32_at
own_page_bits = refl

-- A COMMAND that wraps another stream is refused, once it is whole.
packaged_refused : first_fault (record (machine Single) { due = Passed (pass.Command before.Footer) })
    (command_bytes (record { number = 7; carried = 0 ∷ 0 ∷ 0 ∷ 4 ∷ [] })) ≡ Some fault.Command
packaged_refused = refl

-- A main stream of a machine may not be closed after a page record that no FLUSH follows.
closed_behind_record : first_fault (record with_open_record { frame = Machine; due = Footer; section = section.End }) (footer 1) ≡ Some fault.Tail
unfolding be32_at
closed_behind_record = refl
