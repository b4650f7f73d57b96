-- Reports: the items of a stream that aren't parts of page records, each with the byte at which it
-- begins.
use Rattle.std.specs.Prelude.{◌≡◌, ◌<◌, ℕ, ◌+◌, ◌%◌, ◌^◌, true, false, ◌==◌, if◌then◌else◌, List, [], ◌∷◌, ◌++◌, length, take, slice_index, slice_index_or, Option, Some, None, ⊤}
use Rattle.std.specs.List.{concat}
use Rattle.mig_mem.specs.PageSize.{IsPageSize}
use Rattle.mig_stream.specs.declared.item.Section.TheVariants as section
use Rattle.mig_stream.specs.declared.item.RecordKind.{RecordKind}
use Rattle.mig_stream.specs.declared.item.RecordKind.TheVariants as record_kinds
use Rattle.mig_stream.specs.declared.item.Subsection.TheVariants as subsection
use Rattle.mig_stream.specs.declared.item.EarlyPart.{EarlyPart}
use Rattle.mig_stream.specs.declared.item.EarlyPart.TheVariants as early
use Rattle.mig_stream.specs.declared.item.PassedItem.{PassedItem}
use Rattle.mig_stream.specs.declared.item.PassedItem.TheVariants as passed
use Rattle.mig_stream.specs.declared.item.Due.{Due}
use Rattle.mig_stream.specs.declared.item.Due.TheVariants as due
use Rattle.mig_stream.specs.declared.item.StreamState.{StreamState}
use Rattle.mig_stream.specs.declared.item.StreamState.TheVariants.{Reading}
use Rattle.mig_stream.specs.declared.report.ItemKind.{ItemKind}
use Rattle.mig_stream.specs.declared.report.ItemKind.TheVariants as kind
use Rattle.mig_stream.specs.declared.record_reader.RecordEvent.{RecordEvent}
use Rattle.mig_stream.specs.declared.record_reader.RecordEvent.TheVariants.{End}
use Rattle.mig_stream.specs.Fields.{be64_at}
use Rattle.mig_stream.specs.Format.{section_type, full_type, subsection_type, command_type, configuration_type}
use Rattle.mig_stream.specs.Progress.{StreamProgress, start}
use Rattle.mig_stream.specs.Items.{record_kind, is_page_size, after}
use Rattle.mig_stream.specs.Reading.{Settings, Front, Ends}
use Rattle.mig_stream.specs.Reader.{IsValidUpTo}
use Rattle.mig_stream.specs.Giving.{Giver, GivenSoFar, all_read, Gives}

-- ---- what an item is

-- what a type byte begins
abbrev pub begun_by : ℕ → ItemKind
begun_by byte =
    if byte == configuration_type then kind.Configuration else
    if byte == section_type section.Start then kind.Start else
    if byte == section_type section.Part then kind.Part else
    if byte == section_type section.End then kind.End else
    if byte == subsection_type then kind.Subsection else
    if byte == command_type then kind.Command else
    if byte == full_type then kind.Device else kind.EndByte

-- a record's head of this kind; None is that of a page record
abbrev pub kind_of_head : Option RecordKind → Option ItemKind
kind_of_head None = None
kind_of_head (Some record_kinds.SizeList) = Some kind.SizeList
kind_of_head (Some (record_kinds.Named filling)) = None
kind_of_head (Some (record_kinds.Continued filling)) = None
kind_of_head (Some record_kinds.EndOfSection) = Some kind.EndOfSection
kind_of_head (Some record_kinds.Flush) = Some kind.Flush

abbrev pub kind_of_record : ℕ → List ℕ → Option ItemKind
kind_of_record page_size item = kind_of_head (record_kind (be64_at 0 item % page_size))

abbrev pub kind_of_early : EarlyPart → ItemKind
kind_of_early early.Head = kind.DeviceHead
kind_of_early (early.Numbers id) = kind.VirtioMem
kind_of_early (early.Plugged id others) = kind.PluggedBlocks
kind_of_early (early.Footer id) = kind.DeviceFooter

abbrev pub kind_of_passed : PassedItem → ItemKind
kind_of_passed (passed.Command before) = kind.CommandBody
kind_of_passed passed.SubsectionHead = kind.SubsectionName
kind_of_passed (passed.SubsectionBody subsection.PageBits) = kind.PageBits
kind_of_passed (passed.SubsectionBody subsection.Uuid) = kind.Uuid
kind_of_passed (passed.SubsectionBody subsection.Capabilities) = kind.CapabilityCount
kind_of_passed (passed.Capability others) = kind.Capability
kind_of_passed (passed.Address last) = kind.BlockAddress
kind_of_passed (passed.Early before part) = kind_of_early part

-- What an item is, in a stream of this page size. None is a part of a page record: its head, the id
-- of its block, or its content.
abbrev pub kind_of : ℕ → Due → List ℕ → Option ItemKind
kind_of page_size due.FileHeader item = Some kind.FileHeader
kind_of page_size (due.TypeByte before) item = Some (begun_by (slice_index item 0))
kind_of page_size due.ConfigLength item = Some kind.NameLength
kind_of page_size (due.ConfigName len) item = Some kind.Name
kind_of page_size due.StartHead item = Some kind.StartHead
kind_of page_size due.SectionHead item = Some kind.SectionHead
kind_of page_size due.RecordHead item = kind_of_record page_size item
kind_of page_size due.ListEntry item = Some kind.ListEntry
kind_of page_size (due.PageSize true) item = if is_page_size item then Some kind.BlockPageSize else kind_of_record page_size item
kind_of page_size (due.PageSize false) item = Some (if is_page_size item then kind.BlockPageSize else kind.ListEntry)
kind_of page_size (due.BlockName filling page) item = None
kind_of page_size (due.Content filling place) item = None
kind_of page_size due.Footer item = Some kind.Footer
kind_of page_size (due.Passed item_passed) item = Some (kind_of_passed item_passed)
kind_of page_size due.Nothing item = None

-- ---- items at their bytes

-- the byte of the stream at which an item begins, what it is, and its bytes
pub record ItemAt : Type 0 where
  pub at : ℕ
  pub kind : ItemKind
  pub bytes : List ℕ

-- an item that begins at this byte; a part of a page record isn't reported
abbrev pub item_at : Option ItemKind → ℕ → List ℕ → List ItemAt
item_at None at item = []
item_at (Some kind) at item = record { at = at; kind = kind; bytes = item } ∷ []

-- Of these items, the first of which begins at this byte, all that aren't parts of page records.
abbrev pub items_at : StreamProgress → ℕ → List (List ℕ) → List ItemAt
items_at c at [] = []
items_at c at (item ∷ items) = item_at (kind_of c.page_size c.due item) at item ++ items_at (after c item) (at + length item) items

-- what a report has: the byte after the items so far, and those of them that weren't cleared
pub record Reported : Type 0 where
  pub at : ℕ
  pub items : List ItemAt

abbrev pub nothing_reported : Reported
nothing_reported = record { at = 0; items = [] }

-- with one more item
abbrev pub with_item : Option ItemKind → List ℕ → Reported → Reported
with_item kind item report = record { at = report.at + length item; items = report.items ++ item_at kind report.at item }

-- with more items
abbrev pub with_items : StreamProgress → List (List ℕ) → Reported → Reported
with_items c items report = record { at = report.at + length (concat items); items = report.items ++ items_at c report.at items }

-- with the items that were cleared from it
abbrev pub with_cleared : List ItemAt → Reported → Reported
with_cleared cleared report = record report { items = cleared ++ report.items }

-- the item with a number
abbrev pub nth_item : List ItemAt → ℕ → ItemAt
nth_item items i = slice_index_or items i (record { at = 0; kind = kind.FileHeader; bytes = [] })

-- ---- the report of a stream

-- These bytes are complete items without a fault up to this rest, and lead from here to there. The
-- report has in addition those of the items that aren't parts of page records, in order. It is
-- exact if the bytes end below 2^64.
pub record ReportsTo (from : StreamProgress) (bytes rest : List ℕ) (to : StreamProgress) (before now : Reported) : Type 0 where
  pub front : List ℕ
  pub has_bytes : bytes ≡ front ++ rest
  pub leads : Front from front to
  pub has_items : before.at + length bytes < 2 ^ 64 → now ≡ with_items from leads.items before

-- The report, with the items that were cleared from it, has all of the stream's complete items
-- without a fault that aren't parts of page records.
pub record IsReport (given : Settings) (text : List ℕ) (cleared : List ItemAt) (report : Reported) : Type 0 where
  pub to : StreamProgress
  pub rest : List ℕ
  pub state : StreamState
  pub reports : ReportsTo (start given.frame given.mode given.page_size given.limit given.waiting) text rest to nothing_reported (with_cleared cleared report)
  pub ends : Ends to rest state

-- The reader was made with these settings and this stream, and gave this so far. The report, with
-- the items that were cleared from it, has all items that the reader has read and that aren't parts
-- of page records.
pub record Reports (given : Settings) (text : List ℕ) (so_far : GivenSoFar) (cleared : List ItemAt) (r : Giver) (report : Reported) : Type 0 where
  pub gives : Gives given text so_far r
  pub reports : ReportsTo (start given.frame given.mode given.page_size given.limit given.waiting) text r.rest (all_read so_far r.progress) nothing_reported (with_cleared cleared report)

-- A call of a reader takes this step, and adds to a report what it reads: if the report was the
-- reader's before it, it is after it.
abbrev pub ReportsOn : (GivenSoFar → GivenSoFar) → Giver → Reported → Giver → Reported → Type 0
ReportsOn step old before new now = (given : Settings) (text : List ℕ) (so_far : GivenSoFar) (cleared : List ItemAt)
    → Reports given text so_far cleared old before → Reports given text (step so_far) cleared new now

-- If the reader gives no more, the report is the stream's.
abbrev pub EndsReport : RecordEvent → Settings → List ℕ → List ItemAt → Reported → Type 0
EndsReport (End found) given text cleared report = IsReport given text cleared report
EndsReport other given text cleared report = ⊤

-- ---- laws

-- Each stream has a report.
abbrev pub HasReport : Type 0
HasReport = (given : Settings) (text : List ℕ) → IsPageSize given.page_size → (report : Reported) × IsReport given text [] report

-- It has no other, however much of it is cleared.
abbrev pub HasOneReport : Type 0
HasOneReport = (given : Settings) (text : List ℕ) (gone cleared : List ItemAt) (first second : Reported) → length text < 2 ^ 64
    → IsReport given text gone first → IsReport given text cleared second → with_cleared gone first ≡ with_cleared cleared second

-- Its byte is the one up to which the stream is valid.
abbrev pub ReportsUpToValid : Type 0
ReportsUpToValid = (given : Settings) (text : List ℕ) (cleared : List ItemAt) (report : Reported) → length text < 2 ^ 64 → IsReport given text cleared report → IsValidUpTo given text report.at

-- A longer stream has the same items, and more after them.
abbrev pub LongerTextsReportMore : Type 0
LongerTextsReportMore = (given : Settings) (text more : List ℕ) (first second : Reported) → IsPageSize given.page_size → length (text ++ more) < 2 ^ 64
    → IsReport given text [] first → IsReport given (text ++ more) [] second → (items : List ItemAt) × (second.items ≡ first.items ++ items)

-- ---- private

-- These bytes are read up to `to`, and their items are added to the report. The last `left` bytes
-- aren't read, and the pending ones of these are kept, a part of an item.
pub record ReadsReporting (from : StreamProgress) (bytes : List ℕ) (to : StreamProgress) (pending : List ℕ) (left : ℕ) (state : StreamState) (before now : Reported) : Type 0 where
  pub rest : List ℕ
  pub reports : ReportsTo from bytes rest to before now
  pub ends : Ends to rest state
  pub has_left : length rest ≡ left
  pub has_rest : state ≡ Reading → rest ≡ pending

-- the items that a report had stay its first ones
abbrev pub KeepsItems : Reported → Reported → Type 0
KeepsItems before now = take (length before.items) now.items ≡ before.items
