-- How taking an item changes how far a stream has been read.
use Rattle.std.specs.Prelude.{◌≡◌, ◌≤◌, ℕ, List, [], ◌++◌, length, take, Some, None, Result, Ok, Err, ⊤}
use Rattle.mig_stream.specs.declared.item.Due.{Due}
use Rattle.mig_stream.specs.declared.item.Due.TheVariants.{RecordHead}
use Rattle.mig_stream.specs.declared.item.RecordKind.{RecordKind}
use Rattle.mig_stream.specs.declared.stop.Stop.{Stop}
use Rattle.mig_stream.specs.declared.stop.Stop.TheVariants as stop
use Rattle.mig_stream.specs.Progress.{StreamProgress}
use Rattle.mig_mem.specs.First.{first_of}
use Rattle.mig_stream.specs.declared.item.Before.{Before}
use Rattle.mig_stream.specs.declared.item.EarlyPart.{EarlyPart}
use Rattle.mig_stream.specs.declared.item.PassedItem.TheVariants.{SubsectionHead}
use Rattle.mig_stream.specs.Items.{faults, kind_faults, after_kind, after_item, subsection_faults, behind_passed, early_faults, behind_early}
use Rattle.mig_stream.specs.Reading.{Front}
use Rattle.mig_stream.specs.Report.{items_at}

-- An item of this kind is taken if it has no fault, and otherwise its first fault is reported. If
-- an allocation was refused no fault is reported. If the item isn't taken nothing changes.
abbrev pub TakesAs : StreamProgress → Due → List ℕ → StreamProgress → Result ⊤ Stop → Type 0
TakesAs old due item new (Ok done) = (first_of (faults old due item) ≡ None) × (new ≡ after_item old due item)
TakesAs old due item new (Err (stop.Fault fault)) = (first_of (faults old due item) ≡ Some fault) × (new ≡ old)
TakesAs old due item new (Err stop.Memory) = new ≡ old

-- as `TakesAs`, of a record head with this kind and page number, whose flags are accepted
abbrev pub TakesHead : StreamProgress → RecordKind → ℕ → StreamProgress → Result ⊤ Stop → Type 0
TakesHead old kind page new (Ok done) = (first_of (kind_faults old kind page) ≡ None) × (new ≡ after_kind old kind page)
TakesHead old kind page new (Err (stop.Fault fault)) = (first_of (kind_faults old kind page) ≡ Some fault) × (new ≡ old)
TakesHead old kind page new (Err stop.Memory) = new ≡ old

-- the head of a subsection gives the item after it, or its fault
abbrev pub TellsBody : List ℕ → Result Due Stop → Type 0
TellsBody item (Ok due) = (first_of (subsection_faults item) ≡ None) × (due ≡ behind_passed SubsectionHead item)
TellsBody item (Err (stop.Fault fault)) = first_of (subsection_faults item) ≡ Some fault
TellsBody item (Err stop.Memory) = ⊥

-- a part of virtio-mem's early state gives the item after it, or its fault
abbrev pub TellsEarly : Before → EarlyPart → List ℕ → Result Due Stop → Type 0
TellsEarly before part item (Ok due) = (first_of (early_faults part item) ≡ None) × (due ≡ behind_early before part item)
TellsEarly before part item (Err (stop.Fault fault)) = first_of (early_faults part item) ≡ Some fault
TellsEarly before part item (Err stop.Memory) = ⊥

-- some of these bytes, complete items without a fault, were taken
pub record HasTaken (old : StreamProgress) (bytes : List ℕ) (new : StreamProgress) : Type 0 where
  pub front : List ℕ
  pub rest : List ℕ
  pub has_bytes : bytes ≡ front ++ rest
  pub leads : Front old front new

-- the bytes before this rest, complete items without a fault, were taken
abbrev pub HasTakenTo : StreamProgress → List ℕ → List ℕ → StreamProgress → Type 0
HasTakenTo old bytes rest new = (front : List ℕ) × (bytes ≡ front ++ rest) × Front old front new

-- none of these items is reported: each is a part of a page record
unfoldable pub AreParts : StreamProgress → List (List ℕ) → Type 0
AreParts c items = (at : ℕ) → items_at c at items ≡ []

-- these bytes are complete items without a fault, each of them a part of a page record
pub record PageFront (from : StreamProgress) (bytes : List ℕ) (to : StreamProgress) : Type 0 where
  pub leads : Front from bytes to
  pub are_parts : AreParts from leads.items

-- the bytes before this rest, page records, were taken
abbrev pub HasTakenPages : StreamProgress → List ℕ → List ℕ → StreamProgress → Type 0
HasTakenPages old bytes rest new = (front : List ℕ) × (bytes ≡ front ++ rest) × PageFront old front new

-- The first n bytes, complete page records without a fault, were taken. A record is next, and the
-- table stays.
pub record HasTakenRecords (old : StreamProgress) (bytes : List ℕ) (n : ℕ) (new : StreamProgress) : Type 0 where
  pub fits : n ≤ length bytes
  pub leads : PageFront old (take n bytes) new
  pub is_due : new.due ≡ RecordHead
  pub same_left : new.left ≡ old.left
  pub same_blocks : new.blocks ≡ old.blocks
  pub same_page_size : new.page_size ≡ old.page_size
