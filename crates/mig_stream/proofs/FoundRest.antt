-- What is left of a stream from each kind of item on.
use Rattle.std.proofs.Common.{◌≡◌, ℕ, ◌+◌, ◌^◌, ◌<◌, false, cond, List, [], ◌∷◌, ◌++◌, length, Some, None}
use Rattle.std.specs.Prelude.{◌&&◌}
use Rattle.std.specs.List.{flat_map}
use Rattle.mig_stream.specs.declared.item.Before.{Before}
use Rattle.mig_stream.specs.declared.item.Before.TheVariants as before
use Rattle.mig_stream.specs.declared.item.Section.TheVariants as section
use Rattle.mig_stream.specs.declared.item.EntryForm.TheVariants.{Addressed, Sized}
use Rattle.mig_stream.specs.declared.item.EarlyPart.{EarlyPart}
use Rattle.mig_stream.specs.declared.item.EarlyPart.TheVariants as early
use Rattle.mig_stream.specs.declared.item.PassedItem.{PassedItem}
use Rattle.mig_stream.specs.declared.item.PassedItem.TheVariants as pass
use Rattle.mig_stream.specs.declared.item.Due.{Due}
use Rattle.mig_stream.specs.declared.item.Due.TheVariants.{FileHeader, TypeByte, ConfigLength, ConfigName, StartHead, SectionHead, RecordHead, ListEntry}
use Rattle.mig_stream.specs.declared.item.Due.TheVariants.{PageSize, BlockName, Content, Footer, Passed, Nothing}
use Rattle.mig_stream.specs.Fields.{be32, be64}
use Rattle.mig_stream.specs.Format.{section_type}
use Rattle.mig_stream.specs.Text.{footer}
use Rattle.mig_stream.specs.Items.{is_machine, is_before_start, is_addressed, plugged_words}
use Rattle.mig_stream.specs.Machine.{Command, command_bytes, IsCommand, is_advise, EarlyState, early_bytes, IsEarlyState}
use Rattle.mig_stream.specs.Progress.{StreamProgress, whole_table}
use Rattle.mig_stream.proofs.FoundPages.{RestOfBody, RestOfPage, RestOfName}
use Rattle.mig_stream.proofs.FoundSections.{RestOfFooter, RestOfSection}
use Rattle.mig_stream.proofs.FoundList.{RestOfEntries, RestOfTail, RestOfList}
use Rattle.mig_stream.proofs.FoundTail.{RestOfEnd, RestOfParts, Behind}
use Rattle.mig_stream.proofs.FoundOpening.{RestOfStart, RestOfPassed, RestOfConfigured, RestOfBodyOf, RestOfSubsection, RestOfNames, RestOfConfigName}
use Rattle.mig_stream.proofs.FoundOpening.{RestOfConfigLength, RestOfOpening, RestOfFile}

-- the rest from a type byte on, up to the point of the reading `to`
abbrev pub RestAtType : StreamProgress → StreamProgress → Before → List ℕ → Type 0
RestAtType to c before.FileHeader bytes = c.left ≡ None → RestOfOpening to c bytes
RestAtType to c before.Configuration bytes = c.left ≡ None → RestOfConfigured to c bytes
RestAtType to c before.Command bytes = c.left ≡ None → RestOfPassed to c bytes
RestAtType to c before.Footer bytes = c.left ≡ Some 0 → RestOfParts to c bytes
RestAtType to c before.LastFooter bytes = is_machine c.frame ≡ false → RestOfEnd to c bytes

-- A COMMAND is left, and what stands after it.
pub record RestOfCommand (to c : StreamProgress) (b : Before) (bytes : List ℕ) : Type 0 where
  pub command_is : Command
  pub tail : List ℕ
  pub has_bytes : bytes ≡ command_bytes command_is ++ tail
  pub is_command : IsCommand command_is
  pub fits : (is_addressed c.form && (is_before_start b && is_advise command_is)) ≡ false
  pub rest : RestAtType to (record c { due = TypeByte b; form = cond (is_before_start b && is_advise command_is) Sized c.form }) b tail

-- Words of virtio-mem's early state are left, its footer, and what stands after it.
pub record RestOfWords (to c : StreamProgress) (b : Before) (id n : ℕ) (bytes : List ℕ) : Type 0 where
  pub words : List ℕ
  pub has_length : length words ≡ n
  pub tail : List ℕ
  pub has_bytes : bytes ≡ flat_map be64 words ++ (footer id ++ tail)
  pub rest : RestAtType to (record c { due = TypeByte b }) b tail

-- The numbers of virtio-mem's early state are left, and its words.
pub record RestOfNumbers (to c : StreamProgress) (b : Before) (id : ℕ) (bytes : List ℕ) : Type 0 where
  pub address : ℕ
  pub region : ℕ
  pub block_size : ℕ
  pub node : ℕ
  pub plugged : ℕ
  pub has_region : region < 2 ^ 64
  pub has_blocks : 0 < block_size
  pub has_block_size : block_size < 2 ^ 64
  pub behind : List ℕ
  pub has_bytes : bytes ≡ (be64 address ++ be64 region ++ be64 block_size ++ be32 node ++ be64 plugged) ++ behind
  pub rest : RestOfWords to c b id (plugged_words region block_size) behind

-- Virtio-mem's early state is left, but for its type byte, and what stands after it.
pub record RestOfEarly (to c : StreamProgress) (b : Before) (bytes : List ℕ) : Type 0 where
  pub early_is : EarlyState
  pub is_early : IsEarlyState early_is
  pub tail : List ℕ
  pub has_bytes : bytes ≡ early_bytes early_is ++ tail
  pub rest : RestAtType to (record c { due = TypeByte b }) b tail

abbrev pub RestAtEarly : StreamProgress → StreamProgress → Before → EarlyPart → List ℕ → Type 0
RestAtEarly to c b early.Head bytes = RestOfEarly to c b bytes
RestAtEarly to c b (early.Numbers id) bytes = RestOfNumbers to c b id bytes
RestAtEarly to c b (early.Plugged id others) bytes = RestOfWords to c b id (others + 1) bytes
RestAtEarly to c b (early.Footer id) bytes = RestOfWords to c b id 0 bytes

-- an item that is passed over, and what stands after it
abbrev pub RestAtPassed : StreamProgress → StreamProgress → PassedItem → List ℕ → Type 0
RestAtPassed to c (pass.Command b) bytes = RestOfCommand to c b bytes
RestAtPassed to c pass.SubsectionHead bytes = c.left ≡ None → RestOfSubsection to c bytes
RestAtPassed to c (pass.SubsectionBody kind) bytes = c.left ≡ None → RestOfBodyOf to c kind bytes
RestAtPassed to c (pass.Capability others) bytes = c.left ≡ None → RestOfNames to c (others + 1) bytes
RestAtPassed to c (pass.Address last) bytes = RestOfTail (Behind to) c Addressed last bytes
RestAtPassed to c (pass.Early b part) bytes = RestAtEarly to c b part bytes

-- Each kind says what of the size list must have been read before it: nothing, or all of it.
abbrev pub RestAt : StreamProgress → StreamProgress → Due → List ℕ → Type 0
RestAt to c FileHeader bytes = c.left ≡ None → RestOfFile to c bytes
RestAt to c (TypeByte b) bytes = RestAtType to c b bytes
RestAt to c ConfigLength bytes = c.left ≡ None → RestOfConfigLength to c bytes
RestAt to c (ConfigName len) bytes = c.left ≡ None → RestOfConfigName to c len bytes
RestAt to c StartHead bytes = c.left ≡ None → c.section ≡ section.Start → RestOfStart (section_type section.Start ∷ []) to c bytes
RestAt to c SectionHead bytes = c.left ≡ Some 0 → RestOfSection (Behind to) c bytes
RestAt to c RecordHead bytes = (c.left ≡ None → RestOfList (Behind to) c bytes) × (c.left ≡ Some 0 → RestOfBody (Behind to) c bytes)
RestAt to c ListEntry bytes = RestOfEntries (Behind to) c bytes
RestAt to c (PageSize last) bytes = RestOfTail (Behind to) c Sized last bytes
RestAt to c (BlockName f page) bytes = c.left ≡ Some 0 → RestOfName (Behind to) c f page bytes
RestAt to c (Content f place) bytes = c.left ≡ Some 0 → RestOfPage (Behind to) c f place bytes
RestAt to c Footer bytes = c.left ≡ Some 0 → RestOfFooter (Behind to) c bytes
RestAt to c (Passed passed) bytes = RestAtPassed to c passed bytes
RestAt to c Nothing bytes = (bytes ≡ []) × (to.rounds ≡ c.rounds) × (whole_table to ≡ whole_table c) × (to.due ≡ Nothing)

-- what is left from the item that is due on
abbrev pub RestFrom : StreamProgress → StreamProgress → List ℕ → Type 0
RestFrom to c bytes = RestAt to c c.due bytes
