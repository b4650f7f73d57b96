-- What a sender writes of a table and rounds: RAM's sections alone, or in a machine's stream.
use Rattle.std.specs.Prelude.{◌≡◌, ◌≤◌, ◌+◌, ◌++◌, ℕ, List, map, length, Option, IfSome, All, Result, Ok, ⊤}
use Rattle.mig_mem.specs.RamTable.{RamTable, IsTable}
use Rattle.mig_mem.specs.Image.{Image, Page, IsImage}
use Rattle.mig_mem.specs.Round.{IsRound, with_rounds}
use Rattle.mig_stream.specs.declared.item.Frame.TheVariants.{Ram, Machine}
use Rattle.mig_stream.specs.Format.{most_name_bytes}
use Rattle.mig_stream.specs.Text.{total_bytes}
use Rattle.mig_stream.specs.Written.{RoundPart, single}
use Rattle.mig_stream.specs.MachineWritten.{machine_written}
use Rattle.mig_load_types.specs.declared.settings.LoadSettings.{LoadSettings}
use Rattle.mig_load_types.specs.declared.fault.LoadFault.{LoadFault}
use Rattle.mig_load_types.specs.Settings.{LetsThrough}
use Rattle.mig_single_load.specs.InPlace.{HasRecordsOnto, HasVerdictOnto}

-- These bytes begin with the single stream that a sender writes of a table and rounds. The table is
-- within a limit.
pub record IsSent (limit : ℕ) (table : RamTable) (rounds : List (List Page)) (text : List ℕ) : Type 0 where
  pub is_table : IsTable table
  pub has_limit : total_bytes table ≤ limit
  pub are_rounds : All (IsRound table) rounds
  pub behind : List ℕ
  pub is_text : text ≡ single table rounds ++ behind

-- These bytes begin with those that a sender writes of a table and rounds in a machine's stream,
-- with a machine's name or without one. The table is within a limit.
pub record IsMachineSent (limit : ℕ) (table : RamTable) (rounds : List (List Page)) (text : List ℕ) : Type 0 where
  pub is_table : IsTable table
  pub has_limit : total_bytes table ≤ limit
  pub are_rounds : All (IsRound table) rounds
  pub name : Option (List ℕ)
  pub has_name : IfSome name (λ bytes. length bytes ≤ most_name_bytes)
  pub behind : List ℕ
  pub is_text : text ≡ machine_written name table (map RoundPart rounds) ++ behind

-- They are loaded in place, whatever follows the stream: the rounds are in the memory, on top of
-- what it held, and the verdict is Ok. START and END count as a section each. A limit on what waits
-- lets the rounds through.
abbrev pub SentIsLoadedWithin : Type 0
SentIsLoadedWithin = (given : LoadSettings) (first : Image) (rounds : List (List Page)) (text : List ℕ) (memory : Image) (sections : ℕ) (verdict : Result ⊤ LoadFault) → IsImage first
    → given.frame ≡ Ram → LetsThrough given.waiting rounds → IsSent given.limit first.table rounds text
    → HasRecordsOnto given first text memory sections → HasVerdictOnto given first text verdict
    → (memory ≡ with_rounds first rounds) × (sections ≡ length rounds + 2) × (verdict ≡ Ok _)

-- So it is in a machine's frame, whatever follows RAM's END.
abbrev pub MachineSentIsLoadedInPlace : Type 0
MachineSentIsLoadedInPlace = (given : LoadSettings) (first : Image) (rounds : List (List Page)) (text : List ℕ) (memory : Image) (sections : ℕ) (verdict : Result ⊤ LoadFault) → IsImage first
    → given.frame ≡ Machine → LetsThrough given.waiting rounds → IsMachineSent given.limit first.table rounds text
    → HasRecordsOnto given first text memory sections → HasVerdictOnto given first text verdict
    → (memory ≡ with_rounds first rounds) × (sections ≡ length rounds + 2) × (verdict ≡ Ok _)
