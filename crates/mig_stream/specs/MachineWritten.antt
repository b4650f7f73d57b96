-- A writer's RAM sections in a machine's stream. The caller writes the devices after them.
use Rattle.std.specs.Prelude.{◌≡◌, ℕ, ◌≤◌, List, [], ◌∷◌, ◌++◌, length, map, replicate, Option, None, IfSome, All}
use Rattle.mig_mem.specs.Image.{Page}
use Rattle.mig_mem.specs.RamTable.{RamTable, IsTable}
use Rattle.mig_mem.specs.Round.{IsRound}
use Rattle.mig_stream.specs.declared.item.Mode.TheVariants.{Single, Main}
use Rattle.mig_stream.specs.declared.item.Section.TheVariants as sections
use Rattle.mig_stream.specs.Format.{most_name_bytes, end_byte}
use Rattle.mig_stream.specs.Text.{body, section, file_header, configuration, start_head, size_list, total_bytes}
use Rattle.mig_stream.specs.Machine.{IsMachineText}
use Rattle.mig_stream.specs.Written.{Part, RoundPart, FlushPart, written_id, written_record, written_parts, written}

-- the machine's name in a configuration, or none; then RAM's START, the parts, and END without an
-- end byte
abbrev pub machine_written : Option (List ℕ) → RamTable → List Part → List ℕ
machine_written name table parts = file_header ++ configuration name ++ start_head written_id ++ size_list table ++ body table written_id []
    ++ written_parts table None parts ++ section table sections.End written_id []

-- with the end byte after RAM's END: a complete stream
abbrev pub machine_closed : Option (List ℕ) → RamTable → List Part → List ℕ
machine_closed name table parts = machine_written name table parts ++ end_byte ∷ []

-- Without a name it is what a writer writes of RAM alone.
abbrev pub WrittenIsClosed : Type 0
WrittenIsClosed = (table : RamTable) (parts : List Part) → machine_closed None table parts ≡ written table parts

-- The bytes after the file header are equal for each machine: its configuration goes between.
abbrev pub ConfiguredIsWritten : Type 0
ConfiguredIsWritten = (name : Option (List ℕ)) (table : RamTable) (parts : List Part) (bytes : List ℕ) → file_header ++ bytes ≡ machine_written None table parts
    → file_header ++ configuration name ++ bytes ≡ machine_written name table parts

abbrev pub ConfiguredIsClosed : Type 0
ConfiguredIsClosed = (name : Option (List ℕ)) (table : RamTable) (parts : List Part) (bytes : List ℕ) → file_header ++ bytes ≡ written table parts
    → file_header ++ configuration name ++ bytes ≡ machine_closed name table parts

-- The bytes that a writer writes for a machine's stream, of rounds or of FLUSHes, are a machine's
-- stream.
abbrev pub MachineSinglesAreTexts : Type 0
MachineSinglesAreTexts = (limit : ℕ) (name : Option (List ℕ)) (table : RamTable) (rounds : List (List Page)) → IfSome name (λ bytes. length bytes ≤ most_name_bytes)
    → IsTable table → total_bytes table ≤ limit → All (IsRound table) rounds
    → IsMachineText Single limit (machine_written name table (map RoundPart rounds)) table ([] ∷ map (map written_record) rounds ++ [] ∷ [])

abbrev pub MachineMainsAreTexts : Type 0
MachineMainsAreTexts = (limit : ℕ) (name : Option (List ℕ)) (table : RamTable) (n : ℕ) → IfSome name (λ bytes. length bytes ≤ most_name_bytes)
    → IsTable table → total_bytes table ≤ limit → IsMachineText Main limit (machine_written name table (replicate n FlushPart)) table (replicate n [])
