-- Tables as C passes them.
use Rattle.std.specs.Prelude.{ℕ, ◌==◌, ◌-◌, List, ◌++◌, map, length, replicate}
use Rattle.std.specs.List.{before_first}
use Rattle.mig_mem.specs.RamTable.{Block, RamTable}
use Rattle.mig_c_calls.specs.declared.block.NamedBlock.{NamedBlock}

-- the id is the bytes before the first 0, as in QEMU's `idstr`
abbrev pub id_in : List ℕ → List ℕ
id_in bytes = before_first (λ byte. byte == 0) bytes

abbrev pub block_in : NamedBlock → Block
block_in b = record { id = id_in b.id; pages = b.pages }

-- the id as C gets it, with zeros after it
abbrev pub named_id : List ℕ → List ℕ
named_id id = id ++ replicate (256 - length id) 0

abbrev pub named : Block → NamedBlock
named b = record { id = named_id b.id; pages = b.pages }

abbrev pub table_of : ℕ → List NamedBlock → RamTable
table_of page_size blocks = record { page_size = page_size; blocks = map block_in blocks }
