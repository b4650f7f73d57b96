-- The effect of the call that creates a table, by status.
use Rattle.std.specs.Prelude.{◌≡◌, ◌≢◌, ℕ, List, Option, None, Some}
use Rattle.mig_mem.specs.RamTable.{RamTable}
use Rattle.mig_mem.specs.PageSize.{IsPageSize}
use Rattle.mig_mem.specs.Refusal.{refusal, fault_number}
use Rattle.mig_mem.specs.declared.fault.TableFault.{TableFault}
use Rattle.mig_mem.specs.declared.fault.TableFault.TheVariants as fault
use Rattle.mig_c_calls.specs.declared.block.NamedBlock.{NamedBlock}
use Rattle.mig_c_calls.specs.Blocks.{table_of}
use Rattle.mig_c_calls.specs.Status.{done, no_memory, bad_page_size}

-- The fault is that of the block with this number. If it isn't one block's, the number is 0.
abbrev pub IsAt : TableFault → ℕ → Type 0
IsAt (fault.Id i) entry = entry ≡ i
IsAt (fault.IdTwice i) entry = entry ≡ i
IsAt (fault.NoPages i) entry = entry ≡ i
IsAt _ entry = entry ≡ 0

-- The table is created if nothing is wrong with its blocks. Otherwise the status is the first thing
-- that is wrong, or `NoMemory`.
pub record Makes (page_size : ℕ) (blocks : List NamedBlock) (status entry : ℕ) (made : Option RamTable) : Type 0 where
  pub makes : status ≡ done → made ≡ Some (table_of page_size blocks)
  pub is_lawful : status ≡ done → refusal (table_of page_size blocks) ≡ None
  pub wrong : status ≡ bad_page_size → IsPageSize page_size → ⊥
  pub has_size : status ≢ bad_page_size → IsPageSize page_size
  pub refused : status ≢ done → status ≢ bad_page_size → status ≢ no_memory
      → (fault : TableFault) × (refusal (table_of page_size blocks) ≡ Some fault) × (status ≡ fault_number fault) × IsAt fault entry
  pub no_block : status ≡ no_memory → entry ≡ 0
