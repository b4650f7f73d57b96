-- Ids one after another in one buffer, and where each of them lies.
use Rattle.std.specs.Prelude.{ℕ, ◌≤◌, ◌+◌, List, length, take, drop, map, All}
use Rattle.mig_mem.specs.declared.table.Span.{Span}
use Rattle.mig_mem.specs.RamTable.{Block, RamTable}

abbrev pub span_block : List ℕ → Span → Block
span_block ids s = record { id = take s.len (drop s.start ids); pages = s.pages }

abbrev pub table_of_spans : ℕ → List ℕ → List Span → RamTable
table_of_spans page_size ids spans = record { page_size = page_size; blocks = map (span_block ids) spans }

abbrev pub AllWithin : List ℕ → List Span → Type 0
AllWithin ids spans = All (λ s. s.start + s.len ≤ length ids) spans
