use Rattle.std.proofs.Common.{ℕ, ◌≡◌, false, List}
use Rattle.mig_stream.specs.Reader.{waiting}
use Rattle.mig_mem.specs.Image.{Image}
use Rattle.mig_load_types.specs.declared.settings.LoadSettings.{LoadSettings}
use Rattle.mig_load_types.specs.Settings.{for_table}
use Rattle.mig_single_load.specs.Loader.{memory_with, HasPutSections}
use Rattle.mig_sections.specs.Sections.{Takes}
use Rattle.mig_sections.proofs.putting.put_sections.Given as goal

abbrev pub invariant-sections : goal.invariant-sections
invariant-sections g l = record {
  takes : (given : LoadSettings) (text : List ℕ) → Takes given (g.M.GuestTarget.image l.fn.memory).table text l.fn.sections l.fn.reader
      → Takes given (g.M.GuestTarget.image l.fn.memory).table text l.sections l.reader;
  puts : (given : LoadSettings) (first : Image) (text : List ℕ)
      → HasPutSections (for_table first.table given) first text false l.fn.reader (memory_with (g.M.GuestTarget.image l.fn.memory) l.fn.named l.fn.sections)
      → HasPutSections (for_table first.table given) first text false l.reader (memory_with (g.M.GuestTarget.image l.memory) l.named l.sections);
  table : (g.M.GuestTarget.image l.memory).table ≡ (g.M.GuestTarget.image l.fn.memory).table;
  named_table : l.named.table ≡ l.fn.named.table;
  fed : l.reader.fed ≡ l.fn.reader.fed;
  ended : l.reader.ended ≡ l.fn.reader.ended;
}

abbrev pub decreases-sections : goal.decreases-sections
decreases-sections g l = waiting l.reader
