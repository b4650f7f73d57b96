use Rattle.std.proofs.Common.{ℕ, ◌≡◌, Bool, List}
use Rattle.mig_stream.specs.Reader.{waiting}
use Rattle.mig_mem.specs.Image.{Image}
use Rattle.mig_load_types.specs.declared.settings.LoadSettings.{LoadSettings}
use Rattle.mig_single_load.specs.Loader.{HasPutSections}
use Rattle.mig_single_load.proofs.settle.put_sections.Given as goal

abbrev pub invariant-sections : goal.invariant-sections
invariant-sections g l = record {
  put : (given : LoadSettings) (first : Image) (text : List ℕ) (ended : Bool)
      → HasPutSections given first text ended l.fn.reader l.fn.target → HasPutSections given first text ended l.reader l.target;
  fed : l.reader.fed ≡ l.fn.reader.fed;
  ended : l.reader.ended ≡ l.fn.reader.ended;
}

abbrev pub decreases-sections : goal.decreases-sections
decreases-sections g l = waiting l.reader
