-- A load whose pages others read to their places, apart from its calls.
use Rattle.std.specs.Prelude.{ℕ, ◌≡◌, List}
use Rattle.mig_mem.specs.Image.{Image}
use Rattle.mig_mem.specs.Round.{with_round}
use Rattle.mig_load_types.specs.declared.settings.LoadSettings.{LoadSettings}
use Rattle.mig_answer.specs.Texts.{Texts}
use Rattle.mig_sources.specs.declared.source.Source.TheVariants as source
use Rattle.mig_sources.specs.Sources.{feed_step}
use Rattle.mig_in_place.specs.Session.{InPlaceLoad, StandsFor}
use Rattle.mig_in_place.specs.TakenPackets.{packet_bytes, pages_taken}

-- A packet of a channel was taken, whatever the memory is: if the load represented some streams
-- with a memory, it represents them, and the packet, with the packet's pages in that memory.
abbrev pub TakesApart : ℕ → List ℕ → List (List ℕ) → InPlaceLoad → InPlaceLoad → Type 0
TakesApart channel head contents old new = (given : LoadSettings) (uuid : List ℕ) (first : Image) (texts : Texts) (memory : Image) → memory.table ≡ old.table
    → StandsFor given uuid first texts memory old
    → StandsFor given uuid first (feed_step (source.Channel channel) (packet_bytes head contents) texts) (with_round memory (pages_taken memory.table head contents)) new
