-- The settings that a caller passes to a load with its streams, and those of the streams' readers.
use Rattle.std.specs.Prelude.{ℕ, ◌≤◌, List, length, Option, Some, None, All, ⊤}
use Rattle.mig_mem.specs.RamTable.{RamTable}
use Rattle.mig_mem.specs.Image.{Page}
use Rattle.mig_stream.specs.declared.item.Frame.TheVariants.{Ram}
use Rattle.mig_stream.specs.declared.item.Mode.{Mode}
use Rattle.mig_stream.specs.declared.item.Mode.TheVariants.{Single, Main, MainBySection, MainAsShown}
use Rattle.mig_stream.specs.Reading.{Settings, settings, in_frame, with_waiting}
use Rattle.mig_packet.specs.Reading as channel
use Rattle.mig_load_types.specs.declared.settings.LoadSettings.{LoadSettings}
use Rattle.mig_load_types.specs.declared.settings.RoundEnd.{RoundEnd}
use Rattle.mig_load_types.specs.declared.settings.RoundEnd.TheVariants.{Flush, Eos, AsShown}

-- for a stream of RAM's sections alone
abbrev pub ram_settings : ℕ → ℕ → LoadSettings
ram_settings page_size limit = record { page_size = page_size; limit = limit; frame = Ram; waiting = None; round_end = Flush }

-- for the stream of a guest whose table is known, which has its own page size
abbrev pub for_table : RamTable → LoadSettings → LoadSettings
for_table table given = record given { page_size = table.page_size }

-- the settings of the reader of a single stream
abbrev pub single_of : LoadSettings → Settings
single_of given = with_waiting given.waiting (in_frame given.frame (settings Single given.page_size given.limit))

-- the mode of the reader of a main stream, by what ends its rounds
abbrev pub mode_of : RoundEnd → Mode
mode_of Flush = Main
mode_of Eos = MainBySection
mode_of AsShown = MainAsShown

-- the settings of the reader of a main stream
abbrev pub main_of : LoadSettings → Settings
main_of given = with_waiting given.waiting (in_frame given.frame (settings (mode_of given.round_end) given.page_size given.limit))

-- the settings of the reader of one of so many channels under this UUID
abbrev pub channel_of : LoadSettings → List ℕ → ℕ → channel.Settings
channel_of given uuid channels = channel.with_waiting given.waiting (channel.settings given.page_size uuid channels)

-- Rounds of a single stream are let through by a limit on what waits: none has more pages. None is
-- no limit.
abbrev pub LetsThrough : Option ℕ → List (List Page) → Type 0
LetsThrough None rounds = ⊤
LetsThrough (Some limit) rounds = All (λ round. length round ≤ limit) rounds
