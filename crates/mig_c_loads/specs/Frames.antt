-- What C passes to a load beside its streams: which source a piece is of, what they are read as,
-- what ends the rounds, and what may wait.
use Rattle.std.specs.Prelude.{ℕ, ◌-◌, Bool, not, ◌==◌, Option, None, Some, if◌then◌else◌}
use Rattle.mig_stream.specs.declared.item.Frame.{Frame}
use Rattle.mig_stream.specs.declared.item.Frame.TheVariants.{Ram, Machine}
use Rattle.mig_load_types.specs.declared.settings.LoadSettings.{LoadSettings}
use Rattle.mig_sources.specs.declared.source.Source.{Source}
use Rattle.mig_sources.specs.declared.source.Source.TheVariants as source
use Rattle.mig_load_types.specs.declared.settings.RoundEnd.{RoundEnd}
use Rattle.mig_load_types.specs.declared.settings.RoundEnd.TheVariants.{Flush, Eos, AsShown}

-- the source of a number: 0 is the main stream, 1 + j channel j
abbrev pub source_of : ℕ → Source
source_of n = if n == 0 then source.Main else source.Channel (n - 1)

-- 0 is RAM's sections alone, 1 a machine's stream, and no other number is a frame
abbrev pub frame_of : ℕ → Option Frame
frame_of number = if number == 0 then Some Ram else if number == 1 then Some Machine else None

-- 0 is each FLUSH, 1 each EOS, 2 as the stream shows, and no other number ends rounds
abbrev pub round_end_of : ℕ → Option RoundEnd
round_end_of number = if number == 0 then Some Flush else if number == 1 then Some Eos else if number == 2 then Some AsShown else None

-- the most page records of a section or a round: 0 sets no limit
abbrev pub waiting_of : ℕ → Option ℕ
waiting_of count = if count == 0 then None else Some count

-- whether the blocks are zeros when a load begins: any number but 0 says so
abbrev pub are_zeros : ℕ → Bool
are_zeros number = not (number == 0)

abbrev pub load_settings : ℕ → ℕ → Option ℕ → Frame → LoadSettings
load_settings page_size limit waiting frame = record { page_size = page_size; limit = limit; frame = frame; waiting = waiting; round_end = Flush }

-- with another end of a main stream's rounds
abbrev pub with_round_end : LoadSettings → RoundEnd → LoadSettings
with_round_end given ends = record given { round_end = ends }
