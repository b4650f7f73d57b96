-- The headline in C: what was copied out of a send that ended, fed in any pieces to a load into
-- blocks, is DONE, and the blocks have the memory that was sent.
use Rattle.std.specs.Prelude.{◌≡◌, ◌<◌, ◌+◌, ◌++◌, ℕ, Bool, true, false, List, length, map, All, Option, None}
use Rattle.std.specs.List.{range_with_len}
use Rattle.mig_mem.specs.RamTable.{RamTable, IsTable}
use Rattle.mig_mem.specs.Image.{IsImage, Page}
use Rattle.mig_mem.specs.Round.{IsRound, with_rounds}
use Rattle.mig_mem.specs.Lent.{FitTable, lent_image}
use Rattle.mig_stream.specs.declared.item.Frame.TheVariants.{Ram, Machine}
use Rattle.mig_send.specs.DealtRounds.{DealtRound, channel_text}
use Rattle.mig_send.specs.MultiSending.{Drained}
use Rattle.mig_single_load.specs.LoadInPlace.{LoadInPlace, LoadsInPlace}
use Rattle.mig_sections.specs.Sections.{SectionsLoad, LoadsSections}
use Rattle.mig_answer.specs.Sent.{sent_rounds}
use Rattle.mig_in_place.specs.Law.{taken_texts}
use Rattle.mig_in_place.specs.Session.{InPlaceLoad, StandsFor}
use Rattle.mig_in_place.specs.WholeRounds.{HasRoundsAlone}
use Rattle.mig_load_types.specs.Settings.{for_table}
use Rattle.mig_c_calls.specs.Sending.{whole_stream, open_stream}
use Rattle.mig_c_calls.specs.Named.{IsLongName}
use Rattle.mig_c_calls.specs.declared.send.GuestSend.{GuestSend}
use Rattle.mig_c_calls.specs.declared.sending.Multi.{Multi}
use Rattle.mig_c_calls.specs.Send.{OfSeveral}
use Rattle.mig_c_calls.specs.Multi.{MultiSetting, Sends, IsOver, is_left_open, ended_main}
use Rattle.mig_c_loads.specs.declared.fault.FoundFault.{FoundFault}
use Rattle.mig_c_loads.specs.Found.{no_fault, seen_of_verdict}
use Rattle.mig_c_loads.specs.InPlace.{settings_into, TellsVerdict}
use Rattle.mig_c_loads.specs.BySections as sections
use Rattle.mig_c_loads.specs.ByRounds.{RoundsLoad, opened}

-- ---- one stream

-- All bytes of a send of one stream that was ended, which has sent these rounds: its `drain`
-- promises that they were copied out, once it returns 0. Fed to a load into blocks of the same
-- table, they are loaded: C sees DONE, and the blocks have the rounds on top of what they held.
-- START and END count as a section each.
abbrev pub DrainedIsLoaded : Type 0
DrainedIsLoaded = (table : RamTable) (rounds : List (List Page)) (given : List ℕ) → IsTable table → All (IsRound table) rounds → given ≡ whole_stream None table rounds
    → (before after : List (List ℕ)) (load : LoadInPlace) (ended : Bool) (found : FoundFault) → FitTable table before
    → LoadsInPlace (lent_image table after) (settings_into table Ram None) (lent_image table before) load given ended → TellsVerdict found load
    → (found ≡ no_fault) × (load.rounds ≡ length rounds + 2) × (lent_image table after ≡ with_rounds (lent_image table before) rounds)

-- the stream of these rounds, ended with its end byte, or left open behind RAM's END
abbrev pub ended_stream : Bool → Option (List ℕ) → RamTable → List (List Page) → List ℕ
ended_stream false name table rounds = whole_stream name table rounds
ended_stream true name table rounds = open_stream name table rounds

-- So it is of a send with a machine's name, or one that was left open. Its stream may go on with
-- anything.
abbrev pub DrainedMachineStreamIsLoaded : Type 0
DrainedMachineStreamIsLoaded = (table : RamTable) (name : Option (List ℕ)) (left_open : Bool) (rounds : List (List Page)) (given behind : List ℕ) → IsTable table → All (IsRound table) rounds
    → (IsLongName name → ⊥) → given ≡ ended_stream left_open name table rounds
    → (before after : List (List ℕ)) (load : LoadInPlace) (ended : Bool) (found : FoundFault) → FitTable table before
    → LoadsInPlace (lent_image table after) (settings_into table Machine None) (lent_image table before) load (given ++ behind) ended → TellsVerdict found load
    → (found ≡ no_fault) × (load.rounds ≡ length rounds + 2) × (lent_image table after ≡ with_rounds (lent_image table before) rounds)

-- So it is of loads by whole sections.
abbrev pub DrainedIsLoadedBySections : Type 0
DrainedIsLoadedBySections = (table : RamTable) (rounds : List (List Page)) (given : List ℕ) → IsTable table → All (IsRound table) rounds → given ≡ whole_stream None table rounds
    → (before after : List (List ℕ)) (load : SectionsLoad) (ended : Bool) (found : FoundFault) → FitTable table before
    → LoadsSections (lent_image table after) (settings_into table Ram None) (lent_image table before) load given ended → sections.TellsVerdict found load
    → (found ≡ no_fault) × (load.sections ≡ length rounds + 2) × (lent_image table after ≡ with_rounds (lent_image table before) rounds)

abbrev pub DrainedMachineStreamIsLoadedBySections : Type 0
DrainedMachineStreamIsLoadedBySections = (table : RamTable) (name : Option (List ℕ)) (left_open : Bool) (rounds : List (List Page)) (given behind : List ℕ) → IsTable table → All (IsRound table) rounds
    → (IsLongName name → ⊥) → given ≡ ended_stream left_open name table rounds
    → (before after : List (List ℕ)) (load : SectionsLoad) (ended : Bool) (found : FoundFault) → FitTable table before
    → LoadsSections (lent_image table after) (settings_into table Machine None) (lent_image table before) load (given ++ behind) ended → sections.TellsVerdict found load
    → (found ≡ no_fault) × (load.sections ≡ length rounds + 2) × (lent_image table after ≡ with_rounds (lent_image table before) rounds)

-- ---- several channels

-- the channels' bytes that were copied out, with the pages that were sent after heads
abbrev pub channels_out : ℕ → Drained → List (List ℕ)
channels_out channels given = map given.channel (range_with_len 0 channels)

-- All bytes of a sender on several channels, which was ended, or left open, were copied out: of its
-- main stream, and of each channel. Each drain promises it once it returns 0. Pages that C sent
-- after the head of their packet count among them (`GivesHead`).
pub record IsAllOfChannels (setting : MultiSetting) (given : Drained) (rounds : List DealtRound) (left_open : Bool) (m : Multi) : Type 0 where
  pub sends : Sends setting given rounds m
  pub is_over : IsOver m.state
  pub is_ended_so : is_left_open m.state ≡ left_open
  pub all_of_main : given.main ≡ ended_main left_open setting.name setting.table (length rounds)
  pub all_of_channels : (channel : ℕ) → channel < setting.channels → given.channel channel ≡ channel_text setting.uuid rounds channel

-- all bytes of a send on several channels
abbrev pub IsAllOf : MultiSetting → Drained → List DealtRound → Bool → GuestSend → Type 0
IsAllOf setting given rounds left_open send = OfSeveral (IsAllOfChannels setting given rounds left_open) send

-- what C sees of a load that is done with so many rounds
abbrev pub IsDone : ℕ → InPlaceLoad → Type 0
IsDone rounds load = (seen_of_verdict load.rounds load.verdict ≡ no_fault) × (load.rounds ≡ rounds)

-- Of a send without a machine's name that was ended with its end byte: all of them were taken by a
-- load into blocks of the same table. It is done, and the blocks have the rounds that were sent.
abbrev pub DrainedChannelsAreLoaded : Type 0
DrainedChannelsAreLoaded = (setting : MultiSetting) (given : Drained) (rounds : List DealtRound) (send : GuestSend) → IsAllOf setting given rounds false send
    → setting.name ≡ None
    → (before after : List (List ℕ)) (load : InPlaceLoad) (ended : Bool) → FitTable setting.table before → FitTable setting.table after
    → StandsFor (settings_into setting.table Ram None) setting.uuid (lent_image setting.table before) (taken_texts given.main ended (channels_out setting.channels given)) (lent_image setting.table after) load
    → IsDone (length rounds) load × (lent_image setting.table after ≡ with_rounds (lent_image setting.table before) (sent_rounds rounds))

-- So it is of a load by whole rounds, whose blocks have the rounds counted alone.
abbrev pub DrainedChannelsAreLoadedByRounds : Type 0
DrainedChannelsAreLoadedByRounds = (setting : MultiSetting) (given : Drained) (rounds : List DealtRound) (send : GuestSend) → IsAllOf setting given rounds false send
    → setting.name ≡ None
    → (before after : List (List ℕ)) (load : RoundsLoad) (ended : Bool) → FitTable setting.table before → IsImage (opened load after)
    → StandsFor (settings_into setting.table Ram None) setting.uuid (lent_image setting.table before) (taken_texts given.main ended (channels_out setting.channels given)) (opened load after) load.load
    → HasRoundsAlone (for_table setting.table (settings_into setting.table Ram None)) setting.uuid (lent_image setting.table before)
    (taken_texts given.main ended (channels_out setting.channels given)) load.load.rounds (lent_image setting.table after)
    → IsDone (length rounds) load.load × (lent_image setting.table after ≡ with_rounds (lent_image setting.table before) (sent_rounds rounds))

-- So it is of a send with a machine's name, or one that was left open behind RAM's END. Its main
-- stream may go on with anything.
abbrev pub DrainedMachineIsLoaded : Type 0
DrainedMachineIsLoaded = (setting : MultiSetting) (given : Drained) (rounds : List DealtRound) (left_open : Bool) (send : GuestSend) → IsAllOf setting given rounds left_open send
    → (IsLongName setting.name → ⊥) → (behind : List ℕ) (before after : List (List ℕ)) (load : InPlaceLoad) (ended : Bool) → FitTable setting.table before → FitTable setting.table after
    → StandsFor (settings_into setting.table Machine None) setting.uuid (lent_image setting.table before) (taken_texts (given.main ++ behind) ended (channels_out setting.channels given)) (lent_image setting.table after) load
    → IsDone (length rounds) load × (lent_image setting.table after ≡ with_rounds (lent_image setting.table before) (sent_rounds rounds))
