-- A session's state of its sources while it runs: what the bytes of each say by themselves, and the
-- bytes that wait until the load takes them.
use Rattle.std.specs.Prelude.{ℕ, ◌≡◌, List, [], length, get_or, set, Option, None}
use Rattle.std.specs.List.{AllZip}
use Rattle.mig_mem.specs.PageSize.{IsPageSize}
use Rattle.mig_mem.specs.First.{first_some}
use Rattle.mig_load_types.specs.Settings.{main_of, channel_of}
use Rattle.mig_load_types.specs.declared.settings.LoadSettings.{LoadSettings}
use Rattle.mig_sources.specs.declared.counts.Count.{Count}
use Rattle.mig_sources.specs.declared.source.Source.{Source}
use Rattle.mig_sources.specs.declared.source.Source.TheVariants as source
use Rattle.mig_session.specs.declared.places.Noted.{Noted}
use Rattle.mig_answer.specs.declared.verdict.Verdict.{Verdict}
use Rattle.mig_answer.specs.Texts.{Texts, Readings, AreReadings}
use Rattle.mig_answer.specs.MultiLoad.{main_at, channels_at, hello_ids, repeated_hello, sources_verdicts}
use Rattle.mig_session.specs.Scan.{MainScan, ScansMain, Scan, Scans}

-- ---- the state

pub record FedSources : Type 0 where
  pub main : MainScan
  pub channels : List Scan

-- what is noted of each source, and where the main stream is closed
pub record Places : Type 0 where
  pub main : Noted
  pub closed_at : Option ℕ
  pub channels : List Noted

-- the bytes of each source that wait
pub record Waits : Type 0 where
  pub main : List ℕ
  pub channels : List (List ℕ)

abbrev pub waiting_of : Waits → Source → List ℕ
waiting_of w source.Main = w.main
waiting_of w (source.Channel j) = get_or w.channels j []

abbrev pub with_waiting : Source → List ℕ → Waits → Waits
with_waiting source.Main bytes w = record w { main = bytes }
with_waiting (source.Channel j) bytes w = record w { channels = set w.channels j bytes }

-- ---- what it represents

-- This much of each source was read.
pub record Holds (given : LoadSettings) (uuid : List ℕ) (texts : Texts) (s : FedSources) : Type 0 where
  pub main : ScansMain (main_of given) texts.main s.main
  pub channels : AllZip (Scans (channel_of given uuid (length texts.channels))) texts.channels s.channels

-- This is the sources' verdict at the first round, before the main stream's table is known. None if
-- all have that round, and no hello is repeated.
abbrev pub TellsFirst : FedSources → Option Verdict → Type 0
TellsFirst s told = (given : LoadSettings) (uuid : List ℕ) (texts : Texts) (readings : Readings) → IsPageSize given.page_size
    → Holds given uuid texts s → AreReadings given uuid texts readings → readings.main.table ≡ None
    → told ≡ first_some (sources_verdicts 0 (main_at 0 readings) (channels_at 0 readings) (repeated_hello (hello_ids readings)))
