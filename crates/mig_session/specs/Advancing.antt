-- How a session advances: its load takes what it can of the bytes so far, and the verdict is told.
use Rattle.std.specs.Prelude.{ℕ, ◌≡◌, List, length, Option, None, Some}
use Rattle.std.specs.Option.{option_map}
use Rattle.mig_stream.specs.Reader.{HasTable}
use Rattle.mig_load_types.specs.Settings.{main_of}
use Rattle.mig_load_types.specs.declared.settings.LoadSettings.{LoadSettings}
use Rattle.mig_load_types.specs.declared.fault.Origin.TheVariants as origin
use Rattle.mig_load_types.specs.declared.fault.Fault.TheVariants as fault
use Rattle.mig_answer.specs.declared.verdict.Verdict.{Verdict}
use Rattle.mig_answer.specs.Texts.{Readings, AreReadings}
use Rattle.mig_answer.specs.Rounds.{memory_at, missing_at}
use Rattle.mig_answer.specs.MultiLoad.{IsFirstStop, failed, verdict_at}
use Rattle.mig_sources.specs.declared.source.Source.{Source}
use Rattle.mig_sources.specs.Sources.{Counts, counts_in, feed_step}
use Rattle.mig_session.specs.Sources.{Waits, Holds}
use Rattle.mig_session.specs.Loading.{RoundLoad, Feeding, HasRoom, AllWait, TakesOrWaits, Settles}
use Rattle.mig_session.specs.Session.{Fed, Held, held_of, rounds_loaded, missing_in, IsOfSession}

-- all rounds before the first fault are counted, and this is the verdict
pub record TellsVerdict (readings : Readings) (target : Option Held) (verdict : Verdict) : Type 0 where
  pub is_first_stop : IsFirstStop readings (rounds_loaded target)
  pub has_memory : option_map (λ t. t.memory) target ≡ memory_at (rounds_loaded target) readings
  pub has_missing : missing_in target ≡ missing_at (rounds_loaded target) readings
  pub has_verdict : verdict ≡ verdict_at (rounds_loaded target) readings

-- this is so of the streams so far
pub record IsTold (f : Feeding) (load : Option RoundLoad) (verdict : Verdict) : Type 0 where
  pub readings : Readings
  pub are_readings : AreReadings f.given f.uuid f.texts readings
  pub told : TellsVerdict readings (option_map held_of load) verdict

-- the verdict if an allocation was refused after this many rounds
abbrev pub failed_without_memory : ℕ → Verdict
failed_without_memory rounds = failed rounds origin.Round fault.NoMemory

-- The session was made with these settings and UUID, for so many channels.
pub record IsMadeWith (settings : LoadSettings) (uuid : List ℕ) (channels : ℕ) (f : Feeding) : Type 0 where
  pub has_settings : settings ≡ f.given
  pub has_uuid : uuid ≡ f.uuid
  pub has_channels : channels ≡ length f.texts.channels
  pub is_of_session : IsOfSession f.given f.texts

-- All of the streams was read, and what the load didn't take waits. There is a load if the table is
-- known.
pub record IsReady (f : Feeding) (fed : Fed) (load : Option RoundLoad) : Type 0 where
  pub is_of_session : IsOfSession f.given f.texts
  pub holds : Holds f.given f.uuid f.texts fed.read
  pub takes : TakesOrWaits f fed.waiting load
  pub has_none : load ≡ None → HasTable (main_of f.given) f.texts.main.bytes None

-- The streams before a piece that is counted already.
pub record IsFedNext (settings : LoadSettings) (uuid : List ℕ) (counts : Counts) (from : Source) (piece : List ℕ) (f : Feeding) (fed : Fed)
    (load : Option RoundLoad) : Type 0 where
  pub is_made : IsMadeWith settings uuid (length counts.channels) f
  pub has_counts : counts ≡ counts_in (feed_step from piece f.texts)
  pub has_room : HasRoom f.texts from (length piece)
  pub holds : Holds f.given f.uuid f.texts fed.read
  pub takes : TakesOrWaits f fed.waiting load

-- After a source has ended: the load has settled, and what it didn't take waits.
abbrev pub LoadsAfter : Feeding → Waits → Option RoundLoad → Type 0
LoadsAfter f w None = AllWait w f.texts × HasTable (main_of f.given) f.texts.main.bytes None
LoadsAfter f w (Some l) = Settles f w l
