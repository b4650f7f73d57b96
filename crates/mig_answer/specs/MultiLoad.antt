-- The answer of a load on several channels: one function of its streams so far.
use Rattle.std.specs.Prelude.{ℕ, ◌≡◌, ◌⊎◌, ◌<◌, Bool, false, ◌&&◌, ◌==◌, if◌then◌else◌, List, [], ◌∷◌, ◌++◌, length, map, take, get_or, find, Option, Some, None, is_none, IsTrue, IsFalse, Result, Ok, Err, ⊤, Vec}
use Rattle.std.specs.Bool.{then_some}
use Rattle.std.specs.List.{list_any, list_all, range_with_len, enumerate_from}
use Rattle.std.specs.Option.{option_map, unwrap_or, IsSomeAnd}
use Rattle.mig_mem.specs.First.{first_some}
use Rattle.mig_mem.specs.Image.{Image}
use Rattle.mig_stream.specs.Reader.{HasClosedAt, IsValidUpTo}
use Rattle.mig_load_types.specs.Settings.{main_of}
use Rattle.mig_load_types.specs.declared.settings.LoadSettings.{LoadSettings}
use Rattle.mig_load_types.specs.declared.fault.Origin.{Origin}
use Rattle.mig_load_types.specs.declared.fault.Origin.TheVariants as origin
use Rattle.mig_load_types.specs.declared.fault.Fault.{Fault}
use Rattle.mig_load_types.specs.declared.fault.Fault.TheVariants as fault
use Rattle.mig_load_types.specs.declared.fault.LoadFault.{LoadFault}
use Rattle.mig_load_types.specs.declared.loaded.Loaded.{Loaded}
use Rattle.mig_single_load.specs.SingleLoad.{unloaded}
use Rattle.mig_answer.specs.declared.verdict.Verdict.{Verdict}
use Rattle.mig_answer.specs.declared.verdict.Verdict.TheVariants.{Running, Done, Failed}
use Rattle.mig_answer.specs.declared.status.Status.{Status}
use Rattle.mig_answer.specs.Status.{main_status, channel_status, is_whole, is_clean, is_pending, fault_of}
use Rattle.mig_answer.specs.Texts.{Texts, Readings, AreReadings}
use Rattle.mig_answer.specs.Rounds.{refusal_at, memory_at, missing_at}

-- ---- the sources at a round

-- a source, and its status at a round
pub record Standing : Type 0 where
  pub source : Origin
  pub status : Status

abbrev pub main_standing : Status → Standing
main_standing status = record { source = origin.Main; status = status }

abbrev pub main_at : ℕ → Readings → Standing
main_at k readings = main_standing (main_status k readings.main)

-- the channels, each by its index
abbrev pub channels_at : ℕ → Readings → List Standing
channels_at k readings = map (λ c. record { source = origin.Channel c.0; status = channel_status k c.1 }) (enumerate_from 0 readings.channels)

-- the main stream, and then channel after channel
abbrev pub sources_at : ℕ → Readings → List Standing
sources_at k readings = main_at k readings ∷ channels_at k readings

-- ---- the hellos

-- the ids in the hellos; None if the hello wasn't read, or has a fault
abbrev pub hello_ids : Readings → List (Option ℕ)
hello_ids readings = map (λ c. c.hello) readings.channels

-- both are there, and equal
abbrev pub is_same_id : Option ℕ → Option ℕ → Bool
is_same_id None other = false
is_same_id (Some id) None = false
is_same_id (Some id) (Some other) = id == other

-- a hello before number j has the id of hello j
abbrev pub comes_again : List (Option ℕ) → ℕ → Bool
comes_again ids j = list_any (is_same_id (get_or ids j None)) (take j ids)

-- the least channel whose id an earlier channel has
abbrev pub repeated_hello : List (Option ℕ) → Option ℕ
repeated_hello ids = find (comes_again ids) (range_with_len 0 (length ids))

-- ---- the first round that doesn't pass

-- every source has round k, the hellos' ids differ, and the round is lawful
abbrev pub passes : ℕ → Readings → Bool
passes k readings = list_all (λ s. is_whole s.status) (sources_at k readings) && is_none (repeated_hello (hello_ids readings)) && is_none (refusal_at k readings)

-- the least round that doesn't pass
pub record IsFirstStop (readings : Readings) (k : ℕ) : Type 0 where
  pub before : (j : ℕ) → j < k → IsTrue (passes j readings)
  pub here : IsFalse (passes k readings)

-- ---- the verdict at that round

abbrev pub failed : ℕ → Origin → Fault → Verdict
failed k source fault = Failed (record { round = k; source = source; fault = fault })

-- failed with a fault, at the first of some sources whose status passes a test
abbrev pub failed_at_first : ℕ → (Status → Bool) → Fault → List Standing → Option Verdict
failed_at_first k is_such fault sources = option_map (λ s. failed k s.source fault) (find (λ s. is_such s.status) sources)

-- failed with the fault of a source that has one
abbrev pub failed_with_own : ℕ → Standing → Option Verdict
failed_with_own k s = option_map (failed k s.source) (fault_of s.status)

-- The verdicts that the sources' statuses and hellos may give at round k, in order of the tests:
--   running, if a source is pending;
--   the first source's fault, the main stream's before the channels';
--   HelloTwice, at the least channel whose hello names an earlier one's id;
--   done, if all sources are clean;
--   Extra, at the least channel that has the round, if the main stream is clean;
--   Short, at the least channel that is clean, if the main stream has the round.
abbrev pub sources_verdicts : ℕ → Standing → List Standing → Option ℕ → List (Option Verdict)
sources_verdicts k main channels repeated =
    then_some (list_any (λ s. is_pending s.status) (main ∷ channels)) Running ∷
    first_some (map (failed_with_own k) (main ∷ channels)) ∷
    option_map (λ j. failed k (origin.Channel j) fault.HelloTwice) repeated ∷
    then_some (list_all (λ s. is_clean s.status) (main ∷ channels)) Done ∷
    (if is_clean main.status then failed_at_first k is_whole fault.Extra channels else None) ∷
    (if is_whole main.status then failed_at_first k is_clean fault.Short channels else None) ∷ []

-- All verdicts that there may be at round k, in the order of the tests: those of the sources, and
-- then why the round isn't lawful.
abbrev pub verdicts_at : ℕ → Readings → List (Option Verdict)
verdicts_at k readings =
    sources_verdicts k (main_at k readings) (channels_at k readings) (repeated_hello (hello_ids readings))
    ++ option_map (λ f. failed k origin.Round (fault.Round f)) (refusal_at k readings) ∷ []

-- The first that applies. At a round that doesn't pass one of them does.
abbrev pub verdict_at : ℕ → Readings → Verdict
verdict_at k readings = unwrap_or (first_some (verdicts_at k readings)) Running

-- ---- the answer

-- what a load returns: the guest's memory, how many rounds are in it, and the verdict
pub record Answer : Type 0 where
  pub memory : Option Image
  pub rounds : ℕ
  pub verdict : Verdict

-- The answer on some streams, with these settings and under this UUID. `rounds` is the least round
-- that doesn't pass, the memory is that after the rounds before it, and the verdict is that at this
-- round.
pub record IsAnswer (given : LoadSettings) (uuid : List ℕ) (texts : Texts) (answer : Answer) : Type 0 where
  pub readings : Readings
  pub are_readings : AreReadings given uuid texts readings
  pub has_rounds : IsFirstStop readings answer.rounds
  pub has_memory : answer.memory ≡ memory_at answer.rounds readings
  pub has_verdict : answer.verdict ≡ verdict_at answer.rounds readings

-- The answer after a refused allocation: the memory is that after the rounds counted, each of which
-- passes, or None if none was counted.
pub record IsWithoutMemory (given : LoadSettings) (uuid : List ℕ) (texts : Texts) (answer : Answer) : Type 0 where
  pub readings : Readings
  pub are_readings : AreReadings given uuid texts readings
  pub have_passed : (j : ℕ) → j < answer.rounds → IsTrue (passes j readings)
  pub has_memory : (answer.memory ≡ memory_at answer.rounds readings) ⊎ ((answer.memory ≡ None) × (answer.rounds ≡ 0))
  pub has_verdict : answer.verdict ≡ failed answer.rounds origin.Round fault.NoMemory

-- The answer that a load may return: that on its streams, or, after a refused allocation, one
-- without memory.
abbrev pub IsAnswerOrWithoutMemory : LoadSettings → List ℕ → Texts → Answer → Type 0
IsAnswerOrWithoutMemory given uuid texts answer =
    IsAnswer given uuid texts answer ⊎ IsWithoutMemory given uuid texts answer

-- the answer that a load returned
abbrev pub as_verdict : Result ⊤ LoadFault → Verdict
as_verdict (Ok x) = Done
as_verdict (Err fault) = Failed fault

abbrev pub answer_of : {A : Type 0} → Loaded A → Answer
answer_of loaded = record { memory = loaded.memory; rounds = loaded.rounds; verdict = as_verdict loaded.verdict }

-- What a load says of its streams beside the answer: how many pages of the table the rounds counted
-- don't name, where the main stream is closed, and how long its valid prefix is.
pub record SaysOfStreams {A : Type 0} (given : LoadSettings) (uuid : List ℕ) (texts : Texts) (a : Loaded A) : Type 0 where
  pub readings : Readings
  pub are_readings : AreReadings given uuid texts readings
  pub has_missing : a.missing ≡ missing_at a.rounds readings
  pub has_closed_at : HasClosedAt (main_of given) texts.main.bytes a.closed_at
  pub has_valid_up_to : IsSomeAnd a.valid_up_to (IsValidUpTo (main_of given) texts.main.bytes)

-- It says so, or an allocation was refused before the first round.
abbrev pub SaysOfStreamsOrNothing : {A : Type 0} → LoadSettings → List ℕ → Texts → Loaded A → Type 0
SaysOfStreamsOrNothing given uuid texts a =
    SaysOfStreams given uuid texts a ⊎ (a ≡ unloaded)

-- the bytes of streams that a caller holds
abbrev pub bytes_of : {B : Type 0} → List (Vec ℕ B) → List (List ℕ)
bytes_of texts = map (λ text. text.items) texts
