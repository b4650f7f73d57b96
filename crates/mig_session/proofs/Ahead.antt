-- Streams of which bytes wait, since their sources have the round that is judged next: they change
-- no answer.
use Rattle.std.proofs.Common.{ℕ, ◌≡◌, ◌⊎◌, ◌∙◌, ◌||◌, Bool, false, List, [], ◌∷◌, length, sym, ap, subst, inl, inr}
use Rattle.std.specs.List.{AllZip, list_any}
use Rattle.mig_mem.specs.PageSize.{IsPageSize}
use Rattle.mig_packet.specs.Reading as channel
use Rattle.mig_packet.proofs.Exists.{one_reading_law as channel_law}
use Rattle.mig_load_types.specs.Settings.{channel_of}
use Rattle.mig_answer.specs.declared.status.Status.{Status}
use Rattle.mig_answer.specs.Status.{main_status, channel_status, is_pending}
use Rattle.mig_answer.specs.Texts.{Text, Readings, IsMainReading}
use Rattle.mig_answer.specs.MultiLoad.{channels_at, sources_at}
use Rattle.mig_answer.specs.Growing.{GoesOn}
use Rattle.mig_answer.proofs.GrowingChannels.{channel_stays}
use Rattle.mig_answer.proofs.Growing.{ReadingsStay, readings_stay, pass_still, memory_still}
use Rattle.mig_answer.proofs.OneAnswer.{same_main, some_readings}
use Rattle.mig_sources.proofs.Steps.{as_many_texts}
use Rattle.mig_session.specs.Ahead.{Wait, AnswersAhead}
use Rattle.mig_in_place.proofs.Waiting.{KeepsStatus, main_kept, channel_kept, any_kept, running_waits, waits, waits_here}

-- ---- statuses

abbrev AreRead : channel.Settings → List Text → List channel.ChannelReading → Type 0
AreRead given texts readings = AllZip (λ (text : Text) (reading : channel.ChannelReading). channel.IsReading given text.bytes text.ended reading) texts readings

one_kept : (given : channel.Settings) (k : ℕ) (old new : Text) (before now : channel.ChannelReading) → IsPageSize given.page_size → GoesOn old new
    → channel.IsReading given old.bytes old.ended before → channel.IsReading given new.bytes new.ended now
    → (new ≡ old) ⊎ (is_pending (channel_status k before) ≡ false) → KeepsStatus k before now
one_kept given k old new before now size goes was is (inl same) =
    let one = channel_law given old.bytes old.ended size in
    let here = subst (λ (t : Text). channel.IsReading given t.bytes t.ended now) same is in
    ap (channel_status k) (one.2 now here ∙ sym (one.2 before was))
one_kept given k old new before now size goes was is (inr settled) =
    channel_kept k before now (channel_stays given old new before now size goes was is) settled

all_kept : (given : channel.Settings) (k : ℕ) (olds news : List Text) (befores nows : List channel.ChannelReading) → IsPageSize given.page_size
    → AllZip GoesOn olds news → AreRead given olds befores → AreRead given news nows → Wait k olds news befores → AllZip (KeepsStatus k) befores nows
all_kept given k [] [] [] [] size go was is wait = tt
all_kept given k [] [] [] (y ∷ nows) size go was is wait = absurd is
all_kept given k [] [] (x ∷ befores) nows size go was is wait = absurd was
all_kept given k [] (b ∷ news) befores nows size go was is wait = absurd go
all_kept given k (a ∷ olds) [] befores nows size go was is wait = absurd go
all_kept given k (a ∷ olds) (b ∷ news) [] nows size go was is wait = absurd was
all_kept given k (a ∷ olds) (b ∷ news) (x ∷ befores) [] size go was is wait = absurd is
all_kept given k (a ∷ olds) (b ∷ news) (x ∷ befores) (y ∷ nows) size go was is wait =
    (one_kept given k a b x y size go.0 was.0 is.0 wait.0, all_kept given k olds news befores nows size go.1 was.1 is.1 wait.1)

-- ---- the answer

-- a running load whose sources have no more bytes, or none that count yet, has the answer of all
pub answers_ahead : AnswersAhead
answers_ahead = λ given uuid old new answer memory size go is running some main wait.
    let k : ℕ = answer.rounds in
    let before : Readings = is.readings in
    let next = some_readings given uuid new size in
    let now : Readings = next.0 in
    let many : length new.channels ≡ length old.channels = sym (as_many_texts old.channels new.channels go.channels) in
    let channel_given : channel.Settings = channel_of given uuid (length old.channels) in
    let are_now : AreRead channel_given new.channels now.channels =
    subst (λ (n : ℕ). AreRead (channel_of given uuid n) new.channels now.channels) many next.1.has_channels in
    let stay : ReadingsStay before now = readings_stay given uuid old new before now size go is.are_readings next.1 in
    let kept : AllZip (KeepsStatus k) before.channels now.channels =
    all_kept channel_given k old.channels new.channels before.channels now.channels size go.channels is.are_readings.has_channels are_now wait in
    let same_status : main_status k now.main ≡ main_status k before.main = elim main [
      | inl same ↦ ap (main_status k) (same_main given old.main now.main before.main size
          (subst (λ (t : Text). IsMainReading given t now.main) same next.1.has_main) is.are_readings.has_main)
      | inr settled ↦ main_kept k before.main now.main stay.main settled
    ] in
    let any : list_any waits (sources_at k now) ≡ list_any waits (sources_at k before) =
    ap (λ (s : Status). is_pending s || list_any waits (channels_at k now)) same_status
    ∙ ap (λ (b : Bool). is_pending (main_status k before.main) || b) (any_kept k 0 before.channels now.channels kept) in
    let here = waits_here k now (any ∙ running_waits k before is.has_rounds (sym is.has_verdict ∙ running)) in
    record {
      readings = now;
      are_readings = next.1;
      has_rounds = record { before = pass_still before now k stay is.has_rounds.before; here = here.0 };
      has_memory = some ∙ sym (memory_still before now k memory stay is.has_rounds.before (sym is.has_memory ∙ some));
      has_verdict = running ∙ sym here.1;
    }
