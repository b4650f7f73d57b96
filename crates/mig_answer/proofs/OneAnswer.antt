-- Some streams have exactly one answer.
use Rattle.std.proofs.Common.{ℕ, zero, suc, ◌≡◌, ◌<◌, Bool, true, false, Option, List, [], ◌∷◌, length, map, refl, sym, ap, ◌∙◌, inl, inr, arith, subst}
use Rattle.std.specs.Prelude.{◌⊎◌, IsTrue, IsFalse}
use Rattle.std.specs.List.{AllZip}
use Rattle.std.proofs.lemmas.Bool.{cases_order, cases_Bool}
use Rattle.mig_mem.specs.PageSize.{IsPageSize}
use Rattle.mig_mem.specs.Image.{Image}
use Rattle.mig_stream.specs.Reading.{StreamReading, state_at}
use Rattle.mig_stream.proofs.Exists.{one_reading_law as stream_law}
use Rattle.mig_packet.specs.Reading.{Settings, ChannelReading, IsReading}
use Rattle.mig_packet.proofs.Exists.{one_reading_law as channel_law}
use Rattle.mig_load_types.specs.Settings.{main_of, channel_of}
use Rattle.mig_load_types.specs.declared.settings.LoadSettings.{LoadSettings}
use Rattle.mig_answer.specs.declared.verdict.Verdict.{Verdict}
use Rattle.mig_answer.specs.Texts.{Text, Texts, Readings, IsMainReading, AreReadings}
use Rattle.mig_answer.specs.Rounds.{memory_at}
use Rattle.mig_answer.specs.MultiLoad.{passes, verdict_at, IsFirstStop, Answer, IsAnswer}
use Rattle.mig_answer.specs.Status.{main_status, stream_end, is_whole}
use Rattle.mig_answer.specs.Law.{HasOneAnswer}
use Rattle.mig_answer.proofs.Statuses.{status_end, stream_ends}

-- ---- one reading of each stream

-- a main stream has a reading
pub main_reading : (given : LoadSettings) (text : Text) → IsPageSize given.page_size → (reading : StreamReading) × IsMainReading given text reading
main_reading given text size =
    let one = stream_law (main_of given) text.bytes size in (
      record one.0 { state = state_at text.ended one.0.state },
      record { found = one.0; is_reading = one.1; has_end = refl },
    )

-- a main stream has one reading alone
pub same_main : (given : LoadSettings) (text : Text) (a b : StreamReading) → IsPageSize given.page_size
    → IsMainReading given text a → IsMainReading given text b → a ≡ b
same_main given text a b size is_a is_b =
    let one = stream_law (main_of given) text.bytes size in
    let same : is_a.found ≡ is_b.found = one.2 is_a.found is_a.is_reading ∙ sym (one.2 is_b.found is_b.is_reading) in
    is_a.has_end ∙ ap (λ (found : StreamReading). record found { state = state_at text.ended found.state }) same ∙ sym is_b.has_end

-- what a channel's bytes say
abbrev pub channel_reading : (given : Settings) → IsPageSize given.page_size → Text → ChannelReading
channel_reading given size text = (channel_law given text.bytes text.ended size).0

abbrev AreChannels : Settings → List Text → List ChannelReading → Type 0
AreChannels given texts readings = AllZip (λ (text : Text) (reading : ChannelReading). IsReading given text.bytes text.ended reading) texts readings

channels_read : (given : Settings) (size : IsPageSize given.page_size) (texts : List Text) → AreChannels given texts (map (channel_reading given size) texts)
channels_read given size [] = tt
channels_read given size (text ∷ texts) = ((channel_law given text.bytes text.ended size).1, channels_read given size texts)

-- the readings of channels are those of their streams, one by one
pub channels_are : (given : Settings) (size : IsPageSize given.page_size) (texts : List Text) (readings : List ChannelReading)
    → AreChannels given texts readings
    → readings ≡ map (channel_reading given size) texts
channels_are given size [] [] zip = refl
channels_are given size [] (reading ∷ readings) zip = absurd zip
channels_are given size (text ∷ texts) [] zip = absurd zip
channels_are given size (text ∷ texts) (reading ∷ readings) zip =
    let here : reading ≡ channel_reading given size text = (channel_law given text.bytes text.ended size).2 reading zip.0 in
    ap (λ (r : ChannelReading). r ∷ readings) here
    ∙ ap (λ (rs : List ChannelReading). channel_reading given size text ∷ rs) (channels_are given size texts readings zip.1)

-- any streams have readings
pub some_readings : (given : LoadSettings) (uuid : List ℕ) (texts : Texts) → IsPageSize given.page_size
    → (readings : Readings) × AreReadings given uuid texts readings
some_readings given uuid texts size =
    let channel_given = channel_of given uuid (length texts.channels) in
    let main = main_reading given texts.main size in (
      record { main = main.0; channels = map (channel_reading channel_given size) texts.channels },
      record { has_main = main.1; has_channels = channels_read channel_given size texts.channels },
    )

-- streams have one reading alone
pub same_readings : (given : LoadSettings) (uuid : List ℕ) (texts : Texts) (a b : Readings) → IsPageSize given.page_size
    → AreReadings given uuid texts a → AreReadings given uuid texts b → a ≡ b
same_readings given uuid texts a b size are_a are_b =
    let channel_given = channel_of given uuid (length texts.channels) in
    let main : a.main ≡ b.main = same_main given texts.main a.main b.main size are_a.has_main are_b.has_main in
    let channels : a.channels ≡ b.channels =
    channels_are channel_given size texts.channels a.channels are_a.has_channels
    ∙ sym (channels_are channel_given size texts.channels b.channels are_b.has_channels) in
    ap (λ (m : StreamReading). record { main = m; channels = a.channels }) main
    ∙ ap (λ (cs : List ChannelReading). record { main = b.main; channels = cs }) channels

-- ---- the least round that doesn't pass

record Stops (test : ℕ → Bool) (k : ℕ) : Type 0 where
  before : (j : ℕ) → j < k → IsTrue (test j)
  here : IsFalse (test k)

-- up to a number all pass, or one doesn't that is the least
scan : (test : ℕ → Bool) (n : ℕ) → ((k : ℕ) × Stops test k) ⊎ ((j : ℕ) → j < n → IsTrue (test j))
scan test zero = inr (λ j below. absurd (omega (arith, below)))
scan test (suc n) = elim (scan test n) [
  | inl found ↦ inl found
  | inr all ↦ elim (cases_Bool (test n)) [
    | inl t ↦ inr (λ j below. elim (cases_order j n) [
      | inl e ↦ subst (λ i. IsTrue (test i)) (sym e) t
      | inr ne ↦ elim ne [ inl lt ↦ all j lt | inr gt ↦ absurd (omega (arith, below, gt)) ]
    ])
    | inr f ↦ inl (n, record { before = all; here = f })
  ]
]

least : (test : ℕ → Bool) (n : ℕ) → IsFalse (test n) → (k : ℕ) × Stops test k
least test n f = elim (scan test n) [ inl found ↦ found | inr all ↦ (n, record { before = all; here = f }) ]

-- the first round that stops is one alone
pub same_stop : (readings : Readings) (j k : ℕ) → IsFirstStop readings j → IsFirstStop readings k → j ≡ k
same_stop readings j k a b = elim (cases_order j k) [
  | inl e ↦ e
  | inr ne ↦ elim ne [
    | inl lt ↦ let t : passes j readings ≡ true = b.before j lt in let f : passes j readings ≡ false = a.here in absurd cc
    | inr gt ↦ let t : passes k readings ≡ true = a.before k gt in let f : passes k readings ≡ false = b.here in absurd cc
  ]
]

-- the main stream has no round after its last
main_ends : (readings : Readings) → passes (length readings.main.rounds) readings ≡ false
main_ends readings =
    let n : ℕ = length readings.main.rounds in
    let here : is_whole (main_status n readings.main) ≡ false =
    ap is_whole (status_end n n (stream_end readings.main.state) refl) ∙ stream_ends readings.main.state in
    rw here refl

-- ---- the answer

abbrev answer_at : ℕ → Readings → Answer
answer_at k readings = record { memory = memory_at k readings; rounds = k; verdict = verdict_at k readings }

answer_is : (readings : Readings) (k : ℕ) (answer : Answer) → answer.rounds ≡ k → answer.memory ≡ memory_at answer.rounds readings
    → answer.verdict ≡ verdict_at answer.rounds readings → answer ≡ answer_at k readings
answer_is readings k answer rounds memory verdict =
    ap (λ (m : Option Image). record { memory = m; rounds = answer.rounds; verdict = answer.verdict }) memory
    ∙ ap (λ (v : Verdict). record { memory = memory_at answer.rounds readings; rounds = answer.rounds; verdict = v }) verdict
    ∙ ap (λ (n : ℕ). answer_at n readings) rounds

-- an answer is that of any readings of the streams and of any least round that doesn't pass
pub is_answer_at : (given : LoadSettings) (uuid : List ℕ) (texts : Texts) (readings : Readings) (k : ℕ) (answer : Answer) → IsPageSize given.page_size
    → AreReadings given uuid texts readings → IsFirstStop readings k → IsAnswer given uuid texts answer → answer ≡ answer_at k readings
is_answer_at given uuid texts readings k answer size are stop is =
    let same : is.readings ≡ readings = same_readings given uuid texts is.readings readings size is.are_readings are in
    answer_is readings k answer
    (same_stop readings answer.rounds k (subst (λ (r : Readings). IsFirstStop r answer.rounds) same is.has_rounds) stop)
    (is.has_memory ∙ ap (λ (r : Readings). memory_at answer.rounds r) same)
    (is.has_verdict ∙ ap (λ (r : Readings). verdict_at answer.rounds r) same)

-- streams have one answer alone
pub one_answer_law : HasOneAnswer
one_answer_law = λ given uuid texts size.
    let found = some_readings given uuid texts size in
    let k = least (λ i. passes i found.0) (length found.0.main.rounds) (main_ends found.0) in
    let stop : IsFirstStop found.0 k.0 = record { before = k.1.before; here = k.1.here } in (
      answer_at k.0 found.0,
      record { readings = found.0; are_readings = found.1; has_rounds = stop; has_memory = refl; has_verdict = refl },
      λ other is. is_answer_at given uuid texts found.0 k.0 other size found.1 stop is,
    )
