-- What the streams of a sending say to a load.
use Rattle.std.proofs.Common.{ℕ, zero, suc, ◌≡◌, ◌+◌, ◌<◌, ◌≤◌, ◌==◌, true, false, List, [], ◌∷◌, length, map, get_or, replicate, refl, sym, ap, ◌∙◌, inl, inr}
use Rattle.std.proofs.Common.{Option, Some, None, subst, arith, IsPermutation}
use Rattle.std.specs.List.{All, AllZip, range_with_len, enumerate_from, IsDistinct, AllByRecursion}
use Rattle.std.proofs.lemmas.Bool.{eqb-true, eqb-false, eq-eqb, ne_eqb, cases_Bool}
use Rattle.std.proofs.lemmas.List.{length-map, length-replicate}
use Rattle.std.proofs.lemmas.Simd.{map-map}
use Rattle.std.proofs.lemmas.List.Elements.{All-nil, All-cons, All-head, All-tail, All-map}
use Rattle.std.proofs.lemmas.List.FromFn.{length-map-range_with_len}
use Rattle.std.proofs.lemmas.List.Sorted.{IsPermutation-map, All-permutation}
use Rattle.std.proofs.lemmas.Map.Keys.{IsDistinct-IsPermutation, IsDistinct-head, IsDistinct-tail}
use Rattle.mig_mem.specs.RamTable.{RamTable}
use Rattle.mig_mem.specs.PageSize.{IsPageSize}
use Rattle.mig_stream.specs.declared.item.Frame.{Frame}
use Rattle.mig_stream.specs.declared.item.Mode.TheVariants.{Main}
use Rattle.mig_stream.specs.Reading.{StreamReading}
use Rattle.mig_stream.specs.Reading as stream
use Rattle.mig_stream.specs.Law.{closed}
use Rattle.mig_packet.specs.Reading.{Settings, settings, ChannelReading, IsReading}
use Rattle.mig_send.specs.DealtRounds.{DealtRound, IsSending, channel_text}
use Rattle.mig_send.specs.ReadBack.{channel_told, round_packets}
use Rattle.mig_load_types.specs.declared.settings.LoadSettings.{LoadSettings}
use Rattle.mig_load_types.specs.declared.settings.RoundEnd.TheVariants.{Flush}
use Rattle.mig_load_types.specs.declared.fault.Origin.TheVariants as origin
use Rattle.mig_answer.specs.declared.status.Status.{Status}
use Rattle.mig_answer.specs.declared.status.Status.TheVariants.{Whole, Clean}
use Rattle.mig_answer.specs.Status.{main_status, channel_status, status_at}
use Rattle.mig_answer.specs.Texts.{Text, ended_text, ended_texts, Readings, AreReadings}
use Rattle.mig_answer.specs.MultiLoad.{Standing, main_at, channels_at, sources_at, hello_ids, is_same_id, comes_again, repeated_hello}
use Rattle.mig_answer.proofs.OneAnswer.{same_main, channel_reading, channels_are}
use Rattle.mig_answer.proofs.Statuses.{status_whole, status_end, finds_none}

-- ---- the readings

-- what a load reads of a sending: the main stream's FLUSHes, and the channels in any order
pub record AreToldOf (table : RamTable) (channels : ℕ) (rounds : List DealtRound) (readings : Readings) : Type 0 where
  pub has_main : readings.main ≡ closed table (replicate (length rounds) [])
  pub has_channels : IsPermutation (map (channel_told rounds) (range_with_len 0 channels)) readings.channels

-- streams that are read one by one are read so all together
read_each : (given : Settings) (told : ℕ → ChannelReading) (n : ℕ) (texts : List (List ℕ))
    → ((i j : ℕ) → i < length texts → n + i ≡ j → IsReading given (get_or texts i []) true (told j))
    → AllZip (λ (text : Text) (reading : ChannelReading). IsReading given text.bytes text.ended reading) (map ended_text texts)
    (map told (range_with_len n (length texts)))
read_each given told n [] each = tt
read_each given told n (text ∷ texts) each =
    (each 0 n (omega arith) (omega arith), read_each given told (n + 1) texts (λ i j below is. each (suc i) j (omega (arith, below)) (omega (arith, is))))

-- for a load of a table's page size
abbrev pub framed : Frame → ℕ → ℕ → LoadSettings
framed frame page_size limit = record { page_size = page_size; limit = limit; frame = frame; waiting = None; round_end = Flush }

-- The channels are those of a sending, in any order, and the main stream is read in a frame as what
-- it has of RAM: the table, and as many rounds.
pub record IsReadAsSent (frame : Frame) (table : RamTable) (uuid : List ℕ) (limit : ℕ) (rounds : List DealtRound) (main : List
    ℕ) (channels : List (List ℕ)) : Type 0 where
  pub batch_limit : ℕ
  pub ram : List ℕ
  pub in_order : List (List ℕ)
  pub is_sending : IsSending table uuid batch_limit (length channels) rounds ram in_order
  pub is_permutation : IsPermutation in_order channels
  pub main_is_read : stream.IsReading (stream.in_frame frame (stream.settings Main table.page_size limit)) main (closed table (replicate (length rounds) []))
  pub channels_are_read : (channel : ℕ) → channel < length channels
      → IsReading (settings table.page_size uuid (length channels)) (get_or in_order channel []) true (channel_told rounds channel)

-- streams that are read as they were sent have the rounds of the sending
pub told_of : (frame : Frame) (table : RamTable) (uuid : List ℕ) (limit : ℕ) (rounds : List DealtRound) (main : List
    ℕ) (channels : List (List ℕ)) (readings : Readings)
    → IsReadAsSent frame table uuid limit rounds main channels → AreReadings (framed frame table.page_size limit) uuid (ended_texts main channels) readings
    → AreToldOf table (length channels) rounds readings
told_of frame table uuid limit rounds main channels readings sent are =
    let size : IsPageSize table.page_size = sent.is_sending.is_set.has_table.has_page_size in
    let given : Settings = settings table.page_size uuid (length (map ended_text channels)) in
    let many : length (map ended_text channels) ≡ length channels = length-map channels ended_text in
    let long : length sent.in_order ≡ length channels =
    ap (λ (l : List (List ℕ)). length l) sent.is_sending.has_texts ∙ length-map-range_with_len (channel_text uuid rounds) 0 (length channels) in
    let zip : AllZip (λ (text : Text) (reading : ChannelReading). IsReading given text.bytes text.ended reading)
    (map ended_text sent.in_order) (map (channel_told rounds) (range_with_len 0 (length sent.in_order))) =
    read_each given (channel_told rounds) 0 sent.in_order (λ i j below is.
    subst (λ k. IsReading given (get_or sent.in_order i []) true (channel_told rounds k)) (omega (arith, is))
    (subst (λ n. IsReading (settings table.page_size uuid n) (get_or sent.in_order i []) true (channel_told rounds i)) (sym many)
    (sent.channels_are_read i (omega (arith, below, long))))) in
    let told : map (channel_told rounds) (range_with_len 0 (length sent.in_order)) ≡ map (channel_reading given size) (map ended_text sent.in_order) =
    channels_are given size (map ended_text sent.in_order) (map (channel_told rounds) (range_with_len 0 (length sent.in_order))) zip in
    let perm : IsPermutation (map (channel_reading given size) (map ended_text sent.in_order)) (map (channel_reading given size) (map ended_text channels)) =
    IsPermutation-map (channel_reading given size) (map ended_text sent.in_order) (map ended_text channels)
    (IsPermutation-map ended_text sent.in_order channels sent.is_permutation) in
    record {
      has_main = same_main (framed frame table.page_size limit) (ended_text main) readings.main (closed table (replicate (length rounds) [])) size are.has_main
          (record { found = closed table (replicate (length rounds) []); is_reading = sent.main_is_read; has_end = refl });
      has_channels = subst (λ n. IsPermutation (map (channel_told rounds) (range_with_len 0 n)) readings.channels) long
          (subst (λ cs. IsPermutation cs readings.channels) (sym told)
          (subst (λ cs. IsPermutation (map (channel_reading given size) (map ended_text sent.in_order)) cs)
          (sym (channels_are given size (map ended_text channels) readings.channels are.has_channels)) perm));
    }

-- ---- how the sources stand

abbrev pub Stands : ℕ → Status → Readings → Type 0
Stands k status readings = All (λ (s : Standing). s.status ≡ status) (sources_at k readings)

-- what holds of each channel holds of each that is numbered
enumerated : (P : ChannelReading → Type 0) (n : ℕ) (cs : List ChannelReading) → All P cs → All (λ (c : ℕ × ChannelReading). P c.1) (enumerate_from n cs)
enumerated P n [] all = All-nil (λ (c : ℕ × ChannelReading). P c.1)
enumerated P n (c ∷ cs) all =
    All-cons (λ (x : ℕ × ChannelReading). P x.1) (n, c) (enumerate_from (n + 1) cs) (All-head P c cs all) (enumerated P (n + 1) cs (All-tail P c cs all))

-- what holds of each channel's reading holds of each channel, in whatever order
all_told : (table : RamTable) (channels : ℕ) (rounds : List DealtRound) (readings : Readings) → AreToldOf table channels rounds readings
    → (P : ChannelReading → Type 0) → ((i : ℕ) → P (channel_told rounds i)) → All P readings.channels
all_told table channels rounds readings told P each =
    All-permutation P (map (channel_told rounds) (range_with_len 0 channels)) readings.channels told.has_channels
    (every (range_with_len 0 channels))
  where
    every : (ids : List ℕ) → All P (map (channel_told rounds) ids)
    every [] = All-nil P
    every (i ∷ ids) = All-cons P (channel_told rounds i) (map (channel_told rounds) ids) (each i) (every ids)

all_stand : (table : RamTable) (channels k : ℕ) (rounds : List DealtRound) (readings : Readings) (status : Status) → AreToldOf table channels rounds readings
    → status_at k (length rounds) Clean ≡ status → Stands k status readings
all_stand table channels k rounds readings status told e =
    let main : (main_at k readings).status ≡ status =
    ap (λ (r : StreamReading). main_status k r) told.has_main
    ∙ ap (λ n. status_at k n Clean) (length-replicate (length rounds) []) ∙ e in
    let each : All (λ (c : ChannelReading). channel_status k c ≡ status) readings.channels =
    all_told table channels rounds readings told (λ c. channel_status k c ≡ status)
    (λ i. ap (λ n. status_at k n Clean) (length-map rounds (round_packets i)) ∙ e) in
    All-cons (λ (s : Standing). s.status ≡ status) (main_at k readings) (channels_at k readings) main
    (All-map (λ (s : Standing). s.status ≡ status) (λ (c : ℕ × ChannelReading). record { source = origin.Channel c.0; status = channel_status k c.1 })
    (enumerate_from 0 readings.channels)
    (enumerated (λ c. channel_status k c ≡ status) 0 readings.channels each))

-- each source has each round of the sending whole
pub whole_below : (table : RamTable) (channels k : ℕ) (rounds : List DealtRound) (readings : Readings) → AreToldOf table channels rounds readings
    → k < length rounds → Stands k Whole readings
whole_below table channels k rounds readings told below =
    all_stand table channels k rounds readings Whole told (status_whole k (length rounds) Clean below)

-- after the last round of the sending each source ends cleanly
pub clean_at_end : (table : RamTable) (channels : ℕ) (rounds : List DealtRound) (readings : Readings) → AreToldOf table channels rounds readings
    → Stands (length rounds) Clean readings
clean_at_end table channels rounds readings told =
    all_stand table channels (length rounds) rounds readings Clean told (status_end (length rounds) (length rounds) Clean refl)

-- ---- the hellos

flips : (x y : Option ℕ) → is_same_id x y ≡ is_same_id y x
flips None None = refl
flips None (Some b) = refl
flips (Some a) None = refl
flips (Some a) (Some b) = elim (cases_Bool (a == b)) [
  | inl t ↦ t ∙ sym (eq-eqb b a (sym (eqb-true a b t)))
  | inr f ↦ elim (cases_Bool (b == a)) [ inl t ↦ absurd (eqb-false a b f (sym (eqb-true b a t))) | inr g ↦ f ∙ sym g ]
]

-- an id isn't among those that differ from it
not_before : (xs : List (Option ℕ)) (j : ℕ) (x : Option ℕ) → j < length xs → AllByRecursion (λ y. is_same_id x y ≡ false) xs
    → is_same_id (get_or xs j None) x ≡ false
not_before [] j x below all = absurd (omega (arith, below))
not_before (y ∷ xs) zero x below all = flips y x ∙ all.0
not_before (y ∷ xs) (suc j) x below all = not_before xs j x (omega (arith, below)) all.1

apart : (ids : List (Option ℕ)) (j : ℕ) → j < length ids → IsDistinct is_same_id ids → comes_again ids j ≡ false
apart [] j below distinct = absurd (omega (arith, below))
apart (x ∷ ids) zero below distinct = refl
apart (x ∷ ids) (suc j) below distinct =
    rw (
      not_before ids j x (omega (arith, below)) (IsDistinct-head is_same_id x ids distinct),
      apart ids j (omega (arith, below)) (IsDistinct-tail is_same_id x ids distinct),
    ) refl

none_repeated : (ids : List (Option ℕ)) → IsDistinct is_same_id ids → repeated_hello ids ≡ None
none_repeated ids distinct = finds_none (comes_again ids) (range_with_len 0 (length ids)) (every 0 (length ids) (omega arith))
  where
    every : (a n : ℕ) → a + n ≤ length ids → All (λ j. comes_again ids j ≡ false) (range_with_len a n)
    every a zero few = All-nil (λ j. comes_again ids j ≡ false)
    every a (suc n) few =
        All-cons (λ j. comes_again ids j ≡ false) a (range_with_len (a + 1) n) (apart ids a (omega (arith, few)) distinct)
        (every (a + 1) n (omega (arith, few)))

above : (a b n : ℕ) → a < b → AllByRecursion (λ y. is_same_id (Some a) y ≡ false) (map (λ i. Some i) (range_with_len b n))
above a b zero lt = tt
above a b (suc n) lt = (ne_eqb a b (λ e. omega (arith, lt, e)), above a (b + 1) n (omega (arith, lt)))

run_distinct : (a n : ℕ) → IsDistinct is_same_id (map (λ i. Some i) (range_with_len a n))
unfolding IsDistinct
run_distinct a zero = tt
run_distinct a (suc n) = (above a (a + 1) n (omega arith), run_distinct (a + 1) n)

-- the hellos of a sending have ids of their own
pub hellos_differ : (table : RamTable) (channels : ℕ) (rounds : List DealtRound) (readings : Readings) → AreToldOf table channels rounds readings
    → repeated_hello (hello_ids readings) ≡ None
hellos_differ table channels rounds readings told =
    let ids : List (Option ℕ) = map (λ (c : ChannelReading). c.hello) (map (channel_told rounds) (range_with_len 0 channels)) in
    let perm : IsPermutation ids (hello_ids readings) =
    IsPermutation-map (λ (c : ChannelReading). c.hello) (map (channel_told rounds) (range_with_len 0 channels)) readings.channels told.has_channels in
    let run : ids ≡ map (λ i. Some i) (range_with_len 0 channels) =
    map-map (λ (c : ChannelReading). c.hello) (channel_told rounds) (range_with_len 0 channels) in
    none_repeated (hello_ids readings) (IsDistinct-IsPermutation is_same_id flips ids (hello_ids readings) perm
    (subst (λ (l : List (Option ℕ)). IsDistinct is_same_id l) (sym run) (run_distinct 0 channels)))
