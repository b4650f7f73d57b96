-- Bytes that a source doesn't take change no answer.
use Rattle.std.proofs.Common.{ℕ, zero, suc, ◌≡◌, ◌<◌, ◌+◌, ◌&&◌, ◌||◌, Bool, true, false, List, [], ◌∷◌, ◌++◌, length, map, get_or, set, refl, sym, ap, ◌∙◌}
use Rattle.std.proofs.Common.{inl, inr, arith}
use Rattle.std.specs.Prelude.{IsTrue}
use Rattle.std.specs.List.{All, AllZip, list_all, list_any, enumerate_from, flat_map, range_with_len}
use Rattle.std.proofs.lemmas.Bool.{cases_Bool}
use Rattle.std.proofs.lemmas.List.Elements.{All-head, All-tail}
use Rattle.mig_mem.specs.PageSize.{IsPageSize}
use Rattle.mig_mem.specs.RamTable.{RamTable}
use Rattle.mig_mem.specs.Image.{Image}
use Rattle.mig_stream.specs.PageRecord.{PageRecord, page_of}
use Rattle.mig_stream.specs.Reading as stream
use Rattle.mig_stream.specs.Law.{StaysRead}
use Rattle.mig_packet.specs.Packet.{Fields, fields_of}
use Rattle.mig_packet.specs.Reading as channel
use Rattle.mig_packet.proofs.Exists.{one_reading_law as channel_law}
use Rattle.mig_packet.proofs.Heads.{same_map}
use Rattle.mig_assemble.specs.Judging.{all_round_pages}
use Rattle.mig_load_types.specs.declared.fault.Origin.TheVariants as origin
use Rattle.mig_answer.specs.declared.verdict.Verdict.TheVariants.{Running}
use Rattle.mig_answer.specs.declared.status.Status.{Status}
use Rattle.mig_answer.specs.declared.status.Status.TheVariants.{Whole, Clean, Bad, Pending}
use Rattle.mig_answer.specs.Status.{main_status, channel_status, stream_end, channel_end, is_whole, is_pending}
use Rattle.mig_answer.specs.Texts.{Text, Texts, Readings, no_text}
use Rattle.mig_answer.specs.Rounds.{record_pages_at, channel_packets_at, packets_at, pages_at}
use Rattle.mig_answer.specs.MultiLoad.{Standing, main_at, channels_at, sources_at, passes, verdict_at, IsFirstStop}
use Rattle.mig_answer.specs.Growing.{GoesOn, GoOn}
use Rattle.mig_answer.proofs.Statuses.{status_whole, stream_ends, channel_ends}
use Rattle.mig_answer.proofs.Judged.{IsWhole, whole_at, settled_is_told}
use Rattle.mig_answer.proofs.GrowingChannels.{ChannelStays, channel_stays, round_of_more}
use Rattle.mig_answer.proofs.Growing.{ReadingsStay, none_passes, at_round}
use Rattle.mig_sources.proofs.Due.{whole_below}
use Rattle.mig_sources.proofs.Steps.{stays_same, all_same, one_goes}
use Rattle.mig_in_place.proofs.Names.{stream_over, channel_over}

-- ---- streams with more bytes

-- the streams grow if the main stream does
pub main_goes : (texts : Texts) (step : Text → Text) → GoesOn texts.main (step texts.main) → GoOn texts (record texts { main = step texts.main })
main_goes texts step goes = record { main = goes; channels = all_same texts.channels }

-- the streams grow if one channel does
pub channel_goes : (texts : Texts) (j : ℕ) (step : Text → Text) → GoesOn (get_or texts.channels j no_text) (step (get_or texts.channels j no_text))
    → GoOn texts (record texts { channels = set texts.channels j (step (get_or texts.channels j no_text)) })
channel_goes texts j step goes = record { main = stays_same texts.main; channels = one_goes j step texts.channels goes }

-- ---- statuses stay

-- a main stream's status that isn't pending stays the same when more is read
pub main_kept : (k : ℕ) (before now : stream.StreamReading) → StaysRead before now → is_pending (main_status k before) ≡ false
    → main_status k now ≡ main_status k before
main_kept k before now stays settled = elim (at_round k (length before.rounds) (stream_end before.state) settled) [
  | inl lt ↦
      let longer = round_of_more before.rounds now.rounds stays.more_rounds k stays.has_rounds lt in
      status_whole k (length now.rounds) (stream_end now.state) longer.0 ∙ sym (status_whole k (length before.rounds) (stream_end before.state) lt)
  | inr end ↦ ap (main_status k) (stays.same_once_over (stream_over before.state end.1))
]

-- so does a channel's
pub channel_kept : (k : ℕ) (before now : channel.ChannelReading) → ChannelStays before now
    → is_pending (channel_status k before) ≡ false → channel_status k now ≡ channel_status k before
channel_kept k before now stays settled = elim (at_round k (length before.rounds) (channel_end before.state) settled) [
  | inl lt ↦
      let longer = round_of_more before.rounds now.rounds stays.more_rounds k stays.has_rounds lt in
      status_whole k (length now.rounds) (channel_end now.state) longer.0 ∙ sym (status_whole k (length before.rounds) (channel_end before.state) lt)
  | inr end ↦ ap (channel_status k) (stays.same_once_over (channel_over before.state end.1))
]

abbrev pub KeepsStatus : ℕ → channel.ChannelReading → channel.ChannelReading → Type 0
KeepsStatus k before now = channel_status k now ≡ channel_status k before

abbrev AreRead : channel.Settings → List Text → List channel.ChannelReading → Type 0
AreRead given texts readings = AllZip (λ (text : Text) (reading : channel.ChannelReading). channel.IsReading given text.bytes text.ended reading) texts readings

-- two readings of the same channels have the same statuses at round k
pub all_kept : (given : channel.Settings) (k : ℕ) (texts : List Text) (befores nows : List channel.ChannelReading)
    → IsPageSize given.page_size → AreRead given texts befores → AreRead given texts nows
    → AllZip (KeepsStatus k) befores nows
all_kept given k [] [] [] size was is = tt
all_kept given k [] [] (y ∷ nows) size was is = absurd is
all_kept given k [] (x ∷ befores) nows size was is = absurd was
all_kept given k (text ∷ texts) [] nows size was is = absurd was
all_kept given k (text ∷ texts) (x ∷ befores) [] size was is = absurd is
all_kept given k (text ∷ texts) (x ∷ befores) (y ∷ nows) size was is =
    let one = channel_law given text.bytes text.ended size in
    (ap (channel_status k) (one.2 y is.0 ∙ sym (one.2 x was.0)), all_kept given k texts befores nows size was.1 is.1)

-- all but one channel are the same, and that one isn't pending
pub one_kept : (given : channel.Settings) (k j : ℕ) (step : Text → Text) (texts : List Text)
    (befores nows : List channel.ChannelReading) → IsPageSize given.page_size → GoesOn (get_or texts j no_text) (step (get_or texts j no_text))
    → AreRead given texts befores → AreRead given (set texts j (step (get_or texts j no_text))) nows
    → is_pending (get_or (map (channel_status k) befores) j Pending) ≡ false
    → AllZip (KeepsStatus k) befores nows
one_kept given k j step [] [] [] size goes was is settled = tt
one_kept given k j step [] [] (y ∷ nows) size goes was is settled = absurd is
one_kept given k j step [] (x ∷ befores) nows size goes was is settled = absurd was
one_kept given k j step (text ∷ texts) [] nows size goes was is settled = absurd was
one_kept given k zero step (text ∷ texts) (x ∷ befores) [] size goes was is settled = absurd is
one_kept given k (suc j) step (text ∷ texts) (x ∷ befores) [] size goes was is settled = absurd is
one_kept given k zero step (text ∷ texts) (x ∷ befores) (y ∷ nows) size goes was is settled =
    (channel_kept k x y (channel_stays given text (step text) x y size goes was.0 is.0) settled, all_kept given k texts befores nows size was.1 is.1)
one_kept given k (suc j) step (text ∷ texts) (x ∷ befores) (y ∷ nows) size goes was is settled =
    let one = channel_law given text.bytes text.ended size in
    (ap (channel_status k) (one.2 y is.0 ∙ sym (one.2 x was.0)), one_kept given k j step texts befores nows size goes was.1 is.1 settled)

abbrev pub standing_at : ℕ → (ℕ × channel.ChannelReading) → Standing
standing_at k c = record { source = origin.Channel c.0; status = channel_status k c.1 }

abbrev pub waits : Standing → Bool
waits s = is_pending s.status

-- if each channel keeps its status, one of them is pending exactly if one was
pub any_kept : (k n : ℕ) (befores nows : List channel.ChannelReading) → AllZip (KeepsStatus k) befores nows
    → list_any waits (map (standing_at k) (enumerate_from n nows)) ≡ list_any waits (map (standing_at k) (enumerate_from n befores))
any_kept k n [] [] kept = refl
any_kept k n [] (y ∷ nows) kept = absurd kept
any_kept k n (x ∷ befores) [] kept = absurd kept
any_kept k n (x ∷ befores) (y ∷ nows) kept =
    ap (λ (s : Status). is_pending s || list_any waits (map (standing_at k) (enumerate_from (n + 1) nows))) kept.0
    ∙ ap (λ (b : Bool). is_pending (channel_status k x) || b) (any_kept k (n + 1) befores nows kept.1)

-- ---- a load runs if a source is pending

-- if the load goes on at the first round that stops, a source waits for bytes there
pub running_waits : (k : ℕ) (readings : Readings) → IsFirstStop readings k → verdict_at k readings ≡ Running → list_any waits (sources_at k readings) ≡ true
running_waits k readings stop running = elim (cases_Bool (list_any waits (sources_at k readings))) [
  | inl t ↦ t
  | inr f ↦ absurd (settled_is_told k readings stop (none_passes waits (sources_at k readings) f) running)
]

waiting_is_open : (s : Status) → is_pending s ≡ true → is_whole s ≡ false
waiting_is_open Whole e = absurd cc
waiting_is_open Clean e = refl
waiting_is_open (Bad f) e = refl
waiting_is_open Pending e = refl

-- if some source is pending, not all are whole
pub not_all_whole : (sources : List Standing) → list_any waits sources ≡ true → list_all (λ (s : Standing). is_whole s.status) sources ≡ false
not_all_whole [] e = absurd cc
not_all_whole (s ∷ sources) e = elim (cases_Bool (is_pending s.status)) [
  | inl t ↦ rw (waiting_is_open s.status t) refl
  | inr f ↦
      let later : list_any waits sources ≡ true = rw f at e in
      let rest = not_all_whole sources later in
      and_false (is_whole s.status) (list_all (λ (x : Standing). is_whole x.status) sources) rest
]
  where
    and_false : (b n : Bool) → n ≡ false → (b && n) ≡ false
    and_false true n e = e
    and_false false n e = refl

-- if a source is pending at round k, the round doesn't pass, and its verdict is Running
pub waits_here : (k : ℕ) (readings : Readings) → list_any waits (sources_at k readings) ≡ true → (passes k readings ≡ false) × (verdict_at k readings ≡ Running)
waits_here k readings t = (let n = not_all_whole (sources_at k readings) t in rw n refl, rw t refl)

-- ---- the rounds before stay

same_packets : (p i n : ℕ) (befores nows : List channel.ChannelReading) → AllZip ChannelStays befores nows
    → All IsWhole (map (standing_at i) (enumerate_from n befores))
    → flat_map (channel_packets_at p i) nows ≡ flat_map (channel_packets_at p i) befores
same_packets p i n [] [] stay whole = refl
same_packets p i n [] (y ∷ nows) stay whole = absurd stay
same_packets p i n (x ∷ befores) [] stay whole = absurd stay
same_packets p i n (x ∷ befores) (y ∷ nows) stay whole =
    let rest : List Standing = map (standing_at i) (enumerate_from (n + 1) befores) in
    let lt : i < length x.rounds = whole_below i (length x.rounds) (channel_end x.state) (channel_ends x.state)
    (All-head IsWhole (standing_at i (n, x)) rest whole) in
    let longer = round_of_more x.rounds y.rounds stay.0.more_rounds i stay.0.has_rounds lt in
    ap (λ (round : List (List ℕ)). map (fields_of p) round ++ flat_map (channel_packets_at p i) nows) longer.1
    ∙ ap (λ (packets : List Fields). channel_packets_at p i x ++ packets)
    (same_packets p i (n + 1) befores nows stay.1 (All-tail IsWhole (standing_at i (n, x)) rest whole))

same_pages : (table : RamTable) (i : ℕ) (before now : Readings) → ReadingsStay before now → passes i before ≡ true
    → pages_at table i now ≡ pages_at table i before
same_pages table i before now stay passed =
    let p : ℕ = table.page_size in
    let whole = whole_at before i passed in
    let lt : i < length before.main.rounds =
    whole_below i (length before.main.rounds) (stream_end before.main.state) (stream_ends before.main.state)
    (All-head IsWhole (main_at i before) (channels_at i before) whole) in
    let longer = round_of_more before.main.rounds now.main.rounds stay.main.more_rounds i stay.main.has_rounds lt in
    ap (λ (round : List PageRecord). all_round_pages table (map (page_of p) round) (packets_at p i now)) longer.1
    ∙ ap (λ (packets : List Fields). all_round_pages table (record_pages_at p i before) packets)
    (same_packets p i 0 before.channels now.channels stay.channels (All-tail IsWhole (main_at i before) (channels_at i before) whole))

-- rounds that all sources passed keep their pages if the streams grow
pub same_rounds_onto : (first : Image) (k : ℕ) (before now : Readings) → ReadingsStay before now → ((j : ℕ) → j < k → IsTrue (passes j before))
    → map (λ i. pages_at first.table i now) (range_with_len 0 k) ≡ map (λ i. pages_at first.table i before) (range_with_len 0 k)
same_rounds_onto first k before now stay passed =
    same_map (λ i. pages_at first.table i now) (λ i. pages_at first.table i before) 0 k
    (λ i below. same_pages first.table i before now stay (passed i (omega (arith, below))))
