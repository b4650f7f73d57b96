-- A load that runs isn't due once a source has ended: the source that it waits for doesn't have the
-- round.
use Rattle.std.proofs.Common.{ℕ, zero, suc, ◌≡◌, ◌+◌, ◌<◌, ◌&&◌, Bool, true, false, List, [], ◌∷◌, length, map, set, get_or, Some, None, refl, sym, ap, subst}
use Rattle.std.proofs.Common.{◌∙◌, arith}
use Rattle.std.specs.Prelude.{slice_get}
use Rattle.std.specs.List.{AllZip, All, enumerate_from, list_all}
use Rattle.std.proofs.lemmas.List.{length-set, append-nil}
use Rattle.std.proofs.lemmas.List.Elements.{All-head, All-tail}
use Rattle.mig_mem.specs.RamTable.{RamTable}
use Rattle.mig_mem.specs.PageSize.{IsPageSize}
use Rattle.mig_mem.specs.First.{first_some}
use Rattle.mig_mem.specs.Image.{Image}
use Rattle.mig_stream.specs.PageRecord.{PageRecord}
use Rattle.mig_stream.specs.Reading.{StreamReading, IsReading as IsStreamReading}
use Rattle.mig_stream.proofs.Exists.{one_reading_law}
use Rattle.mig_packet.specs.Reading.{Settings, ChannelReading, IsReading}
use Rattle.mig_single_load.specs.InPlace.{IsOfOwnTable}
use Rattle.mig_load_types.specs.Settings.{main_of, for_table, channel_of}
use Rattle.mig_load_types.specs.declared.fault.Origin.TheVariants as origin
use Rattle.mig_load_types.specs.declared.settings.LoadSettings.{LoadSettings}
use Rattle.mig_answer.specs.declared.verdict.Verdict.TheVariants.{Running}
use Rattle.mig_answer.specs.Status.{channel_end, stream_end, main_status, channel_status, is_whole}
use Rattle.mig_answer.specs.Texts.{Text, Texts, Readings, no_text, over}
use Rattle.mig_answer.specs.MultiLoad.{Standing, main_at, channels_at, sources_at}
use Rattle.mig_answer.proofs.Statuses.{status_whole, stream_ends, channel_ends}
use Rattle.mig_answer.proofs.Judged.{IsWhole}
use Rattle.mig_answer.proofs.ToldSources.{told_at}
use Rattle.mig_answer.proofs.GrowingChannels.{same_rounds}
use Rattle.mig_answer.proofs.OneAnswer.{same_readings}
use Rattle.mig_answer.specs.Growing.{GoesOn}
use Rattle.mig_sources.specs.declared.counts.Count.{Count}
use Rattle.mig_sources.specs.declared.source.Source.{Source}
use Rattle.mig_sources.specs.declared.source.Source.TheVariants as source
use Rattle.mig_sources.specs.Sources.{end_step, no_count}
use Rattle.mig_sources.proofs.Due.{due_sources, whole_below}
use Rattle.mig_sources.proofs.Steps.{SameBytes, all_bytes, same_at}
use Rattle.mig_in_place.specs.Sources.{KeptChannel, IsChannelOf, channel_count}
use Rattle.mig_in_place.specs.Session.{InPlaceLoad, Loading, Loads, Stands, IsDue}
use Rattle.mig_in_place.proofs.Waiting.{running_waits, not_all_whole}

abbrev AreRead : Settings → List Text → List ChannelReading → Type 0
AreRead given texts readings = AllZip (λ (text : Text) (reading : ChannelReading). IsReading given text.bytes text.ended reading) texts readings

abbrev standing : ℕ → (ℕ × ChannelReading) → Standing
standing k c = record { source = origin.Channel c.0; status = channel_status k c.1 }

both_true : (a b : Bool) → a ≡ true → b ≡ true → (a && b) ≡ true
both_true true b t e = e
both_true false b t e = absurd cc

whole_before : (given : Settings) (k n : ℕ) (olds news : List Text) (befores nows : List ChannelReading)
    → AllZip SameBytes olds news → AreRead given olds befores → AreRead given news nows
    → All IsWhole (map (standing k) (enumerate_from n nows))
    → list_all (λ (s : Standing). is_whole s.status) (map (standing k) (enumerate_from n befores)) ≡ true
whole_before given k n olds news [] nows same are_before are_now all = refl
whole_before given k n [] news (b ∷ befores) nows same are_before are_now all = absurd are_before
whole_before given k n (old ∷ olds) [] (b ∷ befores) nows same are_before are_now all = absurd same
whole_before given k n (old ∷ olds) (new ∷ news) (b ∷ befores) [] same are_before are_now all = absurd are_now
whole_before given k n (old ∷ olds) (new ∷ news) (b ∷ befores) (r ∷ nows) same are_before are_now all =
    let below : k < length r.rounds =
    whole_below k (length r.rounds) (channel_end r.state) (channel_ends r.state)
    (All-head IsWhole (standing k (n, r)) (map (standing k) (enumerate_from (n + 1) nows)) all) in
    let again : IsReading given old.bytes new.ended r = subst (λ (l : List ℕ). IsReading given l new.ended r) same.0 are_now.0 in
    let rounds : b.rounds ≡ r.rounds = (same_rounds given old.bytes old.ended new.ended b r are_before.0 again).0 in
    let count : length b.rounds ≡ length r.rounds = ap (λ (l : List (List (List ℕ))). length l) rounds in
    both_true (is_whole (channel_status k b)) (list_all (λ (s : Standing). is_whole s.status) (map (standing k) (enumerate_from (n + 1) befores)))
    (ap is_whole (status_whole k (length b.rounds) (channel_end b.state) (omega (arith, count, below))))
    (whole_before given k (n + 1) olds news befores nows same.1 are_before.1 are_now.1
    (All-tail IsWhole (standing k (n, r)) (map (standing k) (enumerate_from (n + 1) nows)) all))

-- if a load runs, its round isn't due on streams of the same bytes, whichever have ended
pub never_due : (f : Loading) (memory after : Image) (s now : InPlaceLoad) (texts : Texts) → Stands f memory s
    → s.verdict ≡ Running → texts.main.bytes ≡ f.texts.main.bytes
    → AllZip SameBytes f.texts.channels texts.channels → length texts.channels ≡ length f.texts.channels → now.rounds ≡ s.rounds
    → (loads : Loads (record f { texts = texts }) after now)
    → IsDue (record f { texts = texts }) now.rounds → ⊥
never_due f memory after s now texts stands running main_same same many rounds loads due =
    let given : LoadSettings = for_table f.first.table f.given in
    let size : IsPageSize given.page_size = stands.is_table.has_page_size in
    let k : ℕ = s.rounds in
    let b = stands.is_answer in
    let r = stands.runs running in
    let before : r.readings ≡ b.readings = same_readings given f.uuid f.texts r.readings b.readings size r.are_readings b.are_readings in
    let own = b.own (subst (λ (x : Readings). IsOfOwnTable f.first x.main) before r.is_own) in
    let waiting = running_waits k b.readings own.has_rounds (sym own.has_verdict ∙ running) in
    let n : Readings = loads.is_running.readings in
    let told : first_some (told_at k n) ≡ None = subst (λ (i : ℕ). first_some (told_at i n) ≡ None) rounds (due n loads.is_running.are_readings) in
    let all : All IsWhole (sources_at k n) = (due_sources k n told).0 in
    let found = loads.is_running.are_readings.has_main in
    let one = one_reading_law (main_of given) f.texts.main.bytes size in
    let here : IsStreamReading (main_of given) f.texts.main.bytes found.found =
    subst (λ (l : List ℕ). IsStreamReading (main_of given) l found.found) main_same found.is_reading in
    let same_found : b.are_readings.has_main.found ≡ found.found =
    one.2 b.are_readings.has_main.found b.are_readings.has_main.is_reading ∙ sym (one.2 found.found here) in
    let main_rounds : b.readings.main.rounds ≡ n.main.rounds =
    ap (λ (x : StreamReading). x.rounds) b.are_readings.has_main.has_end ∙ ap (λ (x : StreamReading). x.rounds) same_found
    ∙ sym (ap (λ (x : StreamReading). x.rounds) found.has_end) in
    let count : length b.readings.main.rounds ≡ length n.main.rounds = ap (λ (l : List (List PageRecord)). length l) main_rounds in
    let below : k < length n.main.rounds = whole_below k (length n.main.rounds) (stream_end n.main.state)
    (stream_ends n.main.state) (All-head IsWhole (main_at k n) (channels_at k n) all) in
    let main_whole : is_whole (main_status k b.readings.main) ≡ true =
    ap is_whole (status_whole k (length b.readings.main.rounds) (stream_end b.readings.main.state) (omega (arith, count, below))) in
    let channels : AreRead (channel_of given f.uuid (length f.texts.channels)) texts.channels n.channels =
    subst (λ (m : ℕ). AreRead (channel_of given f.uuid m) texts.channels n.channels) many loads.is_running.are_readings.has_channels in
    let rest = whole_before (channel_of given f.uuid (length f.texts.channels)) k 0 f.texts.channels texts.channels
    b.readings.channels n.channels same b.are_readings.has_channels channels
    (All-tail IsWhole (main_at k n) (channels_at k n) all) in
    let whole : list_all (λ (x : Standing). is_whole x.status) (sources_at k b.readings) ≡ true =
    both_true (is_whole (main_status k b.readings.main)) (list_all (λ (x : Standing). is_whole x.status) (channels_at k b.readings)) main_whole rest in
    let clash : true ≡ false = sym whole ∙ not_all_whole (sources_at k b.readings) waiting in absurd cc

-- ---- a source ends

-- the end of a source changes the bytes of no stream
pub end_bytes : (from : Source) (texts : Texts)
    → ((end_step from texts).main.bytes ≡ texts.main.bytes) × AllZip SameBytes texts.channels (end_step from texts).channels
    × (length (end_step from texts).channels ≡ length texts.channels)
end_bytes source.Main texts = (refl, all_bytes texts.channels, refl)
end_bytes (source.Channel j) texts = (refl, same_at j texts.channels, length-set texts.channels j (over (get_or texts.channels j no_text)))

-- a stream goes on to itself ended
pub ended_goes : (text : Text) → GoesOn text (over text)
ended_goes text = record {
  more = [];
  has_bytes = sym (append-nil text.bytes);
  stays_ended = λ e. ap (λ (b : Bool). record { bytes = text.bytes; ended = b }) (sym e);
}

-- a channel of a load into a table's memory stays so once its reader is ended
pub ended_channel : (t : RamTable) (c : KeptChannel) → IsChannelOf t c → IsChannelOf t (record c { reader = record c.reader { ended = true } })
ended_channel t c is =
    let g = is.gives in
    record {
      given = is.given;
      text = is.text;
      so_far = is.so_far;
      has_page_size = is.has_page_size;
      gives = record {
        is_page_size = g.is_page_size;
        has_settings = g.has_settings;
        has_fed = g.has_fed;
        reads = g.reads;
        is_open = g.is_open;
        is_reading = g.is_reading;
        has_packet = g.has_packet;
        has_hello = g.has_hello;
        has_packets = g.has_packets;
        has_room = g.has_room;
      };
      has_block = is.has_block;
    }

-- ending one channel's reader sets the end in its count, and changes no other count
pub channel_over : (channels : List KeptChannel) (j : ℕ) (q next : KeptChannel) → slice_get channels j ≡ Some q
    → next ≡ record q { reader = record q.reader { ended = true } }
    → map channel_count (set channels j next) ≡ set (map channel_count channels) j (record (get_or (map channel_count channels) j no_count) { ended = true })
channel_over [] j q next is same = absurd cc
channel_over (c ∷ channels) zero q next is same =
    let e : c ≡ q = cc in
    ap (λ (x : KeptChannel). channel_count x ∷ map channel_count channels) same
    ∙ ap (λ (x : KeptChannel). record (channel_count x) { ended = true } ∷ map channel_count channels) (sym e)
channel_over (c ∷ channels) (suc j) q next is same = ap (λ (l : List Count). channel_count c ∷ l) (channel_over channels j q next is same)
