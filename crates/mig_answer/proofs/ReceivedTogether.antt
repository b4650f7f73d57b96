-- What was received of all channels' items says what their streams say together.
use Rattle.std.proofs.Common.{ℕ, zero, suc, ◌≡◌, ◌+◌, ◌<◌, ◌≤◌, List, [], ◌∷◌, length, map, get_or, flat_map, sum_by, refl, sym, ap, ◌∙◌, arith, subst}
use Rattle.std.specs.List.{AllZip, range_with_len, enumerate_from}
use Rattle.std.proofs.lemmas.List.{length-map}
use Rattle.std.proofs.lemmas.List.Concat.{length-flat_map}
use Rattle.std.proofs.lemmas.List.Folds.{flat_map-map}
use Rattle.std.proofs.lemmas.List.Sums.{sum_by-cons}
use Rattle.mig_mem.specs.PageSize.{IsPageSize}
use Rattle.mig_packet.specs.Packet.{Fields, fields_of}
use Rattle.mig_packet.specs.ChannelItems.{ChannelItem}
use Rattle.mig_packet.specs.Reading.{ChannelReading, Settings, IsReading}
use Rattle.mig_load_types.specs.Settings.{channel_of}
use Rattle.mig_load_types.specs.declared.fault.Origin.TheVariants as origin
use Rattle.mig_answer.specs.declared.status.Status.{Status}
use Rattle.mig_answer.specs.Status.{channel_status}
use Rattle.mig_answer.specs.Texts.{Text, ended_text}
use Rattle.mig_answer.specs.Rounds.{channel_packets_at, packet_count_at}
use Rattle.mig_answer.specs.MultiLoad.{Standing}
use Rattle.mig_answer.specs.Received.{hello_in, status_in, channel_packets_in, packets_in, TellsChannel, IsEnough, FrontsTellAllChannels}
use Rattle.mig_assemble.proofs.Elements.{sum_by-map}
use Rattle.mig_answer.proofs.Received.{received_law}

-- ---- channel after channel

abbrev TellChannels : ℕ → ℕ → List (List ChannelItem) → List ChannelReading → Type 0
TellChannels page_size k received readings = AllZip (TellsChannel page_size k) received readings

all_tell : (given : Settings) (k : ℕ) (texts : List (List ℕ)) (received : List (List ChannelItem)) (readings : List ChannelReading) → IsPageSize given.page_size
    → AllZip (λ (text : Text) (reading : ChannelReading). IsReading given text.bytes text.ended reading) (map ended_text texts) readings
    → AllZip (IsEnough given k) texts received → TellChannels given.page_size k received readings
all_tell given k [] [] [] size read have = tt
all_tell given k [] [] (reading ∷ readings) size read have = absurd read
all_tell given k [] (items ∷ received) readings size read have = absurd have
all_tell given k (text ∷ texts) [] readings size read have = absurd have
all_tell given k (text ∷ texts) (items ∷ received) [] size read have = absurd read
all_tell given k (text ∷ texts) (items ∷ received) (reading ∷ readings) size read have =
    let is : IsEnough given k text items = have.0 in (
      received_law given k text is.items items reading size is.are_items read.0 is.is_front is.settles,
      all_tell given k texts received readings size read.1 have.1,
    )

-- what is the same of each channel is so of all
same_each : {X : Type 0} (f : List ChannelItem → X) (g : ChannelReading → X) (page_size k : ℕ)
    → ((items : List ChannelItem) (reading : ChannelReading) → TellsChannel page_size k items reading → f items ≡ g reading)
    → (received : List (List ChannelItem)) (readings : List ChannelReading) → TellChannels page_size k received readings → map f received ≡ map g readings
same_each f g page_size k same [] [] tell = refl
same_each f g page_size k same [] (reading ∷ readings) tell = absurd tell
same_each f g page_size k same (items ∷ received) [] tell = absurd tell
same_each f g page_size k same (items ∷ received) (reading ∷ readings) tell =
    rw (same items reading tell.0, same_each f g page_size k same received readings tell.1) refl

-- ---- how they stand

abbrev standing : ℕ × Status → Standing
standing s = record { source = origin.Channel s.0; status = s.1 }

same_standings : (page_size k from : ℕ) (received : List (List ChannelItem)) (readings : List ChannelReading) → TellChannels page_size k received readings
    → map (λ (c : ℕ × List ChannelItem). standing (c.0, status_in k c.1)) (enumerate_from from received)
    ≡ map (λ (c : ℕ × ChannelReading). standing (c.0, channel_status k c.1)) (enumerate_from from readings)
same_standings page_size k from [] [] tell = refl
same_standings page_size k from [] (reading ∷ readings) tell = absurd tell
same_standings page_size k from (items ∷ received) [] tell = absurd tell
same_standings page_size k from (items ∷ received) (reading ∷ readings) tell =
    rw (tell.0.has_status, same_standings page_size k (from + 1) received readings tell.1) refl

-- ---- their packets

same_packets : (page_size k i : ℕ) (received : List (List ChannelItem)) (readings : List ChannelReading) → i ≤ k → TellChannels page_size k received readings
    → flat_map (channel_packets_in i) received ≡ flat_map (channel_packets_at page_size i) readings
same_packets page_size k i received readings few tell =
    let all : List (List Fields) → List Fields = flat_map (λ (packets : List Fields). packets) in
    sym (flat_map-map (λ (packets : List Fields). packets) (channel_packets_in i) received)
    ∙ ap all (same_each (channel_packets_in i) (channel_packets_at page_size i) page_size k
    (λ items reading tells. tells.has_packets i few) received readings tell)
    ∙ flat_map-map (λ (packets : List Fields). packets) (channel_packets_at page_size i) readings

same_count : (page_size k i : ℕ) (received : List (List ChannelItem)) (readings : List ChannelReading) → i ≤ k → TellChannels page_size k received readings
    → length (flat_map (channel_packets_in i) received) ≡ sum_by (λ (reading : ChannelReading). length (get_or reading.rounds i [])) readings
same_count page_size k i received readings few tell =
    let mine : List ChannelItem → ℕ = λ items. length (channel_packets_in i items) in
    let theirs : ChannelReading → ℕ = λ reading. length (get_or reading.rounds i []) in
    length-flat_map (channel_packets_in i) received
    ∙ sym (sum_by-map (λ (n : ℕ). n) mine received)
    ∙ ap (sum_by (λ (n : ℕ). n)) (same_each mine theirs page_size k (λ items reading tells.
    ap (λ (packets : List Fields). length packets) (tells.has_packets i few)
    ∙ length-map (get_or reading.rounds i []) (fields_of page_size)) received readings tell)
    ∙ sum_by-map (λ (n : ℕ). n) theirs readings

-- functions that agree below the end of a range have one sum over it
pub same_sums : (f g : ℕ → ℕ) (from count : ℕ) → ((i : ℕ) → i < from + count → f i ≡ g i)
    → sum_by f (range_with_len from count) ≡ sum_by g (range_with_len from count)
same_sums f g from zero same = refl
same_sums f g from (suc count) same =
    let later : List ℕ = range_with_len (from + 1) count in
    sum_by-cons f from later ∙ ap (λ (n : ℕ). n + sum_by f later) (same from (omega arith))
    ∙ ap (λ (n : ℕ). g from + n) (same_sums f g (from + 1) count (λ i below. same i (omega (arith, below))))
    ∙ sym (sum_by-cons g from later)

-- ---- the law

-- enough items of each channel agree with the complete channels on a round
pub together_law : FrontsTellAllChannels
together_law = λ given uuid k main channels received readings size are have.
    let channel_given : Settings = channel_of given uuid (length channels) in
    let as_many : length (map ended_text channels) ≡ length channels = length-map channels ended_text in
    let read = subst (λ (n : ℕ). AllZip (λ (text : Text) (reading : ChannelReading). IsReading (channel_of given uuid n) text.bytes text.ended reading)
    (map ended_text channels) readings.channels) as_many are.has_channels in
    let tell : TellChannels given.page_size k received readings.channels = all_tell channel_given k channels received readings.channels size read have in
    record {
      has_channels = same_standings given.page_size k 0 received readings.channels tell;
      has_hellos = same_each hello_in (λ (reading : ChannelReading). reading.hello) given.page_size k
          (λ items reading tells. tells.has_hello) received readings.channels tell;
      has_packets = λ i few. same_packets given.page_size k i received readings.channels few tell;
      has_base = same_sums (λ i. length (packets_in i received)) (λ i. packet_count_at i readings) 0 k
          (λ i below. same_count given.page_size k i received readings.channels (omega (arith, below)) tell);
    }
