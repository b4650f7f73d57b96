-- How a round is applied in a load on several channels, whoever gathered it.
use Rattle.std.proofs.Common.{ℕ, ◌≡◌, ◌+◌, List, [], ◌∷◌, ◌++◌, length, map, sym, ap, ◌∙◌, Option, Some, None, arith, get_or, sum_by, zero-add}
use Rattle.std.specs.List.{range_with_len}
use Rattle.std.specs.Option.{option_map, option_and_then}
use Rattle.std.proofs.lemmas.List.{length-map}
use Rattle.std.proofs.lemmas.List.Concat.{length-flat_map}
use Rattle.std.proofs.lemmas.List.Sums.{sum_by-append}
use Rattle.std.proofs.lemmas.List.FromFn.{map-range_with_len_more}
use Rattle.mig_mem.specs.PageSize.{IsPageSize}
use Rattle.mig_mem.specs.RamTable.{RamTable}
use Rattle.mig_mem.specs.PlaceSet.{PlaceSet}
use Rattle.mig_mem.specs.Image.{Page, Image, zero_image}
use Rattle.mig_mem.specs.Round.{after, with_round}
use Rattle.mig_mem.proofs.Rounds.{onto-push, onto-zeros, after-nil}
use Rattle.mig_mem.proofs.Counts.{range-append}
use Rattle.mig_stream.specs.PageRecord.{page_of}
use Rattle.mig_stream.specs.Round.{RoundOfRecords}
use Rattle.mig_stream.proofs.Limits.{limits_law}
use Rattle.mig_packet.specs.Packet.{Fields, fields_of}
use Rattle.mig_packet.specs.Reading.{ChannelReading}
use Rattle.mig_assemble.specs.Judging.{refusal, all_round_pages, places_of}
use Rattle.mig_assemble.specs.NamedPlaces.{named_by, with_places}
use Rattle.mig_assemble.specs.Target.{LoadTarget, FitsTable, pages_of_round, after_round}
use Rattle.mig_load_types.specs.Settings.{main_of}
use Rattle.mig_load_types.specs.declared.settings.LoadSettings.{LoadSettings}
use Rattle.mig_assemble.proofs.Naming.{named_by-push}
use Rattle.mig_answer.specs.Texts.{Text, Readings, IsMainReading}
use Rattle.mig_answer.specs.Rounds.{record_pages_at, channel_packets_at, packets_at, packet_count_at, base_at, refusal_of, refusal_at, pages_at, memory_at}
use Rattle.mig_answer.specs.Putting.{HasLoaded}

-- ---- the memory's table

-- the table of a memory that is loaded, which is the main stream's
pub table_is : (k : ℕ) (readings : Readings) (target : LoadTarget) → HasLoaded k readings target → readings.main.table ≡ Some target.memory.table
table_is k readings target has = go readings.main.table has.has_memory
  where
    go : (o : Option RamTable) → option_map (λ t. after t (map (λ i. pages_at t i readings) (range_with_len 0 k))) o
        ≡ Some target.memory → o ≡ Some target.memory.table
    go None e = absurd cc
    go (Some t) e =
        let same : after t (map (λ i. pages_at t i readings) (range_with_len 0 k)) ≡ target.memory = cc in ap (λ (m : Image). Some m.table) same

-- the page size of the table
pub size_of_table : (given : LoadSettings) (k : ℕ) (text : Text) (readings : Readings) (target : LoadTarget)
    → IsPageSize given.page_size → IsMainReading given text readings.main → HasLoaded k readings target
    → target.memory.table.page_size ≡ given.page_size
size_of_table given k text readings target size is has =
    let table : is.found.table ≡ Some target.memory.table = sym (ap (λ r. r.table) is.has_end) ∙ table_is k readings target has in
    (limits_law (main_of given) text.bytes is.found size is.is_reading).has_page_size target.memory.table table

-- ---- the round

-- a round that is judged next: these are its records, of pages of the memory
abbrev pub IsNext : Readings → LoadTarget → RoundOfRecords → Type 0
IsNext readings target round = round.records ≡ get_or readings.main.rounds target.rounds []

-- its pages of records
pages_are : (readings : Readings) (target : LoadTarget) (round : RoundOfRecords) → FitsTable target.memory.table round → IsNext readings target round
    → pages_of_round round ≡ record_pages_at target.memory.table.page_size target.rounds readings
pages_are readings target round fits next =
    ap (λ (n : ℕ). map (page_of n) round.records) fits.has_page_size ∙ ap (map (page_of target.memory.table.page_size)) next

-- why it is refused
pub refusal_of_round : (p : ℕ) (readings : Readings) (target : LoadTarget) (round : RoundOfRecords) (packets : List Fields) → target.memory.table.page_size ≡ p
    → HasLoaded target.rounds readings target → FitsTable target.memory.table round → IsNext readings target round
    → packets ≡ packets_at p target.rounds readings
    → refusal_at target.rounds readings ≡ refusal target.memory.table target.base (pages_of_round round) packets
refusal_of_round p readings target round packets size has fits next are =
    let table : RamTable = target.memory.table in
    let k : ℕ = target.rounds in
    let same : packets ≡ packets_at table.page_size k readings = are ∙ ap (λ (n : ℕ). packets_at n k readings) (sym size) in
    ap (option_and_then (λ t. refusal_of t k readings)) (table_is k readings target has)
    ∙ ap (λ (n : ℕ). refusal table n (record_pages_at table.page_size k readings) (packets_at table.page_size k readings)) (sym has.has_base)
    ∙ ap (λ (pages : List Page). refusal table target.base pages (packets_at table.page_size k readings)) (sym (pages_are readings target round fits next))
    ∙ ap (refusal table target.base (pages_of_round round)) (sym same)

-- as many packets as are counted
pub packets_counted : (page_size k : ℕ) (readings : Readings) → length (packets_at page_size k readings) ≡ packet_count_at k readings
packets_counted page_size k readings =
    length-flat_map (channel_packets_at page_size k) readings.channels
    ∙ ap (λ (f : ChannelReading → ℕ). sum_by f readings.channels) (λ i reading. length-map (get_or reading.rounds k []) (fields_of page_size) i)

-- the first packet number of a round is that of the round before and its count of packets
pub base_more : (k : ℕ) (readings : Readings) → base_at k readings + packet_count_at k readings ≡ base_at (k + 1) readings
base_more k readings =
    let count : ℕ → ℕ = λ i. packet_count_at i readings in
    let last : sum_by count (range_with_len (0 + k) 1) ≡ packet_count_at k readings =
    ap (λ (n : ℕ). sum_by count (range_with_len n 1)) (zero-add k) ∙ zero-add (packet_count_at k readings) in
    sym (ap (sum_by count) (range-append 0 k 1) ∙ sum_by-append count (range_with_len 0 k) (range_with_len (0 + k) 1)
    ∙ ap (λ (n : ℕ). sum_by count (range_with_len 0 k) + n) last)

one_round_more : (table : RamTable) (rounds : List (List Page)) (round : List Page) → after table (rounds ++ round ∷ []) ≡ with_round (after table rounds) round
one_round_more table rounds round =
    onto-zeros table (rounds ++ round ∷ []) ∙ onto-push (zero_image table) rounds round ∙ ap (λ (m : Image). with_round m round) (sym (onto-zeros table rounds))

-- with it one round more is loaded
pub round_is_put : (p : ℕ) (readings : Readings) (target new : LoadTarget) (round : RoundOfRecords) (packets : List Fields) → target.memory.table.page_size ≡ p
    → HasLoaded target.rounds readings target → FitsTable target.memory.table round → IsNext readings target round
    → packets ≡ packets_at p target.rounds readings
    → new ≡ after_round target round packets → HasLoaded (target.rounds + 1) readings new
round_is_put p readings target new round packets size has fits next are is =
    let table : RamTable = target.memory.table in
    let k : ℕ = target.rounds in
    let same : packets ≡ packets_at table.page_size k readings = are ∙ ap (λ (n : ℕ). packets_at n k readings) (sym size) in
    let is_table : readings.main.table ≡ Some table = table_is k readings target has in
    let pages : List (List Page) = map (λ i. pages_at table i readings) (range_with_len 0 k) in
    let before : after table pages ≡ target.memory =
    let e : Some (after table pages) ≡ Some target.memory =
    sym (ap (option_map (λ t. after t (map (λ i. pages_at t i readings) (range_with_len 0 k)))) is_table) ∙ has.has_memory in cc in
    let here : pages_at table k readings ≡ all_round_pages table (pages_of_round round) packets =
    ap (λ (ps : List Page). all_round_pages table ps (packets_at table.page_size k readings)) (sym (pages_are readings target round fits next))
    ∙ ap (all_round_pages table (pages_of_round round)) (sym same) in
    let memory : after table (map (λ i. pages_at table i readings) (range_with_len 0 (k + 1))) ≡ new.memory =
    ap (after table) (map-range_with_len_more (λ i. pages_at table i readings) 0 k k (omega arith)) ∙ one_round_more table pages (pages_at table k readings)
    ∙ ap (λ (m : Image). with_round m (pages_at table k readings)) before ∙ ap (with_round target.memory) here ∙ ap (λ (t : LoadTarget). t.memory) (sym is) in
    let named : target.named ≡ named_by table pages =
    let e : Some (named_by table pages) ≡ Some target.named =
    sym (ap (option_map (λ t. named_by t (map (λ i. pages_at t i readings) (range_with_len 0 k)))) is_table) ∙ has.has_named in cc in
    let names : named_by table (map (λ i. pages_at table i readings) (range_with_len 0 (k + 1))) ≡ new.named =
    ap (named_by table) (map-range_with_len_more (λ i. pages_at table i readings) 0 k k (omega arith))
    ∙ sym (named_by-push table pages (pages_at table k readings) target.named named)
    ∙ ap (λ (ps : List Page). with_places target.named (places_of ps)) here ∙ ap (λ (t : LoadTarget). t.named) (sym is) in
    record {
      has_memory = ap (option_map (λ t. after t (map (λ i. pages_at t i readings) (range_with_len 0 (k + 1))))) is_table ∙ ap (λ (m : Image). Some m) memory;
      has_named = ap (option_map (λ t. named_by t (map (λ i. pages_at t i readings) (range_with_len 0 (k + 1))))) is_table
          ∙ ap (λ (s : PlaceSet). Some s) names;
      has_rounds = ap (λ (t : LoadTarget). t.rounds) is;
      has_base = ap (λ (t : LoadTarget). t.base) is
          ∙ ap (λ (n : ℕ). n + length packets) has.has_base
          ∙ ap (λ (ps : List Fields). base_at k readings + length ps) are
          ∙ ap (λ (n : ℕ). base_at k readings + n) (packets_counted p k readings) ∙ base_more k readings;
    }

-- without a round the memory is zeros
pub after_nothing : (table : RamTable) (readings : Readings) → readings.main.table ≡ Some table → memory_at 0 readings ≡ Some (zero_image table)
after_nothing table readings is =
    ap (option_map (λ t. after t (map (λ i. pages_at t i readings) (range_with_len 0 0)))) is ∙ ap (λ (m : Image). Some m) (after-nil table)
