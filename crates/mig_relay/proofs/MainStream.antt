-- The main stream of a load on channels, round by round, and its end.
use Rattle.std.proofs.Common.{ℕ, ◌≡◌, ◌<◌, ◌≤◌, true, List, [], length, refl, sym, ap, ◌∙◌, inl, inr, Some, arith, subst, get_or}
use Rattle.std.specs.Prelude.{⊤, Result, slice_index_or}
use Rattle.std.specs.List.{All}
use Rattle.std.proofs.lemmas.Bool.{cases_lt}
use Rattle.std.proofs.lemmas.List.{length-append}
use Rattle.mig_mem.specs.RamTable.{RamTable}
use Rattle.mig_mem.specs.Place.{IsPlace}
use Rattle.mig_stream.specs.declared.item.StreamState.{StreamState}
use Rattle.mig_stream.specs.PageRecord.{PageRecord}
use Rattle.mig_stream.specs.Progress.{StreamProgress, whole_table}
use Rattle.mig_stream.specs.Reading.{StreamReading, IsReading, state_at}
use Rattle.mig_stream.specs.Reader.{Reader, SoFar, Stands, with_taken, HasTable, HasRound, HasState}
use Rattle.mig_stream.specs.Round.{RoundOfRecords}
use Rattle.mig_stream.proofs.Exists.{one_reading_law}
use Rattle.mig_stream.proofs.Limits.{limits_law}
use Rattle.mig_assemble.specs.Target.{LoadTarget}
use Rattle.mig_load_types.specs.Settings.{main_of}
use Rattle.mig_load_types.specs.declared.fault.LoadFault.{LoadFault}
use Rattle.mig_relay.specs.RelayItems.{QueueEnd}
use Rattle.mig_relay.specs.Relayed.{Load, Loading, HasEnded, ComesToRound, Goes, EndsAt, Ends}
use Rattle.mig_answer.proofs.Putting.{table_is}
use Rattle.mig_relay.proofs.RelayRounds.{size_is}

-- a complete main stream, this many of whose rounds were taken
abbrev pub main_so_far : List ℕ → ℕ → SoFar
main_so_far text n = record { text = text; ended = true; taken = n }

-- ---- one reading

-- a load's reading of the main stream is any reading of its bytes, in the state once they end
pub same_main : (l : Load) (k : ℕ) (places : List ℕ) (ends : List QueueEnd) (reading : StreamReading) → Loading l k places ends
    → IsReading (main_of l.given) l.main reading
    → l.readings.main ≡ record reading { state = state_at true reading.state }
same_main l k places ends reading loading is =
    let main = loading.are_readings.has_main in
    let one = one_reading_law (main_of l.given) l.main loading.is_page_size in
    let same : main.found ≡ reading = one.2 main.found main.is_reading ∙ sym (one.2 reading is) in
    main.has_end ∙ ap (λ (r : StreamReading). record r { state = state_at true r.state }) same

-- those that were given are the stream's
given_are_there : (l : Load) (k n : ℕ) (places : List ℕ) (ends : List QueueEnd) (r : Reader) → Loading l k places ends
    → Stands (main_of l.given) (main_so_far l.main n) r
    → n ≤ length l.readings.main.rounds
given_are_there l k n places ends r loading stands =
    let to : StreamProgress = with_taken stands.rounds r.progress in
    let other : StreamReading = record { table = whole_table to; rounds = to.rounds; state = r.found } in
    let is_other : IsReading (main_of l.given) l.main other = record {
      to = to;
      rest = stands.rest;
      reads = stands.reads;
      has_table = refl;
      has_rounds = refl;
    } in
    let same = same_main l k places ends other loading is_other in
    omega (arith, ap (λ (x : StreamReading). length x.rounds) same, length-append stands.rounds r.progress.rounds, stands.has_taken)

-- ---- a round comes

-- if the main stream has a next round of these records, at places of its table, the load comes
-- to this round
pub comes_in : (l : Load) (reader : Reader) (target : LoadTarget) (places : List ℕ) (ends : List
    QueueEnd) (round : RoundOfRecords) → Goes l reader target places ends
    → round.page_size ≡ l.given.page_size → HasRound (main_of l.given) l.main target.rounds round.records
    → ((table : RamTable) → HasTable (main_of l.given) l.main (Some table) → All (λ x. IsPlace table x.place) round.records)
    → ComesToRound l target places ends round
comes_in l reader target places ends round goes size has places_in =
    let loading = goes.loading in
    let reading : StreamReading = has.0 in
    let same = same_main l target.rounds places ends reading loading has.1 in
    let few = (limits_law (main_of l.given) l.main reading loading.is_page_size has.1).has_few in
    let below : target.rounds < length reading.rounds = has.2 in
    let short = goes.is_short in
    let table : Some target.memory.table ≡ reading.table =
    sym (table_is target.rounds l.readings target goes.has_loaded) ∙ ap (λ (x : StreamReading). x.table) same in
    record {
      loading = loading;
      has_loaded = goes.has_loaded;
      few_packets = goes.few_packets;
      few_rounds = omega (arith, below, few, short);
      has_round = subst (λ (x : StreamReading). target.rounds < length x.rounds) (sym same) below;
      is_round = sym has.3 ∙ ap (λ (x : StreamReading). get_or x.rounds target.rounds []) (sym same);
      fits = record {
        has_page_size = size ∙ sym (size_is l target.rounds target places ends loading goes.has_loaded);
        has_places = places_in target.memory.table (reading, has.1, table);
      };
    }

-- ---- no round is left

-- if the main stream has no round from k on, the load ends at k with the main stream's state
pub ends_in : (l : Load) (k : ℕ) (reader : Reader) (state : StreamState) (places : List ℕ) (ends : List QueueEnd) → Loading l k places ends
    → Stands (main_of l.given) (main_so_far l.main k) reader
    → ((i : ℕ) (round : List PageRecord) → HasRound (main_of l.given) l.main i round → i < k)
    → HasState (main_of l.given) l.main true state → EndsAt l k state places ends
ends_in l k reader state places ends loading stands last has =
    let reading : StreamReading = has.0 in
    let same = same_main l k places ends reading loading has.1 in
    let least = given_are_there l k k places ends reader loading stands in
    let most : length reading.rounds ≤ k = elim (cases_lt k (length reading.rounds)) [
      | inl lt ↦ let bad = last k (slice_index_or reading.rounds k []) (reading, has.1, lt, refl) in absurd (omega (arith, bad))
      | inr le ↦ le
    ] in
    record {
      loading = loading;
      is_last = omega (arith, least, most, ap (λ (x : StreamReading). length x.rounds) same);
      has_state = ap (λ (x : StreamReading). x.state) same ∙ sym has.2;
    }

-- ---- the end

-- a load that goes ends with its memory unchanged
pub ends_here : (l : Load) (reader : Reader) (target new : LoadTarget) (verdict : Result ⊤ LoadFault) (places : List ℕ)
    (ends now : List QueueEnd) → Goes l reader target places ends
    → new ≡ target → HasEnded l target.rounds verdict now → Ends l new verdict now
ends_here l reader target new verdict places ends now goes same ended =
    subst (λ (t : LoadTarget). Ends l t verdict now) (sym same) (record {
      are_readings = goes.loading.are_readings;
      have_passed = goes.loading.have_passed;
      has_loaded = goes.has_loaded;
      has_ended = ended;
    })

-- after all rounds
pub goes_to_end : (l : Load) (k : ℕ) (reader next : Reader) (target : LoadTarget) (state : StreamState) (places : List
    ℕ) (ends : List QueueEnd) → k ≡ target.rounds → Goes l reader target places ends
    → next ≡ reader → ((i : ℕ) (round : List PageRecord) → HasRound (main_of l.given) l.main i round → i < target.rounds)
    → HasState (main_of l.given) l.main true state → EndsAt l k state places ends
goes_to_end l k reader next target state places ends e goes same last has =
    subst (λ n. EndsAt l n state places ends) (sym e)
    (ends_in l target.rounds next state places ends goes.loading
    (subst (λ (r : Reader). Stands (main_of l.given) (main_so_far l.main target.rounds) r) (sym same) goes.stands) last has)
