-- A load in place that is done has exactly the rounds.
use Rattle.std.proofs.Common.{ℕ, ◌≡◌, ◌<◌, ◌+◌, ◌&&◌, Bool, true, false, List, [], ◌∷◌, ◌++◌, length, map, Option, Some, None, is_none, refl, sym, ap, subst}
use Rattle.std.proofs.Common.{◌∙◌, inl, inr, arith}
use Rattle.std.specs.Prelude.{nat_le}
use Rattle.std.specs.Option.{option_map_or}
use Rattle.std.specs.List.{AllZip, list_all, enumerate_from, flat_map, range_with_len}
use Rattle.std.proofs.lemmas.Bool.{and_parts, cond-false, lt-leb}
use Rattle.std.proofs.Math.ListN.{get_or-eq_default}
use Rattle.mig_mem.specs.PageSize.{IsPageSize}
use Rattle.mig_mem.specs.declared.place.Place.{Place}
use Rattle.mig_mem.specs.RamTable.{RamTable}
use Rattle.mig_mem.specs.Place.{has_place}
use Rattle.mig_mem.specs.Image.{Page, content_at, image_of}
use Rattle.mig_mem.specs.Round.{last_at, all_pages}
use Rattle.mig_mem.proofs.Images.{image_agree, image_is, content_at-image_of}
use Rattle.mig_stream.specs.declared.item.StreamState.{StreamState}
use Rattle.mig_stream.specs.declared.item.StreamState.TheVariants as stream_state
use Rattle.mig_stream.specs.PageRecord.{PageRecord}
use Rattle.mig_stream.specs.Progress.{StreamProgress}
use Rattle.mig_stream.specs.Reading.{StreamReading, Ends}
use Rattle.mig_stream.proofs.ClosedMain.{closed_has_none}
use Rattle.mig_stream.proofs.Plain.{main_due}
use Rattle.mig_stream.proofs.Unique.{one_reading as one_stream}
use Rattle.mig_packet.specs.PageSize.{head_len}
use Rattle.mig_packet.specs.declared.state.ChannelState.{ChannelState}
use Rattle.mig_packet.specs.declared.state.ChannelState.TheVariants as channel_state
use Rattle.mig_packet.specs.Progress.{ChannelProgress, due_fault}
use Rattle.mig_packet.specs.Reading.{Settings, ChannelReading, IsReading, state_at_end}
use Rattle.mig_packet.specs.Reading as channel
use Rattle.mig_packet.proofs.Exists.{one_reading_law as channel_law}
use Rattle.mig_assemble.proofs.Elements.{contains_cases}
use Rattle.mig_load_types.specs.Settings.{for_table, main_of, channel_of, mode_of}
use Rattle.mig_load_types.specs.declared.settings.LoadSettings.{LoadSettings}
use Rattle.mig_load_types.specs.declared.fault.Origin.TheVariants as origin
use Rattle.mig_answer.specs.Status.{stream_end, channel_end, channel_status, is_clean}
use Rattle.mig_answer.specs.Texts.{Text, IsMainReading}
use Rattle.mig_answer.specs.Rounds.{pages_at}
use Rattle.mig_answer.specs.MultiLoad.{Standing, main_at, channels_at}
use Rattle.mig_answer.proofs.Statuses.{clean_at, stream_closed, channel_closed}
use Rattle.mig_answer.proofs.Never.{done_is_clean}
use Rattle.mig_in_place.specs.Named.{MainNames, ChannelNames, SomeChannelNames, IsNamed, round_so_far, begun, packet_places}
use Rattle.mig_in_place.specs.Law.{InPlaceDoneIsExact}
use Rattle.mig_in_place.proofs.Done.{own_or_other}
use Rattle.mig_in_place.proofs.Behind.{main_is_not_single}

-- ---- names nothing

none_here : {X : Type 0} (rounds : List (List X)) (k : ℕ) (in_hand : List X) → k ≡ length rounds → in_hand ≡ [] → round_so_far k rounds in_hand ≡ []
none_here rounds k in_hand e none = get_or-eq_default rounds in_hand (omega (arith, e)) ∙ none

main_names_none : (given : LoadSettings) (k : ℕ) (text : Text) (reading : StreamReading) (p : Place)
    → IsMainReading given text reading → k ≡ length reading.rounds
    → is_clean (stream_end reading.state) ≡ true → MainNames (main_of given) k text.bytes p → ⊥
main_names_none given k text reading p is e clean names =
    let mine = is.is_reading in
    let its = names.is_reading in
    let same = one_stream _ text.bytes its.to mine.to its.rest mine.rest names.reading.state is.found.state its.reads mine.reads in
    let closed : is.found.state ≡ stream_state.Closed =
    stream_closed text.ended is.found.state (sym (ap (λ (r : StreamReading). is_clean (stream_end r.state)) is.has_end) ∙ clean) in
    let ends : Ends mine.to mine.rest stream_state.Closed = subst (λ (s : StreamState). Ends mine.to mine.rest s) closed mine.reads.ends in
    let none : mine.to.records ≡ [] = closed_has_none given.frame
    (mode_of given.round_end) given.page_size given.limit given.waiting mine.reads.front mine.to (main_is_not_single given.round_end) mine.reads.leads
    (main_due (main_of given) mine.reads.front mine.to mine.rest (main_is_not_single given.round_end) mine.reads.leads ends) in
    let rounds : length names.reading.rounds ≡ k =
    ap (λ (l : List (List PageRecord)). length l)
    (its.has_rounds ∙ ap (λ (c : StreamProgress). c.rounds) same.0 ∙ sym mine.has_rounds ∙ sym (ap (λ (r : StreamReading). r.rounds) is.has_end)) ∙ sym e in
    let here : round_so_far k names.reading.rounds its.to.records ≡ [] =
    none_here names.reading.rounds k its.to.records (sym rounds) (ap (λ (c : StreamProgress). c.records) same.0 ∙ none) in
    let t : has_place [] p ≡ true = subst (λ (l : List PageRecord). has_place (map (λ (r : PageRecord). r.place) l) p ≡ true) here names.has_record in absurd cc

closed_is_used_up : (hello : Option ℕ) (rest : List ℕ) (packets : List (List ℕ))
    → state_at_end hello rest packets ≡ channel_state.Closed → (rest ≡ []) × (packets ≡ [])
closed_is_used_up None rest packets e = absurd cc
closed_is_used_up (Some id) (byte ∷ rest) packets e = absurd cc
closed_is_used_up (Some id) [] (packet ∷ packets) e = absurd cc
closed_is_used_up (Some id) [] [] e = (refl, refl)

-- no byte closes a channel
closed_at_end : (ended : Bool) (c : ChannelProgress) (rest : List ℕ) (found : ChannelState) → channel.Ends c rest found
    → channel.state_at ended c rest found ≡ channel_state.Closed
    → (rest ≡ []) × (c.packets ≡ [])
closed_at_end true c rest channel_state.Reading ends e = closed_is_used_up c.hello rest c.packets e
closed_at_end false c rest channel_state.Reading ends e = absurd cc
closed_at_end ended c rest channel_state.Closed ends e = absurd ends
closed_at_end true c rest (channel_state.Bad f) ends e = absurd cc
closed_at_end false c rest (channel_state.Bad f) ends e = absurd cc

begun_none : (c : ChannelProgress) (hello : Option ℕ) → begun c hello [] ≡ []
begun_none c None = refl
begun_none c (Some id) =
    let short : nat_le (head_len c.page_size) 0 ≡ false = lt-leb (head_len c.page_size) 0 (omega arith) in
    cond-false (nat_le (head_len c.page_size) 0 && is_none (due_fault c [])) ([] ∷ []) [] (rw short refl)

channel_names_none : (given : Settings) (table : RamTable) (k : ℕ) (text : Text) (reading : ChannelReading) (p : Place) → IsPageSize given.page_size
    → IsReading given text.bytes text.ended reading → is_clean (channel_status k reading) ≡ true → ChannelNames given table k text p → ⊥
channel_names_none given table k text reading p size is clean names =
    let one = channel_law given text.bytes text.ended size in
    let its = names.is_reading in
    let same : names.reading ≡ reading = one.2 names.reading its ∙ sym (one.2 reading is) in
    let there : is_clean (channel_status k names.reading) ≡ true = ap (λ (r : ChannelReading). is_clean (channel_status k r)) same ∙ clean in
    let at = clean_at k (length names.reading.rounds) (channel_end names.reading.state) there in
    let closed : channel.state_at text.ended its.to its.rest its.found ≡ channel_state.Closed = sym its.has_state ∙ channel_closed names.reading.state at.1 in
    let used = closed_at_end text.ended its.to its.rest its.found its.reads.ends closed in
    let none : its.to.packets ++ begun its.to its.to.hello its.rest ≡ [] =
    ap (λ (l : List (List ℕ)). l ++ begun its.to its.to.hello its.rest) used.1
    ∙ ap (λ (l : List ℕ). begun its.to its.to.hello l) used.0 ∙ begun_none its.to its.to.hello in
    let here = none_here names.reading.rounds k (its.to.packets ++ begun its.to its.to.hello its.rest) at.0 none in
    let t : has_place [] p ≡ true = subst (λ (l : List (List ℕ)). has_place (flat_map (packet_places table) l) p ≡ true) here names.has_packet in absurd cc

abbrev standing_at : ℕ → (ℕ × ChannelReading) → Standing
standing_at k c = record { source = origin.Channel c.0; status = channel_status k c.1 }

channels_name_none : (given : Settings) (table : RamTable)
    (k n : ℕ) (texts : List Text) (readings : List ChannelReading) (p : Place) → IsPageSize given.page_size
    → AllZip (λ (text : Text) (reading : ChannelReading). IsReading given text.bytes text.ended reading) texts readings
    → list_all (λ (s : Standing). is_clean s.status) (map (standing_at k) (enumerate_from n readings)) ≡ true → SomeChannelNames given table k texts p → ⊥
channels_name_none given table k n [] readings p size are clean names = let before : names.1.0 < 0 = names.1.1 in absurd (omega (arith, before))
channels_name_none given table k n (text ∷ texts) [] p size are clean names = absurd are
channels_name_none given table k n (text ∷ texts) (reading ∷ readings) p size are clean names =
    let parts = and_parts (is_clean (channel_status k reading))
    (list_all (λ (s : Standing). is_clean s.status) (map (standing_at k) (enumerate_from (n + 1) readings))) clean in
    elim (contains_cases text texts names.0 names.1) [
      | inl e ↦ channel_names_none given table k text reading p size are.0 parts.0 (subst (λ (t : Text). ChannelNames given table k t p) (sym e) names.2)
      | inr later ↦ channels_name_none given table k (n + 1) texts readings p size are.1 parts.1 (names.0, later, names.2)
    ]

-- ---- the law

-- a load that is done has all rounds on top of the earlier memory, and nothing else
pub exact_law : InPlaceDoneIsExact
exact_law given uuid first texts memory rounds is_table is_image is_memory here = elim (own_or_other first here.readings.main) [
  | inr other ↦ absurd (let bad = (here.other other).has_verdict in cc)
  | inl own ↦
      let mine = here.own own in
      let all = and_parts (is_clean (main_at rounds here.readings).status) (list_all (λ (s : Standing). is_clean s.status) (channels_at rounds here.readings))
      (done_is_clean rounds here.readings (sym mine.has_verdict)) in
      let main = clean_at rounds (length here.readings.main.rounds) (stream_end here.readings.main.state) all.0 in
      let page_given : LoadSettings = for_table first.table given in
      let f : Place → List ℕ = λ p. option_map_or (λ (x : Page). x.content)
      (last_at p (all_pages (map (λ i. pages_at first.table i here.readings) (range_with_len 0 rounds)))) (content_at first p) in
      let none : (p : Place) → IsNamed page_given uuid first.table rounds texts p → ⊥ = λ p names. elim names [
        | inl m ↦ main_names_none page_given rounds texts.main here.readings.main p here.are_readings.has_main main.0 main.1 m
        | inr c ↦ channels_name_none (channel_of page_given uuid (length texts.channels)) first.table rounds 0 texts.channels
            here.readings.channels p is_table.has_page_size
            here.are_readings.has_channels all.1 c
      ] in
      image_is memory is_memory
      ∙ ap (λ (t : RamTable). image_of t (content_at memory)) mine.has_memory.same_table
      ∙ image_agree first.table (content_at memory) f (λ p is. mine.has_memory.elsewhere p is (none p) ∙ content_at-image_of first.table f p is)
]
