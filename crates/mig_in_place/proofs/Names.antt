-- What a source names stays named, if it isn't pending and more of its bytes come.
use Rattle.std.proofs.Common.{ℕ, zero, suc, ◌≡◌, ◌≢◌, ◌<◌, ◌&&◌, ◌||◌, Bool, true, false, List, [], ◌∷◌, ◌++◌, length, map, get_or, set, Option, Some, None}
use Rattle.std.proofs.Common.{is_none, refl, sym, ap, subst, ◌∙◌, inl, inr, arith}
use Rattle.std.specs.Prelude.{◌⊎◌, nat_le}
use Rattle.std.specs.List.{AllZip, flat_map}
use Rattle.std.proofs.lemmas.Bool.{cases_Bool, cond-false}
use Rattle.std.proofs.lemmas.List.{get_or_default, append-nil}
use Rattle.std.proofs.Math.ListN.{get_or-eq_default}
use Rattle.std.proofs.lemmas.List.Folds.{list_any-append}
use Rattle.std.proofs.lemmas.List.Concat.{flat_map-append}
use Rattle.mig_mem.specs.PageSize.{IsPageSize}
use Rattle.mig_mem.specs.declared.place.Place.{Place}
use Rattle.mig_mem.specs.RamTable.{RamTable}
use Rattle.mig_mem.specs.Place.{has_place, place_eq}
use Rattle.mig_stream.specs.declared.item.StreamState.{StreamState}
use Rattle.mig_stream.specs.declared.item.StreamState.TheVariants as stream_state
use Rattle.mig_stream.specs.PageRecord.{PageRecord}
use Rattle.mig_stream.specs.Progress.{start as stream_start}
use Rattle.mig_stream.specs.Reading as stream
use Rattle.mig_stream.proofs.Exists.{one_reading_law as stream_law}
use Rattle.mig_stream.proofs.Longer.{longer_law}
use Rattle.mig_stream.proofs.Later.{Reads-more as stream_more}
use Rattle.mig_packet.specs.declared.state.ChannelState.{ChannelState}
use Rattle.mig_packet.specs.declared.state.ChannelState.TheVariants as channel_state
use Rattle.mig_packet.specs.PageSize.{head_len}
use Rattle.mig_packet.specs.declared.fault.ChannelFault.{ChannelFault}
use Rattle.mig_packet.specs.Progress.{ChannelProgress, start as channel_start, due_fault}
use Rattle.mig_packet.specs.Reading as channel
use Rattle.mig_packet.proofs.Exists.{one_reading_law as channel_law}
use Rattle.mig_packet.proofs.Later.{Reads-more as channel_more}
use Rattle.mig_assemble.proofs.Elements.{contains_cases, contains_here, contains_later}
use Rattle.mig_answer.specs.declared.status.Status.TheVariants.{Pending}
use Rattle.mig_answer.specs.Status.{stream_end, channel_end, channel_status, is_pending}
use Rattle.mig_answer.specs.Texts.{Text, no_text}
use Rattle.mig_answer.specs.Growing.{GoesOn}
use Rattle.mig_answer.proofs.GrowingChannels.{channel_stays, round_of_more}
use Rattle.mig_answer.proofs.Growing.{at_round}
use Rattle.mig_in_place.specs.Named.{MainNames, ChannelNames, SomeChannelNames, round_so_far, begun, packet_places}

-- a round that has come, in a list that has grown
same_round : {X : Type 0} (before now more : List (List X)) (k : ℕ) (old new : List X) → now ≡ before ++ more → k < length before
    → round_so_far k now new ≡ round_so_far k before old
same_round before now more k old new e lt =
    let longer = round_of_more before now more k e lt in
    get_or_default now k new [] longer.0 ∙ longer.1 ∙ get_or_default before k [] old lt

-- ---- a main stream

abbrev place_in : PageRecord → Place
place_in r = r.place

-- a main stream that is not pending is no longer read
pub stream_over : (s : StreamState) → is_pending (stream_end s) ≡ false → s ≢ stream_state.Reading
stream_over stream_state.Reading settled = absurd cc
stream_over stream_state.Closed settled = λ e. absurd cc
stream_over (stream_state.Bad f) settled = λ e. absurd cc

-- some bytes follow the stream
pub main_stays_named : (given : stream.Settings) (k : ℕ) (text more : List ℕ) (p : Place) → IsPageSize given.page_size → (names : MainNames given k text p)
    → (k < length names.reading.rounds) ⊎ (names.reading.state ≢ stream_state.Reading) → MainNames given k (text ++ more) p
main_stays_named given k text more p size names (inl lt) =
    let next = stream_law given (text ++ more) size in
    let stays = longer_law given text more names.reading next.0 size names.is_reading next.1 in
    record {
      reading = next.0;
      is_reading = next.1;
      has_record = subst (λ (l : List PageRecord). has_place (map place_in l) p ≡ true)
          (sym (same_round names.reading.rounds next.0.rounds stays.more_rounds k names.is_reading.to.records next.1.to.records
          stays.has_rounds lt)) names.has_record;
    }
main_stays_named given k text more p size names (inr over) =
    let is = names.is_reading in
    record {
      reading = names.reading;
      is_reading = record {
        to = is.to;
        rest = is.rest ++ more;
        reads = stream_more (stream_start given.frame given.mode given.page_size given.limit given.waiting) text is.to is.rest
            more names.reading.state over is.reads;
        has_table = is.has_table;
        has_rounds = is.has_rounds;
      };
      has_record = names.has_record;
    }

-- ---- a channel

-- a channel whose state isn't pending isn't in the state Reading
pub channel_over : (s : ChannelState) → is_pending (channel_end s) ≡ false → s ≢ channel_state.Reading
channel_over channel_state.Reading settled = absurd cc
channel_over channel_state.Closed settled = λ e. absurd cc
channel_over (channel_state.Bad f) settled = λ e. absurd cc

-- nothing is begun where a fault is due
begun_bad : (c : ChannelProgress) (hello : Option ℕ) (rest : List ℕ) (found : ChannelState) → found ≢ channel_state.Reading
    → channel.Ends c rest found → begun c hello rest ≡ []
begun_bad c hello rest channel_state.Reading over ends = absurd (over refl)
begun_bad c hello rest channel_state.Closed over ends = absurd ends
begun_bad c None rest (channel_state.Bad f) over ends = refl
begun_bad c (Some id) rest (channel_state.Bad f) over ends =
    let due : is_none (due_fault c rest) ≡ false = ap (λ (o : Option ChannelFault). is_none o) ends in
    cond-false (nat_le (head_len c.page_size) (length rest) && is_none (due_fault c rest)) (rest ∷ []) []
    (and_false (nat_le (head_len c.page_size) (length rest)) (is_none (due_fault c rest)) due)
  where
    and_false : (b n : Bool) → n ≡ false → (b && n) ≡ false
    and_false true n e = e
    and_false false n e = refl

named_left : (table : RamTable) (xs ys : List (List ℕ)) (p : Place) → has_place (flat_map (packet_places table) xs) p ≡ true
    → has_place (flat_map (packet_places table) (xs ++ ys)) p ≡ true
named_left table xs ys p t =
    ap (λ (l : List Place). has_place l p) (flat_map-append (packet_places table) xs ys)
    ∙ list_any-append (λ (q : Place). place_eq q p) (flat_map (packet_places table) xs) (flat_map (packet_places table) ys)
    ∙ ap (λ (b : Bool). b || has_place (flat_map (packet_places table) ys) p) t

-- a channel that isn't pending goes on
pub channel_stays_named : (given : channel.Settings) (table : RamTable) (k : ℕ) (old new : Text) (p : Place) → IsPageSize given.page_size → GoesOn old new
    → (names : ChannelNames given table k old p) → is_pending (channel_status k names.reading) ≡ false → ChannelNames given table k new p
channel_stays_named given table k old new p size goes names settled = elim (cases_Bool old.ended) [
  | inl t ↦ subst (λ (text : Text). ChannelNames given table k text p) (sym (goes.stays_ended t)) names
  | inr f ↦
      let is = names.is_reading in
      elim (at_round k (length names.reading.rounds) (channel_end names.reading.state) settled) [
        | inl lt ↦
            let next = channel_law given new.bytes new.ended size in
            let stays = channel_stays given old new names.reading next.0 size goes is next.1 in
            record {
              reading = next.0;
              is_reading = next.1;
              has_packet = subst (λ (l : List (List ℕ)). has_place (flat_map (packet_places table) l) p ≡ true)
                  (sym (same_round names.reading.rounds next.0.rounds stays.more_rounds k (is.to.packets ++ begun is.to is.to.hello is.rest)
                  (next.1.to.packets ++ begun next.1.to next.1.to.hello next.1.rest) stays.has_rounds lt)) names.has_packet;
            }
        | inr end ↦
            let found : names.reading.state ≡ is.found = is.has_state ∙ ap (λ (b : Bool). channel.state_at b is.to is.rest is.found) f in
            let over : is.found ≢ channel_state.Reading = λ e. channel_over names.reading.state end.1 (found ∙ e) in
            let on = channel_more (channel_start given.page_size given.uuid given.channels given.waiting) old.bytes is.to is.rest
            goes.more is.found over is.reads in
            let none : begun is.to is.to.hello is.rest ≡ [] = begun_bad is.to is.to.hello is.rest is.found over is.reads.ends in
            let past : (in_hand : List (List ℕ)) → round_so_far k names.reading.rounds in_hand ≡ in_hand =
            λ in_hand. get_or-eq_default names.reading.rounds in_hand (omega (arith, end.0)) in
            let here : round_so_far k names.reading.rounds (is.to.packets ++ begun is.to is.to.hello is.rest) ≡ is.to.packets =
            past (is.to.packets ++ begun is.to is.to.hello is.rest)
            ∙ ap (λ (l : List (List ℕ)). is.to.packets ++ l) none ∙ append-nil is.to.packets in
            let packets : has_place (flat_map (packet_places table) is.to.packets) p ≡ true =
            subst (λ (l : List (List ℕ)). has_place (flat_map (packet_places table) l) p ≡ true) here names.has_packet in
            let more : List (List ℕ) = begun is.to is.to.hello (is.rest ++ goes.more) in
            let now : channel.ChannelReading =
            record { hello = names.reading.hello; rounds = names.reading.rounds; state = channel.state_at new.ended is.to (is.rest ++ goes.more) is.found } in
            record {
              reading = now;
              is_reading = record {
                to = is.to;
                rest = is.rest ++ goes.more;
                found = is.found;
                reads = subst (λ (bytes : List ℕ). channel.Reads
                    (channel_start given.page_size given.uuid given.channels given.waiting) bytes is.to
                    (is.rest ++ goes.more) is.found) (sym goes.has_bytes) on;
                has_hello = is.has_hello;
                has_rounds = is.has_rounds;
                has_state = refl;
              };
              has_packet = subst (λ (l : List (List ℕ)). has_place (flat_map (packet_places table) l) p ≡ true)
                  (sym (past (is.to.packets ++ more))) (named_left table is.to.packets more p packets);
            }
      ]
]

-- of a list of channels the one of a number goes on, which isn't pending
pub channels_stay_named : (given : channel.Settings) (table : RamTable)
    (k j : ℕ) (step : Text → Text) (texts : List Text) (readings : List channel.ChannelReading) (p : Place) → IsPageSize given.page_size
    → GoesOn (get_or texts j no_text) (step (get_or texts j no_text))
    → AllZip (λ (text : Text) (reading : channel.ChannelReading). channel.IsReading given text.bytes text.ended reading) texts readings
    → is_pending (get_or (map (channel_status k) readings) j Pending) ≡ false → SomeChannelNames given table k texts p
    → SomeChannelNames given table k (set texts j (step (get_or texts j no_text))) p
channels_stay_named given table k j step [] readings p size goes are settled names = absurd (let before : names.1.0 < 0 = names.1.1 in omega (arith, before))
channels_stay_named given table k j step (text ∷ texts) [] p size goes are settled names = absurd are
channels_stay_named given table k zero step (text ∷ texts) (reading ∷ readings) p size goes are settled names =
    elim (contains_cases text texts names.0 names.1) [
      | inl e ↦
          let here : ChannelNames given table k text p = subst (λ (t : Text). ChannelNames given table k t p) (sym e) names.2 in
          let one = channel_law given text.bytes text.ended size in
          let same : here.reading ≡ reading = one.2 here.reading here.is_reading ∙ sym (one.2 reading are.0) in
          let over : is_pending (channel_status k here.reading) ≡ false = ap (λ (r : channel.ChannelReading). is_pending (channel_status k r)) same ∙ settled in
          (step text, contains_here (step text) texts, channel_stays_named given table k text (step text) p size goes here over)
      | inr later ↦ (names.0, contains_later (step text) texts names.0 later, names.2)
    ]
channels_stay_named given table k (suc j) step (text ∷ texts) (reading ∷ readings) p size goes are settled names =
    elim (contains_cases text texts names.0 names.1) [
      | inl e ↦ (text, contains_here text (set texts j (step (get_or texts j no_text))), subst (λ (t : Text). ChannelNames given table k t p) (sym e) names.2)
      | inr later ↦
          let rest = channels_stay_named given table k j step texts readings p size goes are.1 settled (names.0, later, names.2) in
          (rest.0, contains_later text (set texts j (step (get_or texts j no_text))) rest.0 rest.1, rest.2)
    ]
