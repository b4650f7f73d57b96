-- A source ends after the verdict: the answer stays.
use Rattle.std.proofs.Common.{ℕ, zero, suc, ◌≡◌, ◌≢◌, ◌<◌, true, List, [], ◌∷◌, length, get_or, set, Option, Some, None, refl, sym, ap, subst, ◌∙◌, inl, inr}
use Rattle.std.specs.Prelude.{◌⊎◌, IsTrue}
use Rattle.std.proofs.lemmas.List.{length-set}
use Rattle.mig_mem.specs.PageSize.{IsPageSize}
use Rattle.mig_mem.specs.RamTable.{RamTable, IsTable}
use Rattle.mig_mem.specs.declared.place.Place.{Place}
use Rattle.mig_mem.specs.Image.{Page, Image, content_at}
use Rattle.mig_mem.specs.PlaceSet.{PlaceSet}
use Rattle.mig_mem.specs.Round.{with_rounds}
use Rattle.mig_stream.specs.Reading.{StreamReading, IsReading as IsStreamReading}
use Rattle.mig_stream.proofs.Exists.{one_reading_law as stream_law}
use Rattle.mig_packet.specs.Reading as channel
use Rattle.mig_assemble.proofs.Elements.{contains_cases, contains_here, contains_later}
use Rattle.mig_load_types.specs.Settings.{for_table, main_of, channel_of}
use Rattle.mig_load_types.specs.declared.settings.LoadSettings.{LoadSettings}
use Rattle.mig_single_load.specs.InPlace.{IsOfOwnTable, IsOfOtherTable}
use Rattle.mig_single_load.proofs.Onto.{apart}
use Rattle.mig_answer.specs.declared.verdict.Verdict.{Verdict}
use Rattle.mig_answer.specs.declared.verdict.Verdict.TheVariants.{Running}
use Rattle.mig_answer.specs.Texts.{Text, Texts, Readings, IsMainReading, no_text, over}
use Rattle.mig_answer.specs.Rounds.{memory_at}
use Rattle.mig_answer.specs.MultiLoad.{Answer, IsAnswer, passes}
use Rattle.mig_answer.proofs.OneAnswer.{some_readings, same_readings}
use Rattle.mig_answer.proofs.Growing.{ReadingsStay, readings_stay, pass_still, answers_law}
use Rattle.mig_sources.specs.declared.source.Source.{Source}
use Rattle.mig_sources.specs.declared.source.Source.TheVariants as source
use Rattle.mig_sources.specs.Sources.{end_step}
use Rattle.mig_sources.proofs.Steps.{ended_goes_on}
use Rattle.mig_in_place.specs.Named.{ChannelNames, SomeChannelNames, IsNamed}
use Rattle.mig_in_place.specs.Answer.{rounds_onto, HasRoundsOnto, IsInPlaceAnswer, IsInPlaceWithoutMemory}
use Rattle.mig_in_place.specs.Missing.{HasNamed}
use Rattle.mig_in_place.specs.Session.{InPlaceLoad, HaveTaken, StandsFor, LacksMemory}
use Rattle.mig_in_place.proofs.Done.{own_or_other}
use Rattle.mig_in_place.proofs.Ended.{end_bytes}
use Rattle.mig_in_place.proofs.MissingPages.{named_still}
use Rattle.mig_in_place.proofs.Waiting.{same_rounds_onto}

-- ---- what is named stays named

over_named : (given : channel.Settings) (table : RamTable) (k : ℕ) (text : Text) (p : Place) → ChannelNames given table k text p
    → ChannelNames given table k (over text) p
over_named given table k text p names =
    let is = names.is_reading in
    let now : channel.ChannelReading = record {
      hello = names.reading.hello;
      rounds = names.reading.rounds;
      state = channel.state_at true is.to is.rest is.found;
    } in
    record {
      reading = now;
      is_reading = record {
        to = is.to;
        rest = is.rest;
        found = is.found;
        reads = is.reads;
        has_hello = is.has_hello;
        has_rounds = is.has_rounds;
        has_state = refl;
      };
      has_packet = names.has_packet;
    }

channels_named : (given : channel.Settings) (table : RamTable) (k j : ℕ) (texts : List Text) (p : Place) → SomeChannelNames given table k texts p
    → SomeChannelNames given table k (set texts j (over (get_or texts j no_text))) p
channels_named given table k j [] p names = names
channels_named given table k zero (text ∷ texts) p names = elim (contains_cases text texts names.0 names.1) [
  | inl e ↦ (
    over text,
    contains_here (over text) texts,
    over_named given table k text p (subst (λ (t : Text). ChannelNames given table k t p) (sym e) names.2),
  )
  | inr later ↦ (names.0, contains_later (over text) texts names.0 later, names.2)
]
channels_named given table k (suc j) (text ∷ texts) p names = elim (contains_cases text texts names.0 names.1) [
  | inl e ↦ (text, contains_here text (set texts j (over (get_or texts j no_text))), subst (λ (t : Text). ChannelNames given table k t p) (sym e) names.2)
  | inr later ↦
      let rest = channels_named given table k j texts p (names.0, later, names.2) in
      (rest.0, contains_later text (set texts j (over (get_or texts j no_text))) rest.0 rest.1, rest.2)
]

ended_named : (given : LoadSettings) (uuid : List ℕ) (table : RamTable) (k : ℕ) (from : Source) (texts : Texts) (p : Place)
    → IsNamed given uuid table k texts p → IsNamed given uuid table k (end_step from texts) p
ended_named given uuid table k source.Main texts p names = names
ended_named given uuid table k (source.Channel j) texts p (inl named) = inl named
ended_named given uuid table k (source.Channel j) texts p (inr named) =
    inr (subst (λ (n : ℕ). SomeChannelNames (channel_of given uuid n) table k (set texts.channels j (over (get_or texts.channels j no_text))) p)
    (sym (length-set texts.channels j (over (get_or texts.channels j no_text))))
    (channels_named (channel_of given uuid (length texts.channels)) table k j texts.channels p named))

-- ---- what is read stays read

same_table : (given : LoadSettings) (old new : Text) (before now : StreamReading) → IsPageSize given.page_size
    → new.bytes ≡ old.bytes → IsMainReading given old before → IsMainReading given new now → now.table ≡ before.table
same_table given old new before now size same was is =
    let one = stream_law (main_of given) old.bytes size in
    let again : IsStreamReading (main_of given) old.bytes is.found =
    subst (λ (bytes : List ℕ). IsStreamReading (main_of given) bytes is.found) same is.is_reading in
    let found : is.found ≡ was.found = one.2 is.found again ∙ sym (one.2 was.found was.is_reading) in
    ap (λ (r : StreamReading). r.table) is.has_end ∙ ap (λ (r : StreamReading). r.table) found ∙ sym (ap (λ (r : StreamReading). r.table) was.has_end)

-- what the memory holds, on readings of the streams after the end of a source
ended_onto : (given : LoadSettings) (uuid : List ℕ) (first : Image) (from : Source) (texts : Texts)
    (before now : Readings) (memory : Image) (k : ℕ) → ReadingsStay before now → ((j : ℕ) → j < k → IsTrue (passes j before))
    → HasRoundsOnto given uuid first texts before memory k → HasRoundsOnto given uuid first (end_step from texts) now memory k
ended_onto given uuid first from texts before now memory k stay passed onto =
    let rounds : rounds_onto first k now ≡ rounds_onto first k before =
    ap (λ (l : List (List Page)). with_rounds first l) (same_rounds_onto first k before now stay passed) in
    record {
      same_table = onto.same_table;
      elsewhere = λ p is none. onto.elsewhere p is (λ names. none (ended_named given uuid first.table k from texts p names))
          ∙ ap (λ (m : Image). content_at m p) (sym rounds);
    }

-- ---- answers stay

module _ (given : LoadSettings) (uuid : List
    ℕ) (first : Image) (texts : Texts) (memory : Image) (k : ℕ) (verdict : Verdict) (from : Source) (is_table : IsTable first.table) where
  abbrev g : LoadSettings
  g = for_table first.table given

  ended_answer : verdict ≢ Running → IsInPlaceAnswer given uuid first texts memory k verdict
      → IsInPlaceAnswer given uuid first (end_step from texts) memory k verdict
  ended_answer judged here =
      let size = is_table.has_page_size in
      let goes = ended_goes_on from texts in
      elim (own_or_other first here.readings.main) [
        | inr other ↦
            let next = some_readings g uuid (end_step from texts) size in
            let same = same_table g texts.main (end_step from texts).main here.readings.main next.0.main size
            (end_bytes from texts).0 here.are_readings.has_main next.1.has_main in
            let still : IsOfOtherTable first next.0.main = (other.0, same ∙ other.1, other.2) in
            record {
              readings = next.0;
              are_readings = next.1;
              own = λ own. absurd (apart first next.0.main own still);
              unknown = λ none. absurd (let e = sym none ∙ still.1 in cc);
              other = λ also. here.other other;
            }
        | inl own ↦
            let mine = here.own own in
            let answer : Answer = record { memory = memory_at k here.readings; rounds = k; verdict = verdict } in
            let is : IsAnswer g uuid texts answer =
            record {
              readings = here.readings;
              are_readings = here.are_readings;
              has_rounds = mine.has_rounds;
              has_memory = refl;
              has_verdict = mine.has_verdict;
            } in
            let on = answers_law g uuid texts (end_step from texts) answer size goes is judged in
            let stay = readings_stay g uuid texts (end_step from texts) here.readings on.readings size goes here.are_readings on.are_readings in
            let same = same_table g texts.main (end_step from texts).main here.readings.main on.readings.main size
            (end_bytes from texts).0 here.are_readings.has_main on.are_readings.has_main in
            record {
              readings = on.readings;
              are_readings = on.are_readings;
              own = λ also. record {
                has_rounds = on.has_rounds;
                has_verdict = on.has_verdict;
                has_memory = ended_onto g uuid first from texts here.readings on.readings memory k stay mine.has_rounds.before mine.has_memory;
              };
              unknown = λ none. here.unknown (sym same ∙ none);
              other = λ other. absurd (apart first on.readings.main
                  (subst (λ (o : Option RamTable). (o ≡ None) ⊎ (o ≡ Some first.table)) (sym same) own) other);
            }
      ]

  ended_without : IsInPlaceWithoutMemory given uuid first texts memory k verdict
      → IsInPlaceWithoutMemory given uuid first (end_step from texts) memory k verdict
  ended_without here =
      let size = is_table.has_page_size in
      let goes = ended_goes_on from texts in
      let next = some_readings g uuid (end_step from texts) size in
      let stay = readings_stay g uuid texts (end_step from texts) here.readings next.0 size goes here.are_readings next.1 in
      let same = same_table g texts.main (end_step from texts).main here.readings.main next.0.main size
      (end_bytes from texts).0 here.are_readings.has_main next.1.has_main in
      record {
        readings = next.0;
        are_readings = next.1;
        have_passed = pass_still here.readings next.0 k stay here.have_passed;
        has_verdict = here.has_verdict;
        own = λ own. ended_onto g uuid first from texts here.readings next.0 memory k stay here.have_passed
            (here.own (subst (λ (o : Option RamTable). (o ≡ None) ⊎ (o ≡ Some first.table)) same own));
        unknown = λ none. here.unknown (sym same ∙ none);
        other = λ other. here.other (other.0, sym same ∙ other.1, other.2);
      }

  -- so do the places that the rounds named
  ended_named_places : (named : PlaceSet) → IsInPlaceAnswer given uuid first texts memory k verdict
      → HasNamed g uuid first texts k named → HasNamed g uuid first (end_step from texts) k named
  ended_named_places named here has =
      let size = is_table.has_page_size in
      let next = some_readings g uuid (end_step from texts) size in
      let stay = readings_stay g uuid texts (end_step from texts) has.readings next.0 size (ended_goes_on from texts) has.are_readings next.1 in
      let same = same_table g texts.main (end_step from texts).main has.readings.main next.0.main size
      (end_bytes from texts).0 has.are_readings.has_main next.1.has_main in
      let again : here.readings ≡ has.readings = same_readings g uuid texts here.readings has.readings size here.are_readings has.are_readings in
      record {
        readings = next.0;
        are_readings = next.1;
        has_places = λ own.
            let was : IsOfOwnTable first has.readings.main = subst (λ (o : Option RamTable). (o ≡ None) ⊎ (o ≡ Some first.table)) same own in
            let mine = here.own (subst (λ (r : Readings). IsOfOwnTable first r.main) (sym again) was) in
            named_still first k has.readings next.0 named stay
            (λ j below. subst (λ (r : Readings). IsTrue (passes j r)) again (mine.has_rounds.before j below)) (has.has_places was);
      }

-- ---- calls

-- a source of a load ended, whose verdict is there
pub end_stands : (given : LoadSettings) (uuid : List ℕ) (first : Image) (texts : Texts) (memory : Image)
    (s new : InPlaceLoad) (from : Source) → s.verdict ≢ Running → new ≡ record s { sources = new.sources }
    → (HaveTaken (for_table first.table given) uuid texts s.sources → HaveTaken (for_table first.table given) uuid (end_step from texts) new.sources)
    → StandsFor given uuid first texts memory s → StandsFor given uuid first (end_step from texts) memory new
end_stands given uuid first texts memory s new from judged same takes stands =
    let verdict : new.verdict ≡ s.verdict = ap (λ (x : InPlaceLoad). x.verdict) same in
    let on = ended_answer given uuid first texts memory s.rounds s.verdict from stands.is_table judged stands.is_answer in
    record {
      is_table = stands.is_table;
      is_image = stands.is_image;
      same_table = stands.same_table ∙ sym (ap (λ (x : InPlaceLoad). x.table) same);
      is_answer = subst (λ (x : InPlaceLoad). IsInPlaceAnswer given uuid first (end_step from texts) memory x.rounds x.verdict) (sym same) on;
      have_taken = takes stands.have_taken;
      has_named = subst (λ (x : InPlaceLoad). HasNamed (for_table first.table given) uuid first (end_step from texts) x.rounds x.named) (sym same)
          (ended_named_places given uuid first texts memory s.rounds s.verdict from stands.is_table s.named stands.is_answer stands.has_named);
      runs = λ runs. absurd (judged (sym verdict ∙ runs));
    }

-- a source of a load ended, which lacks memory
pub end_lacks : (given : LoadSettings) (uuid : List ℕ) (first : Image) (texts : Texts) (memory : Image)
    (s new : InPlaceLoad) (from : Source) → new ≡ record s { sources = new.sources }
    → LacksMemory given uuid first texts memory s → LacksMemory given uuid first (end_step from texts) memory new
end_lacks given uuid first texts memory s new from same lacks =
    let on = ended_without given uuid first texts memory s.rounds s.verdict from lacks.is_table lacks.is_without in
    record {
      is_table = lacks.is_table;
      is_image = lacks.is_image;
      same_table = lacks.same_table ∙ sym (ap (λ (x : InPlaceLoad). x.table) same);
      is_without = subst (λ (x : InPlaceLoad). IsInPlaceWithoutMemory given uuid first (end_step from texts) memory x.rounds x.verdict) (sym same) on;
    }
