-- A load in place that is done stays done, whatever bytes follow.
use Rattle.std.proofs.Common.{◌≡◌, false, List, length, Option, None, Some, refl, sym, ap, subst, ◌∙◌, inl, inr}
use Rattle.std.specs.Prelude.{◌⊎◌}
use Rattle.std.specs.List.{list_all}
use Rattle.std.proofs.lemmas.Bool.{and_parts}
use Rattle.mig_mem.specs.RamTable.{RamTable}
use Rattle.mig_mem.specs.Image.{Page, Image, content_at}
use Rattle.mig_mem.specs.Round.{with_rounds}
use Rattle.mig_stream.specs.declared.item.StreamState.TheVariants.{Reading, Closed}
use Rattle.mig_stream.specs.Reading.{StreamReading}
use Rattle.mig_load_types.specs.Settings.{for_table}
use Rattle.mig_load_types.specs.declared.settings.LoadSettings.{LoadSettings}
use Rattle.mig_single_load.proofs.Onto.{apart}
use Rattle.mig_answer.specs.declared.verdict.Verdict.TheVariants.{Done}
use Rattle.mig_answer.specs.Status.{stream_end, is_clean}
use Rattle.mig_answer.specs.Rounds.{memory_at}
use Rattle.mig_answer.specs.MultiLoad.{Standing, Answer, IsAnswer, main_at, channels_at}
use Rattle.mig_answer.proofs.Growing.{readings_stay, answers_law}
use Rattle.mig_in_place.specs.Answer.{rounds_onto}
use Rattle.mig_in_place.specs.Law.{InPlaceDoneStays}
use Rattle.mig_answer.proofs.Statuses.{clean_at, stream_closed}
use Rattle.mig_answer.proofs.Never.{done_is_clean}
use Rattle.mig_in_place.proofs.Done.{own_or_other}
use Rattle.mig_in_place.proofs.Exact.{exact_law}
use Rattle.mig_in_place.proofs.Waiting.{same_rounds_onto}

-- a load that is done stays done
pub stays_law : InPlaceDoneStays
stays_law given uuid first old new memory k is_table is_image is_memory goes here = elim (own_or_other first here.readings.main) [
  | inr other ↦ absurd (let bad = (here.other other).has_verdict in cc)
  | inl own ↦
      let g : LoadSettings = for_table first.table given in
      let size = is_table.has_page_size in
      let mine = here.own own in
      let answer : Answer = record { memory = memory_at k here.readings; rounds = k; verdict = Done } in
      let is : IsAnswer g uuid old answer =
      record { readings = here.readings; are_readings = here.are_readings; has_rounds = mine.has_rounds; has_memory = refl; has_verdict = mine.has_verdict } in
      let on = answers_law g uuid old new answer size goes is (λ e. absurd cc) in
      let stay = readings_stay g uuid old new here.readings on.readings size goes here.are_readings on.are_readings in
      let all = and_parts (is_clean (main_at k here.readings).status) (list_all (λ (s : Standing). is_clean s.status) (channels_at k here.readings))
      (done_is_clean k here.readings (sym mine.has_verdict)) in
      let closed : here.readings.main.state ≡ Closed =
      stream_closed false here.readings.main.state (clean_at k (length here.readings.main.rounds) (stream_end here.readings.main.state) all.0).1 in
      let same : on.readings.main ≡ here.readings.main = stay.main.same_once_over (λ reads. absurd (let clash : Closed ≡ Reading = sym closed ∙ reads in cc)) in
      let exact : memory ≡ rounds_onto first k here.readings = exact_law given uuid first old memory k is_table is_image is_memory here in
      let rounds : rounds_onto first k on.readings ≡ rounds_onto first k here.readings =
      ap (λ (l : List (List Page)). with_rounds first l) (same_rounds_onto first k here.readings on.readings stay mine.has_rounds.before) in
      let now : memory ≡ rounds_onto first k on.readings = exact ∙ sym rounds in
      let table : on.readings.main.table ≡ here.readings.main.table = ap (λ (r : StreamReading). r.table) same in
      record {
        readings = on.readings;
        are_readings = on.are_readings;
        own = λ also. record {
          has_rounds = on.has_rounds;
          has_verdict = on.has_verdict;
          has_memory = record { same_table = ap (λ (m : Image). m.table) now; elsewhere = λ p is none. ap (λ (m : Image). content_at m p) now };
        };
        unknown = λ none. here.unknown (sym table ∙ none);
        other = λ other. absurd (apart first on.readings.main (subst (λ (o : Option RamTable). (o ≡ None) ⊎ (o ≡ Some first.table)) (sym table) own) other);
      }
]
