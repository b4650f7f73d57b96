-- As long as a load runs it takes bytes of some source.
use Rattle.std.proofs.Common.{ℕ, suc, ◌≡◌, ◌+◌, ◌<◌, true, List, [], ◌∷◌, length, map, get_or, sym, ◌∙◌, inl, inr, arith}
use Rattle.std.specs.List.{list_any, enumerate_from}
use Rattle.std.proofs.lemmas.Bool.{false≢true, cases_Bool}
use Rattle.std.proofs.lemmas.List.{length-map}
use Rattle.std.proofs.lemmas.Slice.Zip.{AllZip-long}
use Rattle.mig_packet.specs.Reading.{ChannelReading}
use Rattle.mig_load_types.specs.Settings.{for_table}
use Rattle.mig_answer.specs.declared.status.Status.TheVariants.{Pending}
use Rattle.mig_answer.specs.Status.{main_status, channel_status, is_pending}
use Rattle.mig_answer.specs.MultiLoad.{channels_at}
use Rattle.mig_answer.proofs.GrowingMain.{main_table_first}
use Rattle.mig_sources.specs.declared.source.Source.TheVariants as source
use Rattle.mig_sources.specs.Sources.{count_in}
use Rattle.mig_in_place.specs.Session.{IsHeldBack}
use Rattle.mig_in_place.specs.Law.{RunningTakesSome}
use Rattle.mig_in_place.proofs.Done.{own_or_other}
use Rattle.mig_in_place.proofs.Waiting.{waits, standing_at, running_waits}
use Rattle.mig_in_place.proofs.Waits.{list_waits, pending_is}

-- of some channels one is pending
some_channel : (k n : ℕ) (channels : List ChannelReading) → list_any waits (map (standing_at k) (enumerate_from n channels)) ≡ true
    → (j : ℕ) × (j < length channels) × (get_or (map (channel_status k) channels) j Pending ≡ Pending)
some_channel k n [] e = absurd cc
some_channel k n (c ∷ channels) e = elim (cases_Bool (is_pending (channel_status k c))) [
  | inl t ↦ (0, omega arith, pending_is (channel_status k c) t)
  | inr f ↦
      let later : list_any waits (map (standing_at k) (enumerate_from (n + 1) channels)) ≡ true = rw f at e in
      let rest = some_channel k (n + 1) channels later in (suc rest.0, (let below = rest.1 in omega (arith, below)), rest.2)
]

-- as long as a load runs it takes bytes of some source, whatever bytes it has
pub some_takes_law : RunningTakesSome
some_takes_law given uuid first texts memory k is_table here = elim (own_or_other first here.readings.main) [
  | inr other ↦ absurd (let bad = (here.other other).has_verdict in cc)
  | inl own ↦
      let mine = here.own own in
      let waited = running_waits k here.readings mine.has_rounds (sym mine.has_verdict) in
      elim (cases_Bool (is_pending (main_status k here.readings.main))) [
        | inl t ↦ (
          source.Main,
          tt,
          record {
            readings = here.readings;
            are_readings = here.are_readings;
            is_pending = pending_is (main_status k here.readings.main) t;
            is_free = λ held. held;
          },
        )
        | inr f ↦
            let later : list_any waits (channels_at k here.readings) ≡ true = rw f at waited in
            let found = some_channel k 0 here.readings.channels later in
            let many = AllZip-long _ _ _ here.are_readings.has_channels in
            let below = found.1 in
            let free : IsHeldBack here.readings (source.Channel found.0) → ⊥ = λ held. false≢true (sym f
            ∙ list_waits k here.readings.main (main_table_first
            (for_table first.table given) texts.main here.readings.main is_table.has_page_size here.are_readings.has_main held.0) held.1) in (
              source.Channel found.0,
              omega (arith, below, many, length-map texts.channels count_in),
              record { readings = here.readings; are_readings = here.are_readings; is_pending = found.2; is_free = free },
            )
      ]
]
