use Rattle.std.proofs.Common.{ℕ, ◌≡◌, ◌<◌, ◌∙◌, true, false, length, Some, refl, sym, subst, arith}
use Rattle.std.specs.Prelude.{slice_get}
use Rattle.std.proofs.lemmas.List.{length-map}
use Rattle.std.proofs.lemmas.Option.{slice_get_read}
use Rattle.mig_mem.specs.PageSize.{IsPageSize}
use Rattle.mig_load_types.specs.Settings.{channel_of, for_table}
use Rattle.mig_load_types.specs.declared.settings.LoadSettings.{LoadSettings}
use Rattle.mig_answer.proofs.OneAnswer.{some_readings}
use Rattle.mig_sources.specs.declared.source.Source.{Source}
use Rattle.mig_sources.specs.declared.source.Source.TheVariants as source
use Rattle.mig_sources.specs.Sources.{HasSource}
use Rattle.mig_sources.specs.Faults.{HasFault}
use Rattle.mig_in_place.specs.Sources.{KeptChannel, channel_count, counts_of}
use Rattle.mig_in_place.specs.Session.{InPlaceLoad, Loading, HaveTaken}
use Rattle.mig_in_place.proofs.Faults.{fault_at}
use Rattle.mig_in_place.proofs.Refused.{stands_found}
use Rattle.mig_in_place.proofs.session.InPlaceSession.fault_of.Goals as goal

pub returns-then-lacks_memory-clause-stands : goal.returns-then-lacks_memory-clause-stands
returns-then-lacks_memory-clause-stands g c = λ memory given uuid first texts stands.
    let f : Loading = record { given = given; uuid = uuid; first = first; texts = texts } in
    absurd (stands_found f memory c.args.self.now c.args.self.now.rounds stands (c.lacks_memory.ensures.0 c.if-lacks_memory.true))

pub returns-in-Main-clause-stands : goal.returns-in-Main-clause-stands
returns-in-Main-clause-stands g c = λ memory given uuid first texts stands.
    let i = c.self.inside in
    let load : LoadSettings = for_table first.table given in
    let size : IsPageSize load.page_size = stands.is_table.has_page_size in
    let s : InPlaceLoad =
    record {
      table = i.table;
      sources = record { main = i.main; channels = i.channels.items };
      round = i.round;
      rounds = i.rounds;
      base = i.base;
      named = i.named;
      verdict = i.verdict;
    } in
    let mine : HaveTaken load uuid texts s.sources = subst (λ (x : InPlaceLoad). HaveTaken load uuid texts x.sources) (sym c.self.view_is) stands.have_taken in
    let some = some_readings load uuid texts size in
    subst (λ (x : Source). HasFault load uuid texts x c.fault.result) (sym c.in-Main.is)
    (some.0, some.1, c.fault.ensures load mine.rounds texts.main some.0.main size mine.main some.1.has_main)

pub returns-in-Channel-clause-stands : goal.returns-in-Channel-clause-stands
returns-in-Channel-clause-stands g c = λ memory given uuid first texts stands.
    let i = c.self.inside in
    let load : LoadSettings = for_table first.table given in
    let size : IsPageSize load.page_size = stands.is_table.has_page_size in
    let j : ℕ = c.in-Channel.j in
    let q : KeptChannel = c.index.result.now in
    let s : InPlaceLoad =
    record {
      table = i.table;
      sources = record { main = i.main; channels = i.channels.items };
      round = i.round;
      rounds = i.rounds;
      base = i.base;
      named = i.named;
      verdict = i.verdict;
    } in
    let mine : HaveTaken load uuid texts s.sources = subst (λ (x : InPlaceLoad). HaveTaken load uuid texts x.sources) (sym c.self.view_is) stands.have_taken in
    let has : HasSource (counts_of s.sources) (source.Channel j) =
    subst (λ (x : InPlaceLoad). HasSource (counts_of x.sources) (source.Channel j)) (sym c.self.view_is)
    (subst (λ (x : Source). HasSource (counts_of c.args.self.now.sources) x) c.in-Channel.is c.requires) in
    let below : j < length i.channels.items = (let e = length-map i.channels.items channel_count in omega (arith, e, has)) in
    let is : slice_get i.channels.items j ≡ Some q = slice_get_read i.channels.items (length i.channels.items) j q refl below c.index.ensures in
    let some = some_readings load uuid texts size in
    subst (λ (x : Source). HasFault load uuid texts x c.fault-in-Channel.result) (sym c.in-Channel.is) (
      some.0,
      some.1,
      fault_at (channel_of load uuid (length texts.channels)) texts.channels i.channels.items some.0.channels j q
          c.fault-in-Channel.result size is mine.channels some.1.has_channels
          c.fault-in-Channel.ensures,
    )

pub returns-in-Main-clause-lacking : goal.returns-in-Main-clause-lacking
returns-in-Main-clause-lacking g c = λ memory given uuid first texts lacks.
    let refused : c.lacks_memory.result ≡ true = c.lacks_memory.ensures.1 lacks.is_without.has_verdict in
    let found : c.lacks_memory.result ≡ false = c.if-lacks_memory.false in
    absurd (let clash : true ≡ false = sym refused ∙ found in cc)

pub returns-in-Channel-clause-lacking : goal.returns-in-Channel-clause-lacking
returns-in-Channel-clause-lacking g c = λ memory given uuid first texts lacks.
    let refused : c.lacks_memory.result ≡ true = c.lacks_memory.ensures.1 lacks.is_without.has_verdict in
    let found : c.lacks_memory.result ≡ false = c.if-lacks_memory.false in
    absurd (let clash : true ≡ false = sym refused ∙ found in cc)
