use Rattle.std.proofs.Common.{ℕ, ◌≡◌, ◌<◌, ◌∙◌, true, false, length, get_or, Some, refl, sym, subst, arith}
use Rattle.std.specs.Prelude.{slice_get}
use Rattle.std.proofs.lemmas.List.{length-map}
use Rattle.std.proofs.lemmas.Option.{slice_get_read}
use Rattle.mig_load_types.specs.Settings.{main_of, channel_of, for_table}
use Rattle.mig_load_types.specs.declared.settings.LoadSettings.{LoadSettings}
use Rattle.mig_answer.specs.Texts.{no_text}
use Rattle.mig_sources.specs.declared.source.Source.{Source}
use Rattle.mig_sources.specs.declared.source.Source.TheVariants as source
use Rattle.mig_sources.specs.Sources.{HasSource}
use Rattle.mig_sources.specs.Faults.{IsSourceValidUpTo}
use Rattle.mig_in_place.specs.Sources.{KeptChannel, channel_count, counts_of}
use Rattle.mig_in_place.specs.Session.{InPlaceLoad, Loading, HaveTaken}
use Rattle.mig_in_place.proofs.Places.{given_at}
use Rattle.mig_in_place.proofs.Refused.{stands_found}
use Rattle.mig_in_place.proofs.session.InPlaceSession.valid_up_to.Goals as goal

pub returns-then-lacks_memory-clause-stands : goal.returns-then-lacks_memory-clause-stands
returns-then-lacks_memory-clause-stands g c = λ memory given uuid first texts stands.
    let f : Loading = record { given = given; uuid = uuid; first = first; texts = texts } in
    absurd (stands_found f memory c.args.self.now c.args.self.now.rounds stands (c.lacks_memory.ensures.0 c.if-lacks_memory.true))

pub returns-in-Main-clause-stands : goal.returns-in-Main-clause-stands
returns-in-Main-clause-stands g c = λ memory given uuid first texts stands.
    let i = c.self.inside in
    let load : LoadSettings = for_table first.table given in
    let s : InPlaceLoad =
    record {
      table = i.table;
      sources = record { main = i.main; channels = i.channels.items };
      round = i.round;
      rounds = i.rounds;
      base = i.base;
      named = i.named;
      verdict = i.verdict;
    } in
    let mine : HaveTaken load uuid texts s.sources = subst (λ (x : InPlaceLoad). HaveTaken load uuid texts x.sources) (sym c.self.view_is) stands.have_taken in
    subst (λ (x : Source). IsSourceValidUpTo load uuid texts x (Some c.valid_up_to.result)) (sym c.in-Main.is)
    (c.valid_up_to.ensures (main_of load) mine.rounds texts.main mine.main)

pub returns-in-Channel-clause-stands : goal.returns-in-Channel-clause-stands
returns-in-Channel-clause-stands g c = λ memory given uuid first texts stands.
    let i = c.self.inside in
    let load : LoadSettings = for_table first.table given in
    let j : ℕ = c.in-Channel.j in
    let q : KeptChannel = c.index.result.now in
    let s : InPlaceLoad =
    record {
      table = i.table;
      sources = record { main = i.main; channels = i.channels.items };
      round = i.round;
      rounds = i.rounds;
      base = i.base;
      named = i.named;
      verdict = i.verdict;
    } in
    let mine : HaveTaken load uuid texts s.sources = subst (λ (x : InPlaceLoad). HaveTaken load uuid texts x.sources) (sym c.self.view_is) stands.have_taken in
    let has : HasSource (counts_of s.sources) (source.Channel j) =
    subst (λ (x : InPlaceLoad). HasSource (counts_of x.sources) (source.Channel j)) (sym c.self.view_is)
    (subst (λ (x : Source). HasSource (counts_of c.args.self.now.sources) x) c.in-Channel.is c.requires) in
    let below : j < length i.channels.items = (let e = length-map i.channels.items channel_count in omega (arith, e, has)) in
    let is : slice_get i.channels.items j ≡ Some q = slice_get_read i.channels.items (length i.channels.items) j q refl below c.index.ensures in
    subst (λ (x : Source). IsSourceValidUpTo load uuid texts x (Some c.valid_up_to-in-Channel.result)) (sym c.in-Channel.is)
    (c.valid_up_to-in-Channel.ensures (channel_of load uuid (length texts.channels)) (get_or texts.channels j no_text)
    (given_at (channel_of load uuid (length texts.channels)) texts.channels i.channels.items j q is mine.channels))

pub returns-in-Main-clause-lacking : goal.returns-in-Main-clause-lacking
returns-in-Main-clause-lacking g c = λ memory given uuid first texts lacks.
    let refused : c.lacks_memory.result ≡ true = c.lacks_memory.ensures.1 lacks.is_without.has_verdict in
    let found : c.lacks_memory.result ≡ false = c.if-lacks_memory.false in
    absurd (let clash : true ≡ false = sym refused ∙ found in cc)

pub returns-in-Channel-clause-lacking : goal.returns-in-Channel-clause-lacking
returns-in-Channel-clause-lacking g c = λ memory given uuid first texts lacks.
    let refused : c.lacks_memory.result ≡ true = c.lacks_memory.ensures.1 lacks.is_without.has_verdict in
    let found : c.lacks_memory.result ≡ false = c.if-lacks_memory.false in
    absurd (let clash : true ≡ false = sym refused ∙ found in cc)
