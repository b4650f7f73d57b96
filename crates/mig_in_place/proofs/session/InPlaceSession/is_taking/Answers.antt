use Rattle.std.proofs.Common.{ℕ, ◌≡◌, ◌<◌, length, Some, refl, sym, subst, arith}
use Rattle.std.specs.Prelude.{◌↔◌, IsTrue, slice_get}
use Rattle.std.proofs.lemmas.List.{length-map}
use Rattle.std.proofs.lemmas.Option.{slice_get_read}
use Rattle.mig_load_types.specs.Settings.{for_table}
use Rattle.mig_sources.specs.declared.source.Source.{Source}
use Rattle.mig_sources.specs.declared.source.Source.TheVariants as source
use Rattle.mig_sources.specs.Sources.{HasSource}
use Rattle.mig_in_place.specs.Sources.{KeptChannel, channel_count, counts_of}
use Rattle.mig_in_place.specs.Session.{InPlaceLoad, Loading, Loads, TakesBytes}
use Rattle.mig_in_place.proofs.Takes.{loads_of, main_takes, channel_takes}
use Rattle.mig_in_place.proofs.session.InPlaceSession.is_taking.Goals as goal

pub returns-in-Main-clause-takes : goal.returns-in-Main-clause-takes
returns-in-Main-clause-takes g c = λ memory running given uuid first texts stands.
    let i = c.self.inside in
    let f : Loading = record { given = given; uuid = uuid; first = first; texts = texts } in
    let s : InPlaceLoad =
    record {
      table = i.table;
      sources = record { main = i.main; channels = i.channels.items };
      round = i.round;
      rounds = i.rounds;
      base = i.base;
      named = i.named;
      verdict = i.verdict;
    } in
    let mine : Loads f memory s = subst (λ (x : InPlaceLoad). Loads f memory x) (sym c.self.view_is) (loads_of f memory c.args.self.now running stands) in
    subst (λ (x : Source). IsTrue c.is_pending.result ↔ TakesBytes (for_table first.table given) uuid c.args.self.now.rounds texts x) (sym c.in-Main.is)
    (subst (λ (x : InPlaceLoad). IsTrue c.is_pending.result ↔ TakesBytes (for_table first.table given) uuid x.rounds texts source.Main) c.self.view_is
    (main_takes f memory s mine c.status.result c.is_pending.result c.status.ensures.tells c.is_pending.ensures))

pub returns-in-Channel-clause-takes : goal.returns-in-Channel-clause-takes
returns-in-Channel-clause-takes g c = λ memory running given uuid first texts stands.
    let i = c.self.inside in
    let j : ℕ = c.in-Channel.j in
    let q : KeptChannel = c.index.result.now in
    let f : Loading = record { given = given; uuid = uuid; first = first; texts = texts } in
    let s : InPlaceLoad =
    record {
      table = i.table;
      sources = record { main = i.main; channels = i.channels.items };
      round = i.round;
      rounds = i.rounds;
      base = i.base;
      named = i.named;
      verdict = i.verdict;
    } in
    let mine : Loads f memory s = subst (λ (x : InPlaceLoad). Loads f memory x) (sym c.self.view_is) (loads_of f memory c.args.self.now running stands) in
    let has : HasSource (counts_of s.sources) (source.Channel j) =
    subst (λ (x : InPlaceLoad). HasSource (counts_of x.sources) (source.Channel j)) (sym c.self.view_is)
    (subst (λ (x : Source). HasSource (counts_of c.args.self.now.sources) x) c.in-Channel.is c.requires) in
    let below : j < length i.channels.items = (let e = length-map i.channels.items channel_count in omega (arith, e, has)) in
    let is : slice_get i.channels.items j ≡ Some q = slice_get_read i.channels.items (length i.channels.items) j q refl below c.index.ensures in
    subst (λ (x : Source). IsTrue c.takes.result ↔ TakesBytes (for_table first.table given) uuid c.args.self.now.rounds texts x) (sym c.in-Channel.is)
    (subst (λ (x : InPlaceLoad). IsTrue c.takes.result ↔ TakesBytes (for_table first.table given) uuid x.rounds texts (source.Channel j)) c.self.view_is
    (channel_takes f memory s mine j q c.size_list.result c.takes.result is c.size_list.ensures c.takes.ensures.tells))
