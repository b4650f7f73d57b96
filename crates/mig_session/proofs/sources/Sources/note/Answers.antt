use Rattle.std.proofs.Common.{ℕ, ◌≡◌, List, length, subst, sym, get_or, slice_get, Some, slice_set, arith}
use Rattle.std.proofs.lemmas.List.{length-map}
use Rattle.mig_load_types.specs.Settings.{main_of, channel_of}
use Rattle.mig_sources.specs.declared.source.Source.{Source}
use Rattle.mig_sources.specs.declared.source.Source.TheVariants as source
use Rattle.mig_answer.specs.Texts.{no_text}
use Rattle.mig_session.specs.declared.places.Noted.{Noted}
use Rattle.mig_session.specs.Scan.{Scan}
use Rattle.mig_session.specs.Sources.{Places, FedSources, Holds}
use Rattle.mig_session.specs.Session.{HasPlaces}
use Rattle.mig_sources.specs.Sources.{HasSource, count_in, counts_in, at_source}
use Rattle.mig_session.proofs.FedSources.{channels_long, main_noted, channel_noted, channel_stands, there_of}
use Rattle.mig_session.proofs.sources.Sources.note.Goals as goal

pub returns-in-Main : goal.returns-in-Main
returns-in-Main g c = λ given uuid step texts holds have.
    let s : FedSources = record { main = c.self.inside.main; channels = c.self.inside.channels.items } in
    let here : Holds given uuid (at_source source.Main step texts) s =
    subst (λ (x : Source). Holds given uuid (at_source x step texts) s) c.in-Main.is
    (subst (λ (x : FedSources). Holds given uuid (at_source c.args.source step texts) x) (sym c.self.view_is) holds) in
    let n : Noted = record { valid_up_to = c.valid_up_to.result; fault = c.fault.result } in
    let noted = main_noted given uuid step texts c.args.places.now n c.closed_at.result have
    (record {
      is_valid = c.valid_up_to.ensures (main_of given) (step texts.main) here.main;
      has_fault = c.fault.ensures (main_of given) (step texts.main) here.main;
    })
    (c.closed_at.ensures (main_of given) (step texts.main) here.main) in
    subst (λ (p : Places). HasPlaces given uuid (at_source c.args.source step texts) p) (sym c.set_main.ensures)
    (subst (λ (x : Source). HasPlaces given uuid (at_source x step texts)
    (record c.args.places.now { main = n; closed_at = c.closed_at.result })) (sym c.in-Main.is) noted)

pub returns-in-Channel : goal.returns-in-Channel
returns-in-Channel g c = λ given uuid step texts holds have.
    let channels : List Scan = c.self.inside.channels.items in
    let j : ℕ = c.in-Channel.j in
    let q : Scan = c.index-channel.result.now in
    let s : FedSources = record { main = c.self.inside.main; channels = channels } in
    let f = c.requires.0 in
    let made : Holds f.given f.uuid f.texts s = subst (λ (x : FedSources). Holds f.given f.uuid f.texts x) (sym c.self.view_is) c.requires.1 in
    let here : Holds given uuid (at_source (source.Channel j) step texts) s =
    subst (λ (x : Source). Holds given uuid (at_source x step texts) s) c.in-Channel.is
    (subst (λ (x : FedSources). Holds given uuid (at_source c.args.source step texts) x) (sym c.self.view_is) holds) in
    let there : slice_get channels j ≡ Some q =
    there_of f.given f.uuid f.texts s j q made (subst (λ (x : Source). HasSource (counts_in f.texts) x) c.in-Channel.is c.requires.2) c.index-channel.ensures in
    let many = channel_of given uuid (length (at_source (source.Channel j) step texts).channels) in
    let scans = channel_stands given uuid j step texts s q here there in
    let n : Noted = record { valid_up_to = c.valid_up_to-in-Channel.result; fault = c.fault-in-Channel.result } in
    let noted = channel_noted given uuid j step texts c.args.places.now n have
    (record {
      is_valid = c.valid_up_to-in-Channel.ensures many (step (get_or texts.channels j no_text)) scans;
      has_fault = c.fault-in-Channel.ensures many (step (get_or texts.channels j no_text)) scans;
    }) in
    subst (λ (p : Places). HasPlaces given uuid (at_source c.args.source step texts) p) (sym c.set_channel.ensures)
    (subst (λ (x : Source). HasPlaces given uuid (at_source x step texts)
    (record c.args.places.now { channels = slice_set c.args.places.now.channels j n })) (sym c.in-Channel.is) noted)

pub index-channel-requires : goal.index-channel-requires
index-channel-requires g c =
    let f = c.requires.0 in
    let s : FedSources = record { main = c.self.inside.main; channels = c.self.inside.channels.items } in
    let holds : Holds f.given f.uuid f.texts s = subst (λ (x : FedSources). Holds f.given f.uuid f.texts x) (sym c.self.view_is) c.requires.1 in
    let there : HasSource (counts_in f.texts) (source.Channel c.in-Channel.j) = subst (λ (x : Source). HasSource
    (counts_in f.texts) x) c.in-Channel.is c.requires.2 in
    omega (arith, there, length-map f.texts.channels count_in, channels_long f.given f.uuid f.texts s holds)
