use Rattle.std.proofs.Common.{ℕ, ◌≡◌, ◌∙◌, List, length, get_or, slice_get, slice_set, Some, sym, ap, subst, arith}
use Rattle.std.proofs.lemmas.List.{length-map}
use Rattle.mig_load_types.specs.Settings.{main_of, channel_of}
use Rattle.mig_sources.specs.declared.source.Source.{Source}
use Rattle.mig_sources.specs.declared.source.Source.TheVariants as source
use Rattle.mig_answer.specs.Texts.{Texts, no_text, with_piece}
use Rattle.mig_session.specs.Scan.{Scan, Scans}
use Rattle.mig_session.specs.Sources.{FedSources, Holds}
use Rattle.mig_sources.specs.Sources.{HasSource, count_in, counts_in, feed_step}
use Rattle.mig_session.proofs.FedSources.{channel_steps, channel_scans, channels_long, there_of}
use Rattle.mig_session.specs.Loading.{HasRoom}
use Rattle.mig_session.proofs.Scanning.{fed_few}
use Rattle.mig_session.proofs.sources.Sources.feed.Goals as goal

pub index_mut-channel-requires : goal.index_mut-channel-requires
index_mut-channel-requires g c =
    let f = c.requires.0 in
    let s : FedSources = record { main = c.self.inside.main; channels = c.self.inside.channels.items } in
    let holds : Holds f.given f.uuid f.texts s = subst (λ (x : FedSources). Holds f.given f.uuid f.texts x) (sym c.self.view_is) c.requires.1 in
    let there : HasSource (counts_in f.texts) (source.Channel c.in-Channel.j) = subst (λ (x : Source). HasSource
    (counts_in f.texts) x) c.in-Channel.is c.requires.2.there in
    omega (arith, there, length-map f.texts.channels count_in, channels_long f.given f.uuid f.texts s holds)

pub returns-in-Channel : goal.returns-in-Channel
returns-in-Channel g c = λ given uuid texts holds.
    let channels : List Scan = c.self.inside.channels.items in
    let j : ℕ = c.in-Channel.j in
    let q : Scan = c.index_mut-channel.result.now in
    let old : FedSources = record { main = c.self.inside.main; channels = channels } in
    let f = c.requires.0 in
    let made : Holds f.given f.uuid f.texts old = subst (λ (x : FedSources). Holds f.given f.uuid f.texts x) (sym c.self.view_is) c.requires.1 in
    let before : Holds given uuid texts old = subst (λ (x : FedSources). Holds given uuid texts x) (sym c.self.view_is) holds in
    let here : HasSource (counts_in f.texts) (source.Channel j) = subst (λ (x : Source). HasSource (counts_in f.texts) x) c.in-Channel.is c.requires.2.there in
    let there : slice_get channels j ≡ Some q = there_of f.given f.uuid f.texts old j q made here c.index_mut-channel.ensures.value in
    subst (λ (x : Source). Holds given uuid (feed_step x c.args.piece.now texts)
    (record { main = c.self.inside.main; channels = slice_set channels j c.feed-in-Channel.new.self })) (sym c.in-Channel.is)
    (channel_steps given uuid j (with_piece c.args.piece.now) texts old c.feed-in-Channel.new.self before
    (c.feed-in-Channel.ensures (channel_of given uuid (length texts.channels)) (get_or texts.channels j no_text)
    (channel_scans given uuid j texts old q before there)))

pub feed-requires-in-Channel-clause-open : goal.feed-requires-in-Channel-clause-open
feed-requires-in-Channel-clause-open g c =
    let channels : List Scan = c.self.inside.channels.items in
    let j : ℕ = c.in-Channel.j in
    let q : Scan = c.index_mut-channel.result.now in
    let old : FedSources = record { main = c.self.inside.main; channels = channels } in
    let f = c.requires.0 in
    let made : Holds f.given f.uuid f.texts old = subst (λ (x : FedSources). Holds f.given f.uuid f.texts x) (sym c.self.view_is) c.requires.1 in
    let room : HasRoom f.texts (source.Channel j) (length c.args.piece.now) = subst (λ (x : Source). HasRoom f.texts x
    (length c.args.piece.now)) c.in-Channel.is c.requires.2 in
    let there : slice_get channels j ≡ Some q = there_of f.given f.uuid f.texts old j q made room.there c.index_mut-channel.ensures.value in
    (channel_scans f.given f.uuid j f.texts old q made there).has_ended ∙ room.is_open

pub feed-requires-in-Channel-clause-room : goal.feed-requires-in-Channel-clause-room
feed-requires-in-Channel-clause-room g c =
    let channels : List Scan = c.self.inside.channels.items in
    let j : ℕ = c.in-Channel.j in
    let q : Scan = c.index_mut-channel.result.now in
    let old : FedSources = record { main = c.self.inside.main; channels = channels } in
    let f = c.requires.0 in
    let made : Holds f.given f.uuid f.texts old = subst (λ (x : FedSources). Holds f.given f.uuid f.texts x) (sym c.self.view_is) c.requires.1 in
    let room : HasRoom f.texts (source.Channel j) (length c.args.piece.now) = subst (λ (x : Source). HasRoom f.texts x
    (length c.args.piece.now)) c.in-Channel.is c.requires.2 in
    let there : slice_get channels j ≡ Some q = there_of f.given f.uuid f.texts old j q made room.there c.index_mut-channel.ensures.value in
    let few = fed_few (channel_of f.given f.uuid (length f.texts.channels)) (get_or f.texts.channels j no_text) q
    (channel_scans f.given f.uuid j f.texts old q made there) in
    omega (arith, few, room.few)
