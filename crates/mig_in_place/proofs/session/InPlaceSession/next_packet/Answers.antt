use Rattle.std.proofs.Common.{◌≡◌, ◌<◌, ◌∙◌, length, sym, ap, subst, arith}
use Rattle.std.proofs.lemmas.List.{length-map}
use Rattle.mig_mem.specs.RamTable.{RamTable}
use Rattle.mig_assemble.specs.HeadPlaces.{LieIn}
use Rattle.mig_in_place.specs.Round.{KeepsSome}
use Rattle.mig_in_place.specs.Sources.{KeptChannel, IsChannelOf, counts_of, channel_count}
use Rattle.mig_in_place.specs.Session.{InPlaceLoad}
use Rattle.mig_in_place.proofs.Keeping.{same_table}
use Rattle.mig_in_place.proofs.TakingPackets.{if_some}
use Rattle.mig_in_place.proofs.session.InPlaceSession.next_packet.Goals as goal

pub returns-clause-head : goal.returns-clause-head
returns-clause-head g c =
    let i = c.self.inside in
    let q : KeptChannel = c.index.result.now in
    let low : c.args.channel < length i.channels.items =
    (let lt = c.requires.source in let e = ap (λ (x : InPlaceLoad). length (counts_of x.sources).channels) c.self.view_is in
    let n = length-map i.channels.items channel_count in omega (arith, lt, e, n)) in
    let is : IsChannelOf i.table q = subst (λ (x : KeptChannel). IsChannelOf i.table x) (sym c.index.ensures)
    (c.self.invariant.channels c.args.channel q low) in
    let size : q.reader.given.page_size ≡ c.args.self.now.table.page_size = ap (λ s. s.page_size) is.gives.has_settings
    ∙ is.has_page_size ∙ ap (λ (x : InPlaceLoad). x.table.page_size) c.self.view_is in
    if_some _ _ c.next_packet.result c.next_packet.ensures.head (λ x h. (h.0, h.1 ∙ size))

pub returns-clause-lies : goal.returns-clause-lies
returns-clause-lies g c =
    let i = c.self.inside in
    let keeps : KeepsSome i.table i.round = c.self.invariant.round in
    let seen : i.round.arrivals.seen.table ≡ c.args.self.now.table = same_table i.table keeps.0 i.round.arrivals keeps.1.has_come
    ∙ ap (λ (x : InPlaceLoad). x.table) c.self.view_is in
    if_some _ _ c.next_packet.result c.next_packet.ensures.next (λ x n. subst (λ (t : RamTable). LieIn t x.1 c.args.head.now) seen n.lies)
