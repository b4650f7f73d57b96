use Rattle.std.proofs.Common.{◌≡◌, ◌<◌, ◌∙◌, List, ℕ, length, Some, refl, sym, ap, subst, arith}
use Rattle.std.specs.Prelude.{IsFalse, Option, slice_get}
use Rattle.std.specs.Option.{IsSomeAnd}
use Rattle.std.proofs.lemmas.List.{length-set}
use Rattle.std.proofs.lemmas.Option.{slice_get_read}
use Rattle.mig_mem.specs.RamTable.{RamTable}
use Rattle.mig_mem.specs.Lent.{lent_bytes}
use Rattle.mig_sources.specs.declared.counts.Count.{Count}
use Rattle.mig_sources.specs.declared.source.Source.TheVariants as source
use Rattle.mig_sources.specs.Sources.{with_fed}
use Rattle.mig_in_place.specs.Round.{KeepsSome}
use Rattle.mig_in_place.specs.Sources.{KeptChannel, IsChannelOf, main_count, counts_of}
use Rattle.mig_in_place.specs.Session.{InPlaceLoad, Loads}
use Rattle.mig_in_place.specs.TakenPackets.{packet_bytes}
use Rattle.mig_in_place.proofs.Keeping.{same_table}
use Rattle.mig_in_place.proofs.ChannelComes.{all_set, all_there}
use Rattle.mig_in_place.proofs.Feeding.{there, channel_fed, if_ok}
use Rattle.mig_in_place.proofs.TakingPackets.{channel_takes, both_ok}
use Rattle.mig_in_place.proofs.session.InPlaceSession.take_apart.Goals as goal

pub invariant_of-self : goal.invariant_of-self
invariant_of-self g c =
    let i = c.self.inside in
    let q : KeptChannel = c.index_mut-channel.result.now in
    let below : c.args.j < length i.channels.items =
    (let e = ap (λ (x : InPlaceLoad). length x.sources.channels) c.self.view_is in let lt = c.requires.source in omega (arith, e, lt)) in
    let is : slice_get i.channels.items c.args.j ≡ Some q =
    slice_get_read i.channels.items (length i.channels.items) c.args.j q refl below c.index_mut-channel.ensures.value in
    let keeps : KeepsSome i.table i.round = c.self.invariant.round in
    let seen : i.round.arrivals.seen.table ≡ i.table = same_table i.table keeps.0 i.round.arrivals keeps.1.has_come in
    let len = length-set i.channels.items c.args.j c.take_packet.new.self in
    let r1 = c.self.invariant.has_room in
    let r2 = c.self.invariant.has_hello_room in
    record {
      channels = all_set (IsChannelOf i.table) i.channels.items c.args.j c.take_packet.new.self
          (c.take_packet.ensures.channel i.table (all_there
          (IsChannelOf i.table) i.channels.items c.args.j q is c.self.invariant.channels)) c.self.invariant.channels;
      round = subst (λ (t : RamTable). KeepsSome t c.take_packet.new.round) seen
          (c.take_packet.ensures.round (subst (λ (t : RamTable). KeepsSome t i.round) (sym seen) keeps));
      main = c.self.invariant.main;
      is_few = c.self.invariant.is_few;
      has_few_rounds = c.self.invariant.has_few_rounds;
      has_room = omega (arith, len, r1);
      has_hello_room = omega (arith, len, r2);
      same_named = c.self.invariant.same_named;
    }

pub returns-clause-took : goal.returns-clause-took
returns-clause-took g c = if_ok c.take_packet.result
    (both_ok _ _ c.take_packet.result c.take_packet.ensures.took
    (both_ok _ _ c.take_packet.result c.take_packet.ensures.open c.take_packet.ensures.right)) (λ did all yes f memory same loads.
    let i = c.self.inside in
    let q : KeptChannel = c.index_mut-channel.result.now in
    let s : InPlaceLoad =
    record {
      table = i.table;
      sources = record { main = i.main; channels = i.channels.items };
      round = i.round;
      rounds = i.rounds;
      base = i.base;
      named = i.named;
      verdict = i.verdict;
    } in
    let mine : Loads f memory s = subst (λ (x : InPlaceLoad). Loads f memory x) (sym c.self.view_is) loads in
    let below : c.args.j < length i.channels.items =
    (let e = ap (λ (x : InPlaceLoad). length x.sources.channels) c.self.view_is in let lt = c.requires.source in omega (arith, e, lt)) in
    let is : slice_get i.channels.items c.args.j ≡ Some q =
    slice_get_read i.channels.items (length i.channels.items) c.args.j q refl below c.index_mut-channel.ensures.value in
    let took = all.0 yes in
    let right = all.1.1 yes in
    channel_takes f memory s mine c.args.j q is c.size_list-list.result c.size_list-list.ensures
    (same ∙ sym (ap (λ (x : InPlaceLoad). x.table) c.self.view_is) ∙ sym mine.same_table) c.args.head.now
    (lent_bytes c.args.contents.now) c.take_packet.new.self c.take_packet.new.round (all.1.0 yes).1 took.0 (λ wrong. absurd (let r = right.0 in cc)) took.1)

pub returns-clause-open : goal.returns-clause-open
returns-clause-open g c = if_ok c.take_packet.result c.take_packet.ensures.open (λ did open_ yes.
    let i = c.self.inside in
    let below : c.args.j < length i.channels.items =
    (let e = ap (λ (x : InPlaceLoad). length x.sources.channels) c.self.view_is in let lt = c.requires.source in omega (arith, e, lt)) in
    subst (λ (o : Option KeptChannel). IsSomeAnd o (λ x. IsFalse x.is_whole))
    (sym (there i.channels.items c.args.j c.take_packet.new.self below)) (open_ yes).0)

pub returns-clause-counts : goal.returns-clause-counts
returns-clause-counts g c = if_ok c.take_packet.result c.take_packet.ensures.fed (λ did fed yes.
    let i = c.self.inside in
    let q : KeptChannel = c.index_mut-channel.result.now in
    let n : ℕ = length (packet_bytes c.args.head.now (lent_bytes c.args.contents.now)) in
    let below : c.args.j < length i.channels.items =
    (let e = ap (λ (x : InPlaceLoad). length x.sources.channels) c.self.view_is in let lt = c.requires.source in omega (arith, e, lt)) in
    let is : slice_get i.channels.items c.args.j ≡ Some q =
    slice_get_read i.channels.items (length i.channels.items) c.args.j q refl below c.index_mut-channel.ensures.value in
    ap (λ (l : List Count). record { main = main_count i.main; channels = l })
    (channel_fed i.channels.items c.args.j n q c.take_packet.new.self is (fed yes) c.take_packet.ensures.ended)
    ∙ ap (λ (x : InPlaceLoad). with_fed (counts_of x.sources) (source.Channel c.args.j) n) c.self.view_is)
