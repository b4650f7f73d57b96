use Rattle.std.proofs.Common.{◌≡◌, ◌<◌, ◌∙◌, false, List, length, Some, refl, sym, ap, subst, arith}
use Rattle.std.specs.Prelude.{IsFalse, IfSome, Option, slice_get}
use Rattle.std.proofs.lemmas.List.{length-set}
use Rattle.std.proofs.lemmas.Option.{slice_get_read}
use Rattle.mig_mem.specs.RamTable.{RamTable}
use Rattle.mig_mem.specs.Image.{Image}
use Rattle.mig_sources.specs.declared.counts.Count.{Count}
use Rattle.mig_sources.specs.declared.source.Source.TheVariants as source
use Rattle.mig_sources.specs.Sources.{count_of, with_fed}
use Rattle.mig_in_place.specs.declared.main_stream.SizeList.{SizeList}
use Rattle.mig_in_place.specs.Round.{KeepsSome}
use Rattle.mig_in_place.specs.Sources.{KeptChannel, IsChannelOf, TellsList, TellsTakes, main_count, counts_of}
use Rattle.mig_in_place.specs.Session.{InPlaceLoad, Loads}
use Rattle.mig_in_place.proofs.ChannelComes.{all_set, channel_reads, channel_reads_some}
use Rattle.mig_in_place.proofs.Feeding.{there, channel_counted, channel_fed, if_ok, on_err}
use Rattle.mig_in_place.proofs.session.InPlaceSession.read_channel.Goals as goal

pub invariant_of-self : goal.invariant_of-self
invariant_of-self g c =
    let i = c.self.inside in
    let table : i.table ≡ (g.M.GuestTarget.image c.args.memory.now).table = ap (λ (x : InPlaceLoad). x.table) c.self.view_is ∙ sym c.requires.table in
    let len = length-set i.channels.items c.args.j c.read.new.self in
    let r1 = c.self.invariant.has_room in
    let r2 = c.self.invariant.has_hello_room in
    record {
      channels = all_set (IsChannelOf i.table) i.channels.items c.args.j c.read.new.self
          (subst (λ (t : RamTable). IsChannelOf t c.read.new.self) (sym table) c.read.ensures.channel) c.self.invariant.channels;
      round = subst (λ (t : RamTable). KeepsSome t c.read.new.round) (sym table) c.read.ensures.round;
      main = c.self.invariant.main;
      is_few = c.self.invariant.is_few;
      has_few_rounds = c.self.invariant.has_few_rounds;
      has_room = omega (arith, len, r1);
      has_hello_room = omega (arith, len, r2);
      same_named = c.self.invariant.same_named;
    }

pub returns-clause-read : goal.returns-clause-read
returns-clause-read g c = if_ok c.read.result c.read.ensures.read (λ n has f loads.
    let i = c.self.inside in
    let q : KeptChannel = c.index_mut-channel.result.now in
    let memory : Image = g.M.GuestTarget.image c.args.memory.now in
    let s : InPlaceLoad =
    record {
      table = i.table;
      sources = record { main = i.main; channels = i.channels.items };
      round = i.round;
      rounds = i.rounds;
      base = i.base;
      named = i.named;
      verdict = i.verdict;
    } in
    let mine : Loads f memory s = subst (λ (x : InPlaceLoad). Loads f memory x) (sym c.self.view_is) loads in
    let below : c.args.j < length i.channels.items =
    (let e = ap (λ (x : InPlaceLoad). length x.sources.channels) c.self.view_is in let lt = c.requires.source in omega (arith, e, lt)) in
    let is : slice_get i.channels.items c.args.j ≡ Some q =
    slice_get_read i.channels.items (length i.channels.items) c.args.j q refl below c.index_mut-channel.ensures.value in
    let open_ : IsFalse q.reader.ended =
    sym (ap (λ (x : Count). x.ended) (channel_counted i.channels.items c.args.j q is))
    ∙ ap (λ (x : InPlaceLoad). (count_of (counts_of x.sources) (source.Channel c.args.j)).ended) c.self.view_is ∙ c.requires.open in
    channel_reads f memory s mine c.args.j q is c.size_list-list.result c.size_list-list.ensures
    (c.requires.table ∙ sym (ap (λ (x : InPlaceLoad). x.table) c.self.view_is) ∙ sym mine.same_table) c.args.piece.now n
    c.read.new.self c.read.new.round (g.M.GuestTarget.image c.read.new.memory) open_ c.read.ensures.table c.read.ensures.unknown c.read.ensures.misplaced has)

pub returns-clause-lacks : goal.returns-clause-lacks
returns-clause-lacks g c = on_err c.read.result c.read.ensures.some (λ some.
    let i = c.self.inside in
    let q : KeptChannel = c.index_mut-channel.result.now in
    let memory : Image = g.M.GuestTarget.image c.args.memory.now in
    let s : InPlaceLoad =
    record {
      table = i.table;
      sources = record { main = i.main; channels = i.channels.items };
      round = i.round;
      rounds = i.rounds;
      base = i.base;
      named = i.named;
      verdict = i.verdict;
    } in
    let below : c.args.j < length i.channels.items =
    (let e = ap (λ (x : InPlaceLoad). length x.sources.channels) c.self.view_is in let lt = c.requires.source in omega (arith, e, lt)) in
    let is : slice_get i.channels.items c.args.j ≡ Some q =
    slice_get_read i.channels.items (length i.channels.items) c.args.j q refl below c.index_mut-channel.ensures.value in
    let open_ : IsFalse q.reader.ended =
    sym (ap (λ (x : Count). x.ended) (channel_counted i.channels.items c.args.j q is))
    ∙ ap (λ (x : InPlaceLoad). (count_of (counts_of x.sources) (source.Channel c.args.j)).ended) c.self.view_is ∙ c.requires.open in
    record {
      taken = some.0;
      is_part = some.1;
      has_counts = ap (λ (l : List Count). record { main = main_count i.main; channels = l })
          (channel_fed i.channels.items c.args.j some.0 q c.read.new.self is some.2 c.read.ensures.ended)
          ∙ ap (λ (x : InPlaceLoad). with_fed (counts_of x.sources) (source.Channel c.args.j) some.0) c.self.view_is;
      lacks = λ f loads.
          let mine : Loads f memory s = subst (λ (x : InPlaceLoad). Loads f memory x) (sym c.self.view_is) loads in
          channel_reads_some f memory s mine c.args.j q is c.size_list-list.result c.size_list-list.ensures
          (c.requires.table ∙ sym (ap (λ (x : InPlaceLoad). x.table) c.self.view_is) ∙ sym mine.same_table)
          c.args.piece.now some.0 c.read.new.self c.read.new.round
          (g.M.GuestTarget.image c.read.new.memory) open_ c.read.ensures.table c.read.ensures.unknown c.read.ensures.misplaced some.3;
    })

pub returns-clause-waits : goal.returns-clause-waits
returns-clause-waits g c = if_ok c.read.result c.read.ensures.waits (λ n waits lt.
    let i = c.self.inside in
    let below : c.args.j < length i.channels.items =
    (let e = ap (λ (x : InPlaceLoad). length x.sources.channels) c.self.view_is in let l = c.requires.source in omega (arith, e, l)) in
    subst (λ (o : Option KeptChannel). IfSome o (λ x. (l : SizeList) × TellsList i.main l × TellsTakes l x false))
    (sym (there i.channels.items c.args.j c.read.new.self below))
    (c.size_list-list.result, c.size_list-list.ensures, waits lt))

pub returns-clause-counts : goal.returns-clause-counts
returns-clause-counts g c = if_ok c.read.result c.read.ensures.fed (λ n fed.
    let i = c.self.inside in
    let q : KeptChannel = c.index_mut-channel.result.now in
    let below : c.args.j < length i.channels.items =
    (let e = ap (λ (x : InPlaceLoad). length x.sources.channels) c.self.view_is in let lt = c.requires.source in omega (arith, e, lt)) in
    let is : slice_get i.channels.items c.args.j ≡ Some q =
    slice_get_read i.channels.items (length i.channels.items) c.args.j q refl below c.index_mut-channel.ensures.value in
    ap (λ (l : List Count). record { main = main_count i.main; channels = l })
    (channel_fed i.channels.items c.args.j n q c.read.new.self is fed c.read.ensures.ended)
    ∙ ap (λ (x : InPlaceLoad). with_fed (counts_of x.sources) (source.Channel c.args.j) n) c.self.view_is)
