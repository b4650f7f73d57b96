use Rattle.std.proofs.Common.{ℕ, ◌≡◌, ◌<◌, ◌∙◌, List, length, set, Some, refl, sym, ap, subst, arith}
use Rattle.std.specs.Prelude.{slice_get}
use Rattle.std.proofs.lemmas.List.{length-map, length-set}
use Rattle.std.proofs.lemmas.Option.{slice_get_read}
use Rattle.mig_load_types.specs.Settings.{main_of, for_table}
use Rattle.mig_answer.specs.Texts.{over}
use Rattle.mig_sources.specs.declared.counts.Count.{Count}
use Rattle.mig_sources.specs.declared.source.Source.{Source}
use Rattle.mig_sources.specs.declared.source.Source.TheVariants as source
use Rattle.mig_sources.specs.Sources.{HasSource, with_end, end_step}
use Rattle.mig_in_place.specs.Sources.{KeptMain, KeptChannel, IsChannelOf, channel_count, main_count, counts_of}
use Rattle.mig_in_place.specs.Session.{InPlaceLoad, HaveTaken, Loads, with_over}
use Rattle.mig_in_place.proofs.ChannelComes.{all_set, all_there}
use Rattle.mig_in_place.proofs.ChannelEnds.{channel_ended}
use Rattle.mig_in_place.proofs.Ended.{ended_goes, ended_channel, channel_over}
use Rattle.mig_in_place.proofs.MainComes.{main_ended}
use Rattle.mig_in_place.proofs.Places.{text_taken, channel_taken}
use Rattle.mig_in_place.proofs.session.InPlaceSession.end_source.Goals as goal

pub returns-in-Main-clause-loads : goal.returns-in-Main-clause-loads
returns-in-Main-clause-loads g c = λ f memory loads.
    let i = c.self.inside in
    let s : InPlaceLoad =
    record {
      table = i.table;
      sources = record { main = i.main; channels = i.channels.items };
      round = i.round;
      rounds = i.rounds;
      base = i.base;
      named = i.named;
      verdict = i.verdict;
    } in
    let mine : Loads f memory s = subst (λ (x : InPlaceLoad). Loads f memory x) (sym c.self.view_is) loads in
    let given = main_of (for_table f.first.table f.given) in
    let same = ap (λ (m : KeptMain). m.is_whole) c.end.ensures.value in
    subst (λ (x : Source). Loads (with_over x f) memory (record s { sources = record s.sources { main = c.end.new.self } })) (sym c.in-Main.is)
    (main_ended f memory s mine (over f.texts.main) (ended_goes f.texts.main) c.end.new.self same refl (record {
      stands = c.end.ensures.stands given i.rounds f.texts.main mine.is_running.main.stands;
      has_none = λ open_. mine.is_running.main.has_none (sym same ∙ open_);
    }))

pub returns-in-Main-clause-taken : goal.returns-in-Main-clause-taken
returns-in-Main-clause-taken g c = λ given uuid texts taken.
    let i = c.self.inside in
    let s : InPlaceLoad =
    record {
      table = i.table;
      sources = record { main = i.main; channels = i.channels.items };
      round = i.round;
      rounds = i.rounds;
      base = i.base;
      named = i.named;
      verdict = i.verdict;
    } in
    let mine : HaveTaken given uuid texts s.sources = subst (λ (x : InPlaceLoad). HaveTaken given uuid texts x.sources) (sym c.self.view_is) taken in
    subst (λ (x : Source). HaveTaken given uuid (end_step x texts) (record s.sources { main = c.end.new.self })) (sym c.in-Main.is)
    (text_taken given uuid texts s.sources mine.rounds (over texts.main) c.end.new.self
    (c.end.ensures.stands (main_of given) mine.rounds texts.main mine.main) mine)

pub returns-in-Channel-clause-loads : goal.returns-in-Channel-clause-loads
returns-in-Channel-clause-loads g c = λ f memory loads.
    let i = c.self.inside in
    let s : InPlaceLoad =
    record {
      table = i.table;
      sources = record { main = i.main; channels = i.channels.items };
      round = i.round;
      rounds = i.rounds;
      base = i.base;
      named = i.named;
      verdict = i.verdict;
    } in
    let j : ℕ = c.in-Channel.j in
    let q : KeptChannel = c.index_mut-channel.result.now in
    let has : HasSource (counts_of s.sources) (source.Channel j) =
    subst (λ (x : InPlaceLoad). HasSource (counts_of x.sources) (source.Channel j)) (sym c.self.view_is)
    (subst (λ (x : Source). HasSource (counts_of c.args.self.now.sources) x) c.in-Channel.is c.requires) in
    let below : j < length i.channels.items = (let e = length-map i.channels.items channel_count in omega (arith, e, has)) in
    let is : slice_get i.channels.items j ≡ Some q =
    slice_get_read i.channels.items (length i.channels.items) j q refl below c.index_mut-channel.ensures.value in
    let mine : Loads f memory s = subst (λ (x : InPlaceLoad). Loads f memory x) (sym c.self.view_is) loads in
    subst (λ (x : Source). Loads (with_over x f) memory
    (record s { sources = record s.sources { channels = set i.channels.items j c.end-in-Channel.new.self } })) (sym c.in-Channel.is)
    (channel_ended f memory s mine j q c.end-in-Channel.new.self is
    (ap (λ (x : KeptChannel). x.block) c.end-in-Channel.ensures.value) c.end-in-Channel.ensures.holds)

pub returns-in-Channel-clause-taken : goal.returns-in-Channel-clause-taken
returns-in-Channel-clause-taken g c = λ given uuid texts taken.
    let i = c.self.inside in
    let s : InPlaceLoad =
    record {
      table = i.table;
      sources = record { main = i.main; channels = i.channels.items };
      round = i.round;
      rounds = i.rounds;
      base = i.base;
      named = i.named;
      verdict = i.verdict;
    } in
    let j : ℕ = c.in-Channel.j in
    let q : KeptChannel = c.index_mut-channel.result.now in
    let has : HasSource (counts_of s.sources) (source.Channel j) =
    subst (λ (x : InPlaceLoad). HasSource (counts_of x.sources) (source.Channel j)) (sym c.self.view_is)
    (subst (λ (x : Source). HasSource (counts_of c.args.self.now.sources) x) c.in-Channel.is c.requires) in
    let below : j < length i.channels.items = (let e = length-map i.channels.items channel_count in omega (arith, e, has)) in
    let is : slice_get i.channels.items j ≡ Some q =
    slice_get_read i.channels.items (length i.channels.items) j q refl below c.index_mut-channel.ensures.value in
    let mine : HaveTaken given uuid texts s.sources = subst (λ (x : InPlaceLoad). HaveTaken given uuid texts x.sources) (sym c.self.view_is) taken in
    subst (λ (x : Source). HaveTaken given uuid (end_step x texts)
    (record s.sources { channels = set i.channels.items j c.end-in-Channel.new.self })) (sym c.in-Channel.is)
    (channel_taken given uuid texts s.sources j q c.end-in-Channel.new.self is c.end-in-Channel.ensures.value mine)

pub returns-in-Channel-clause-counts : goal.returns-in-Channel-clause-counts
returns-in-Channel-clause-counts g c =
    let i = c.self.inside in
    let s : InPlaceLoad =
    record {
      table = i.table;
      sources = record { main = i.main; channels = i.channels.items };
      round = i.round;
      rounds = i.rounds;
      base = i.base;
      named = i.named;
      verdict = i.verdict;
    } in
    let j : ℕ = c.in-Channel.j in
    let q : KeptChannel = c.index_mut-channel.result.now in
    let has : HasSource (counts_of s.sources) (source.Channel j) =
    subst (λ (x : InPlaceLoad). HasSource (counts_of x.sources) (source.Channel j)) (sym c.self.view_is)
    (subst (λ (x : Source). HasSource (counts_of c.args.self.now.sources) x) c.in-Channel.is c.requires) in
    let below : j < length i.channels.items = (let e = length-map i.channels.items channel_count in omega (arith, e, has)) in
    let is : slice_get i.channels.items j ≡ Some q =
    slice_get_read i.channels.items (length i.channels.items) j q refl below c.index_mut-channel.ensures.value in
    subst (λ (x : Source). counts_of (record s.sources { channels = set i.channels.items j c.end-in-Channel.new.self }) ≡ with_end
    (counts_of c.args.self.now.sources) x) (sym c.in-Channel.is)
    (ap (λ (l : List Count). record { main = main_count i.main; channels = l })
    (channel_over i.channels.items j q c.end-in-Channel.new.self is c.end-in-Channel.ensures.value)
    ∙ ap (λ (x : InPlaceLoad). with_end (counts_of x.sources) (source.Channel j)) c.self.view_is)

pub invariant_of-self : goal.invariant_of-self
invariant_of-self g c =
    let v = c.self.invariant in
    record {
      channels = v.channels;
      round = v.round;
      main = λ runs.
          let m = v.main runs in
          record {
            given = m.given;
            k = m.k;
            text = over m.text;
            stands = c.end.ensures.stands m.given m.k m.text m.stands;
            is_page_size = m.is_page_size;
            has_page_size = m.has_page_size;
            is_own = m.is_own;
          };
      is_few = v.is_few;
      has_few_rounds = v.has_few_rounds;
      has_room = v.has_room;
      has_hello_room = v.has_hello_room;
      same_named = v.same_named;
    }

pub invariant_of-self-in-Channel : goal.invariant_of-self-in-Channel
invariant_of-self-in-Channel g c =
    let v = c.self.invariant in
    let i = c.self.inside in
    let s : InPlaceLoad =
    record {
      table = i.table;
      sources = record { main = i.main; channels = i.channels.items };
      round = i.round;
      rounds = i.rounds;
      base = i.base;
      named = i.named;
      verdict = i.verdict;
    } in
    let j : ℕ = c.in-Channel.j in
    let q : KeptChannel = c.index_mut-channel.result.now in
    let next : KeptChannel = c.end-in-Channel.new.self in
    let has : HasSource (counts_of s.sources) (source.Channel j) =
    subst (λ (x : InPlaceLoad). HasSource (counts_of x.sources) (source.Channel j)) (sym c.self.view_is)
    (subst (λ (x : Source). HasSource (counts_of c.args.self.now.sources) x) c.in-Channel.is c.requires) in
    let below : j < length i.channels.items = (let e = length-map i.channels.items channel_count in omega (arith, e, has)) in
    let is : slice_get i.channels.items j ≡ Some q =
    slice_get_read i.channels.items (length i.channels.items) j q refl below c.index_mut-channel.ensures.value in
    let q_is : IsChannelOf i.table q = all_there (IsChannelOf i.table) i.channels.items j q is v.channels in
    let stays : IsChannelOf i.table next = subst (IsChannelOf i.table) (sym c.end-in-Channel.ensures.value) (ended_channel i.table q q_is) in
    let long = length-set i.channels.items j next in
    let room = v.has_room in
    let hello_room = v.has_hello_room in
    record {
      channels = all_set (IsChannelOf i.table) i.channels.items j next stays v.channels;
      round = v.round;
      main = v.main;
      is_few = v.is_few;
      has_few_rounds = v.has_few_rounds;
      has_room = omega (arith, long, room);
      has_hello_room = omega (arith, long, hello_room);
      same_named = v.same_named;
    }
