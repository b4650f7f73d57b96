use Rattle.std.proofs.Common.{ℕ, ◌≡◌, ◌+◌, ◌∙◌, false, List, length, map, sym, ap, subst, arith, rules}
use Rattle.std.specs.Prelude.{IsFalse}
use Rattle.std.specs.List.{All}
use Rattle.std.specs.Vec.{with_items}
use Rattle.std.proofs.lemmas.List.{with_items_is, length-map}
use Rattle.mig_mem.specs.RamTable.{RamTable}
use Rattle.mig_mem.specs.Image.{Image}
use Rattle.mig_load_types.specs.Settings.{main_of, for_table}
use Rattle.mig_sources.specs.declared.counts.Count.{Count}
use Rattle.mig_in_place.specs.Round.{KeepsSome}
use Rattle.mig_in_place.specs.Sources.{KeptMain, KeptChannel, IsChannelOf, StandsAt, HasTakenRecords, at_next_round, channel_count, main_count, counts_of}
use Rattle.mig_in_place.specs.Session.{InPlaceLoad, Loads, IsDue, PassesAt, IsMainOf}
use Rattle.mig_in_place.proofs.Keeping.{same_table}
use Rattle.mig_in_place.proofs.Advancing.{advanced, stands_next, next_main, next_channels, next_counts, next_open}
use Rattle.mig_in_place.proofs.session.InPlaceSession.advance.Goals as goal

pub take_main_round-requires-clause-main : goal.take_main_round-requires-clause-main
take_main_round-requires-clause-main g c =
    let i = c.self.inside in
    let table : i.table ≡ (g.M.GuestTarget.image c.args.memory.now).table = ap (λ (x : InPlaceLoad). x.table) c.self.view_is ∙ sym c.requires.table in
    let runs = ap (λ (x : InPlaceLoad). x.verdict) c.self.view_is ∙ c.requires.runs in
    subst (λ (t : RamTable). IsMainOf t c.advance.new.self) table
    (subst (λ (m : KeptMain). IsMainOf i.table m) (sym c.advance.ensures) (next_main i.table i.main (c.self.invariant.main runs)))

pub clear_into-requires : goal.clear_into-requires
clear_into-requires g c =
    let i = c.self.inside in
    let keeps = c.self.invariant.round in
    record { table = c.self.invariant.same_named ∙ sym (same_table i.table keeps.0 i.round.arrivals keeps.1.has_come) }

pub invariant_of-self : goal.invariant_of-self
invariant_of-self g c =
    let i = c.self.inside in
    let X : List KeptChannel = c.advance_channels.new.channels in
    let table : i.table ≡ (g.M.GuestTarget.image c.args.memory.now).table = ap (λ (x : InPlaceLoad). x.table) c.self.view_is ∙ sym c.requires.table in
    let is : X ≡ map at_next_round i.channels.items = c.advance_channels.ensures
    ∙ ap (λ (l : List KeptChannel). map at_next_round l) c.deref_mut.ensures.value in
    let count : length X ≡ length i.channels.items = ap (λ (l : List KeptChannel). length l) is ∙ length-map i.channels.items at_next_round in
    let len : length i.channels.items ≡ i.channels.len = search rules in
    let items : List KeptChannel = (with_items i.channels X).items in
    let items_is : items ≡ X = with_items_is i.channels X (count ∙ len) in
    let all : All (IsChannelOf i.table) X = subst (λ (l : List KeptChannel). All (IsChannelOf i.table) l) (sym is)
    (next_channels i.table i.channels.items c.self.invariant.channels) in
    let many : length items ≡ length i.channels.items = ap (λ (l : List KeptChannel). length l) items_is ∙ count in
    let base = ap (λ (x : InPlaceLoad). x.base) c.self.view_is in
    let rounds = ap (λ (x : InPlaceLoad). x.rounds) c.self.view_is in
    let numbers = ap (λ (x : InPlaceLoad). length x.round.arrivals.numbers) c.self.view_is in
    let room = c.requires.room in
    let more = c.requires.rounds in
    let r1 = c.self.invariant.has_room in
    let r2 = c.self.invariant.has_hello_room in
    let l = c.len.ensures in
    record {
      channels = subst (λ (l : List KeptChannel). All (IsChannelOf i.table) l) (sym items_is) all;
      round = subst (λ (t : RamTable). KeepsSome t c.take_main_round.new.round) (sym table) c.take_main_round.ensures.round;
      main = λ _. subst (λ (t : RamTable). IsMainOf t c.take_main_round.new.main) (sym table) c.take_main_round.ensures.main;
      is_few = omega (arith, base, numbers, room, l);
      has_few_rounds = omega (arith, rounds, more);
      has_room = omega (arith, many, r1);
      has_hello_room = omega (arith, many, r2);
      same_named = c.clear_into.ensures.table ∙ c.self.invariant.same_named;
    }

pub returns-clause-loads : goal.returns-clause-loads
returns-clause-loads g c = λ f loads due passing.
    let i = c.self.inside in
    let memory : Image = g.M.GuestTarget.image c.args.memory.now in
    let then : Image = g.M.GuestTarget.image c.take_main_round.new.memory in
    let X : List KeptChannel = c.advance_channels.new.channels in
    let is : X ≡ map at_next_round i.channels.items = c.advance_channels.ensures
    ∙ ap (λ (l : List KeptChannel). map at_next_round l) c.deref_mut.ensures.value in
    let count : length X ≡ length i.channels.items = ap (λ (l : List KeptChannel). length l) is ∙ length-map i.channels.items at_next_round in
    let len : length i.channels.items ≡ i.channels.len = search rules in
    let items_is : (with_items i.channels X).items ≡ map at_next_round i.channels.items = with_items_is i.channels X (count ∙ len) ∙ is in
    let s : InPlaceLoad =
    record {
      table = i.table;
      sources = record { main = i.main; channels = i.channels.items };
      round = i.round;
      rounds = i.rounds;
      base = i.base;
      named = i.named;
      verdict = i.verdict;
    } in
    let mine : Loads f memory s = subst (λ (x : InPlaceLoad). Loads f memory x) (sym c.self.view_is) loads in
    let here : IsDue f i.rounds = subst (λ (x : InPlaceLoad). IsDue f x.rounds) (sym c.self.view_is) due in
    let pass : PassesAt f i.rounds = subst (λ (x : InPlaceLoad). PassesAt f x.rounds) (sym c.self.view_is) passing in
    let given = main_of (for_table f.first.table f.given) in
    let stands : StandsAt given (i.rounds + 1) f.texts.main c.advance.new.self =
    subst (λ (m : KeptMain). StandsAt given (i.rounds + 1) f.texts.main m) (sym c.advance.ensures) (stands_next f memory s mine here) in
    let taken : HasTakenRecords given (i.rounds + 1) f.texts.main
    (record i.main { is_whole = false }) c.clear_into.new.self memory c.take_main_round.new.main c.take_main_round.new.round then =
    subst (λ (m : KeptMain). HasTakenRecords given
    (i.rounds + 1) f.texts.main m c.clear_into.new.self memory c.take_main_round.new.main c.take_main_round.new.round then) c.advance.ensures
    (c.take_main_round.ensures.taken given (i.rounds + 1) f.texts.main stands) in
    let base : i.base + c.len.result ≡ i.base + length i.round.arrivals.numbers = ap (λ (n : ℕ). i.base + n) c.len.ensures in
    subst (λ (l : List KeptChannel). Loads f then
    (record {
      table = i.table;
      sources = record { main = c.take_main_round.new.main; channels = l };
      round = c.take_main_round.new.round;
      rounds = i.rounds + 1;
      base = i.base + c.len.result;
      named = c.clear_into.new.named;
      verdict = i.verdict;
    }))
    (sym items_is)
    (advanced f memory s mine here pass c.clear_into.new.self c.take_main_round.new.round c.take_main_round.new.main then
    (i.base + c.len.result) c.clear_into.new.named c.clear_into.ensures.keeps c.clear_into.ensures.adds base taken)

pub returns-clause-counts : goal.returns-clause-counts
returns-clause-counts g c =
    let i = c.self.inside in
    let X : List KeptChannel = c.advance_channels.new.channels in
    let is : X ≡ map at_next_round i.channels.items = c.advance_channels.ensures
    ∙ ap (λ (l : List KeptChannel). map at_next_round l) c.deref_mut.ensures.value in
    let count : length X ≡ length i.channels.items = ap (λ (l : List KeptChannel). length l) is ∙ length-map i.channels.items at_next_round in
    let len : length i.channels.items ≡ i.channels.len = search rules in
    let items_is : (with_items i.channels X).items ≡ map at_next_round i.channels.items = with_items_is i.channels X (count ∙ len) ∙ is in
    let main : main_count c.take_main_round.new.main ≡ main_count i.main = c.take_main_round.ensures.count
    ∙ ap (λ (m : KeptMain). main_count m) c.advance.ensures in
    ap (λ (l : List KeptChannel). counts_of (record { main = c.take_main_round.new.main; channels = l })) items_is
    ∙ ap (λ (n : Count). record { main = n; channels = map channel_count (map at_next_round i.channels.items) }) main
    ∙ ap (λ (l : List Count). record { main = main_count i.main; channels = l }) (next_counts i.channels.items)
    ∙ ap (λ (x : InPlaceLoad). counts_of x.sources) c.self.view_is

pub returns-clause-open : goal.returns-clause-open
returns-clause-open g c =
    let i = c.self.inside in
    let X : List KeptChannel = c.advance_channels.new.channels in
    let is : X ≡ map at_next_round i.channels.items = c.advance_channels.ensures
    ∙ ap (λ (l : List KeptChannel). map at_next_round l) c.deref_mut.ensures.value in
    let count : length X ≡ length i.channels.items = ap (λ (l : List KeptChannel). length l) is ∙ length-map i.channels.items at_next_round in
    let len : length i.channels.items ≡ i.channels.len = search rules in
    let items_is : (with_items i.channels X).items ≡ map at_next_round i.channels.items = with_items_is i.channels X (count ∙ len) ∙ is in
    subst (λ (l : List KeptChannel). All (λ c. IsFalse c.is_whole) l) (sym items_is) (next_open i.channels.items)
