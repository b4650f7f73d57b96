use Rattle.std.proofs.Common.{◌≡◌, ◌+◌, ◌<◌, ◌^◌, ◌++◌, false, length, Some, None, arith, rules, sym, ap, refl, subst, ◌∙◌}
use Rattle.std.proofs.lemmas.List.{length-append}
use Rattle.std.specs.Prelude.{Option, IfSome}
use Rattle.mig_mem.specs.RamTable.{RamTable}
use Rattle.mig_mem.specs.Image.{Image}
use Rattle.mig_stream.specs.Giving.{Paused}
use Rattle.mig_load_types.specs.declared.settings.LoadSettings.{LoadSettings}
use Rattle.mig_single_load.specs.declared.in_place_state.LoadState.TheVariants as load_state
use Rattle.mig_single_load.specs.LoadInPlace.{LoadInPlace, load_in_place, LoadsInPlace, StandsOnto, PausesOnto, NamesAt, PausesSome, LacksMemory, HasSomeOnto}
use Rattle.mig_single_load.proofs.LoadsInPlace.{some_each, in_place_on, in_place_past, settled_ends, other_ends, lacks_now, lacks_more}
use Rattle.mig_single_load.proofs.in_place_state.InPlaceState.feed.Goals as goal
use Rattle.mig_single_load.proofs.Sections.{of_some}

pub load_piece-requires-clause-some : goal.load_piece-requires-clause-some
load_piece-requires-clause-some g c =
    let is : c.self.inside.pause ≡ Some c.in-Some.pause = search rules in
    let was = of_some (λ (p : Paused). (given : LoadSettings)
    × PausesSome given c.self.inside.table p c.self.inside.rounds c.self.inside.fed) c.self.inside.pause c.in-Some.pause is c.self.invariant.pauses in
    let same : c.self.inside.table ≡ (g.M.GuestTarget.image c.args.memory.now).table = c.same.ensures.0 c.if-not-same.false ∙ c.table.ensures.value in
    let fed = ap (λ (x : LoadInPlace). x.fed) c.self.view_is in
    let room = c.requires.room in (
      was.0,
      c.self.inside.fed,
      subst (λ (t : RamTable). PausesSome was.0 t c.in-Some.pause c.self.inside.rounds c.self.inside.fed) same was.1,
      omega (arith, room, fed),
    )

pub load_piece-requires-clause-named : goal.load_piece-requires-clause-named
load_piece-requires-clause-named g c =
    c.self.invariant.named_table ∙ c.same.ensures.0 c.if-not-same.false ∙ c.table.ensures.value

pub invariant_of-self-in-Ok : goal.invariant_of-self-in-Ok
invariant_of-self-in-Ok g c =
    let is : c.self.inside.pause ≡ Some c.in-Some.pause = search rules in
    let was = of_some (λ (p : Paused). (given : LoadSettings)
    × PausesSome given c.self.inside.table p c.self.inside.rounds c.self.inside.fed) c.self.inside.pause c.in-Some.pause is c.self.invariant.pauses in
    let same : c.self.inside.table ≡ (g.M.GuestTarget.image c.args.memory.now).table = c.same.ensures.0 c.if-not-same.false ∙ c.table.ensures.value in
    let some = c.in-Ok.ensures.some was.0 c.self.inside.fed
    (subst (λ (t : RamTable). PausesSome was.0 t c.in-Some.pause c.self.inside.rounds c.self.inside.fed) same was.1) in
    record {
      is_table = c.self.invariant.is_table;
      named_table = c.load_piece.ensures.named_table ∙ c.self.invariant.named_table;
      pauses = some_each was.0 (c.self.inside.fed + length c.args.piece.now)
          (g.M.GuestTarget.image c.args.memory.now).table c.self.inside.table c.load_piece.new.sections c.in-Ok.pause (sym same)
          (subst (λ (o : Option Paused). IfSome o (λ p. PausesSome was.0
          (g.M.GuestTarget.image c.args.memory.now).table p c.load_piece.new.sections
          (c.self.inside.fed + length c.args.piece.now))) (sym c.in-Ok.pause-is) some);
    }

pub invariant_of-self-in-Err : goal.invariant_of-self-in-Err
invariant_of-self-in-Err g c =
    let none : c.take.new.self ≡ None = c.take.ensures.after in
    record {
      is_table = c.self.invariant.is_table;
      named_table = c.load_piece.ensures.named_table ∙ c.self.invariant.named_table;
      pauses = subst (λ (o : Option Paused). IfSome o
          (λ p. (given : LoadSettings) × PausesSome given c.self.inside.table p c.load_piece.new.sections
          (c.self.inside.fed + length c.args.piece.now))) (sym none) tt;
    }

pub returns-in_default-clause-ok : goal.returns-in_default-clause-ok
returns-in_default-clause-ok g c = λ given first text loads.
    let s : LoadInPlace = c.args.self.now in
    let none : c.self.inside.pause ≡ None = search rules in
    let past = in_place_past (g.M.GuestTarget.image c.args.memory.now) given first s text c.args.piece.now
    (ap (λ (x : LoadInPlace). x.pause) (sym c.self.view_is) ∙ none) loads in
    subst (λ (x : LoadInPlace). LoadsInPlace (g.M.GuestTarget.image c.args.memory.now) given first
    (load_in_place c.take.new.self x.state x.table x.named x.rounds (x.fed + length c.args.piece.now) x.ended)
    (text ++ c.args.piece.now) false) (sym c.self.view_is)
    (subst (λ (o : Option Paused). LoadsInPlace (g.M.GuestTarget.image c.args.memory.now) given first
    (load_in_place o s.state s.table s.named s.rounds (s.fed + length c.args.piece.now) s.ended) (text ++ c.args.piece.now) false)
    (sym c.take.ensures.after) past)

pub returns-in-Ok-clause-ok : goal.returns-in-Ok-clause-ok
returns-in-Ok-clause-ok g c = λ given first text loads.
    let s : LoadInPlace = c.args.self.now in
    let old : Image = g.M.GuestTarget.image c.args.memory.now in
    let new : Image = g.M.GuestTarget.image c.load_piece.new.memory in
    let mine : LoadsInPlace old given first (load_in_place c.self.inside.pause c.self.inside.state c.self.inside.table
    c.self.inside.named c.self.inside.rounds c.self.inside.fed c.self.inside.ended) text false =
    subst (λ (x : LoadInPlace). LoadsInPlace old given first x text false) (sym c.self.view_is) loads in
    let is : c.self.inside.pause ≡ Some c.in-Some.pause = search rules in
    let at : PausesOnto given first text c.in-Some.pause old c.self.inside.rounds =
    of_some (λ (p : Paused). PausesOnto given first text p old c.self.inside.rounds) c.self.inside.pause c.in-Some.pause is mine.stands.pauses in
    let few : length (text ++ c.args.piece.now) < 2 ^ 64 = omega (arith, c.requires.room, loads.has_fed, length-append text c.args.piece.now) in
    let stands = c.in-Ok.ensures.ok given first text loads.is_image at few in
    let named : NamesAt given first text c.in-Some.pause c.self.inside.named c.self.inside.rounds =
    of_some (λ (p : Paused). NamesAt given first text p c.self.inside.named c.self.inside.rounds) c.self.inside.pause c.in-Some.pause is mine.names.at_pause in
    let names = c.in-Ok.ensures.names given first text (mine.same_table ∙ c.same.ensures.0 c.if-not-same.false ∙ c.table.ensures.value) named in
    rw (c.in-Ok.pause-is, c.in-Ok.state-is) (in_place_on old new given first
    (load_in_place c.self.inside.pause c.self.inside.state c.self.inside.table c.self.inside.named c.self.inside.rounds
    c.self.inside.fed c.self.inside.ended) text c.args.piece.now _ _ c.load_piece.new.named c.load_piece.new.sections mine stands names)

pub returns-in_default-clause-lacking : goal.returns-in_default-clause-lacking
returns-in_default-clause-lacking g c = λ ok given first text lacks.
    let s : LoadInPlace = c.args.self.now in
    let past = lacks_more (g.M.GuestTarget.image c.args.memory.now) given first s text c.args.piece.now lacks in (
      subst (λ (x : LoadInPlace). LacksMemory (g.M.GuestTarget.image c.args.memory.now) given first
          (load_in_place c.take.new.self x.state x.table x.named x.rounds (x.fed + length c.args.piece.now) x.ended)
          (text ++ c.args.piece.now) false) (sym c.self.view_is)
          (subst (λ (o : Option Paused). LacksMemory (g.M.GuestTarget.image c.args.memory.now) given first
          (load_in_place o s.state s.table s.named s.rounds (s.fed + length c.args.piece.now) s.ended)
          (text ++ c.args.piece.now) false) (sym c.take.ensures.after) past),
      refl,
    )

pub returns-in-Err-clause-failed : goal.returns-in-Err-clause-failed
returns-in-Err-clause-failed g c = λ failed given first text loads.
    let old : Image = g.M.GuestTarget.image c.args.memory.now in
    let new : Image = g.M.GuestTarget.image c.load_piece.new.memory in
    let s : LoadInPlace = load_in_place c.self.inside.pause c.self.inside.state c.self.inside.table c.self.inside.named
    c.self.inside.rounds c.self.inside.fed c.self.inside.ended in
    let mine : LoadsInPlace old given first s text false = subst (λ (x : LoadInPlace). LoadsInPlace old given first x text false) (sym c.self.view_is) loads in
    let is : c.self.inside.pause ≡ Some c.in-Some.pause = search rules in
    let at : PausesOnto given first text c.in-Some.pause old c.self.inside.rounds =
    of_some (λ (p : Paused). PausesOnto given first text p old c.self.inside.rounds) c.self.inside.pause c.in-Some.pause is mine.stands.pauses in
    let some : HasSomeOnto given first (text ++ c.args.piece.now) new c.load_piece.new.sections = c.in-Err.ensures.err given first text at in
    subst (λ (o : Option Paused). LacksMemory new given first
    (load_in_place o load_state.NoMemory c.self.inside.table c.load_piece.new.named c.load_piece.new.sections
    (c.self.inside.fed + length c.args.piece.now) c.self.inside.ended) (text ++ c.args.piece.now) false)
    (sym c.take.ensures.after) (lacks_now old new given first s text c.args.piece.now c.load_piece.new.named c.load_piece.new.sections mine some)

pub returns-in-Err-clause-settled : goal.returns-in-Err-clause-settled
returns-in-Err-clause-settled g c = λ given first text loads settled.
    let old : Image = g.M.GuestTarget.image c.args.memory.now in
    let s : LoadInPlace = load_in_place c.self.inside.pause c.self.inside.state c.self.inside.table c.self.inside.named
    c.self.inside.rounds c.self.inside.fed c.self.inside.ended in
    let mine : LoadsInPlace old given first s text false = subst (λ (x : LoadInPlace). LoadsInPlace old given first x text false) (sym c.self.view_is) loads in
    let is : c.self.inside.pause ≡ Some c.in-Some.pause = search rules in
    absurd (settled_ends given first text old s.rounds c.in-Some.pause s.state mine.is_table
    (subst (λ (o : Option Paused). StandsOnto given first text old s.rounds o s.state) is mine.stands) settled)

pub returns-in-Err-clause-another : goal.returns-in-Err-clause-another
returns-in-Err-clause-another g c = λ given first text loads other.
    let old : Image = g.M.GuestTarget.image c.args.memory.now in
    let s : LoadInPlace = load_in_place c.self.inside.pause c.self.inside.state c.self.inside.table c.self.inside.named
    c.self.inside.rounds c.self.inside.fed c.self.inside.ended in
    let mine : LoadsInPlace old given first s text false = subst (λ (x : LoadInPlace). LoadsInPlace old given first x text false) (sym c.self.view_is) loads in
    let is : c.self.inside.pause ≡ Some c.in-Some.pause = search rules in
    absurd (other_ends given first text old s.rounds c.in-Some.pause s.state mine.is_table
    (subst (λ (o : Option Paused). StandsOnto given first text old s.rounds o s.state) is mine.stands) other)
