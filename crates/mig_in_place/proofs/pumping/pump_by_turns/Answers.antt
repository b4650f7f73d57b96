use Rattle.std.proofs.Common.{Ok, Err, arith, refl, inl, inr}
use Rattle.mig_in_place.specs.Turns.{AtTurns, TakesTurn}
use Rattle.mig_in_place.proofs.Turning.{more_turns, pump_stops, pump_fails, kept_pump}
use Rattle.mig_in_place.proofs.pumping.pump_by_turns.Goals as goal

pub returns-in_default-clause-turns : goal.returns-in_default-clause-turns
returns-in_default-clause-turns g c =
    let image = g.M.GuestTarget.image in
    let old : AtTurns g.row.O.Denot = record {
      load = c.args.load.now;
      memory = image c.args.memory.now;
      sources = c.args.sources.now;
      order = c.args.order.now;
    } in
    let mid : AtTurns g.row.O.Denot = record { load = c.loop.load; memory = image c.loop.memory; sources = c.loop.sources; order = c.loop.order } in
    pump_stops g.O.TurnOrder.chooses c.args.turns c.loop.counter old mid c.whose_turn.new.order c.verdict.result
    (omega (arith, c.loop-test.true)) c.loop.invariant
    (inr (c.in_default.ensures.none (image c.loop.memory))) c.verdict.ensures.value

pub returns-in_default-clause-bytes : goal.returns-in_default-clause-bytes
returns-in_default-clause-bytes g c =
    let image = g.M.GuestTarget.image in
    let old : AtTurns g.row.O.Denot = record {
      load = c.args.load.now;
      memory = image c.args.memory.now;
      sources = c.args.sources.now;
      order = c.args.order.now;
    } in
    let mid : AtTurns g.row.O.Denot = record { load = c.loop.load; memory = image c.loop.memory; sources = c.loop.sources; order = c.loop.order } in
    kept_pump g.O.TurnOrder.chooses c.args.turns (Ok c.verdict.result) old (record mid { order = c.whose_turn.new.order })
    (pump_stops g.O.TurnOrder.chooses c.args.turns c.loop.counter old mid c.whose_turn.new.order c.verdict.result
    (omega (arith, c.loop-test.true)) c.loop.invariant
    (inr (c.in_default.ensures.none (image c.loop.memory))) c.verdict.ensures.value)

pub turn_of-requires-clause-there : goal.turn_of-requires-clause-there
turn_of-requires-clause-there g c = (c.in-Some.ensures.some (g.M.GuestTarget.image c.loop.memory)).can.is_there

pub turn_of-requires-clause-room : goal.turn_of-requires-clause-room
turn_of-requires-clause-room g c = (c.in-Some.ensures.some (g.M.GuestTarget.image c.loop.memory)).can.has_room

pub turn_of-requires-clause-takes : goal.turn_of-requires-clause-takes
turn_of-requires-clause-takes g c = (c.in-Some.ensures.some (g.M.GuestTarget.image c.loop.memory)).can.takes

pub returns-in-Err-clause-turns : goal.returns-in-Err-clause-turns
returns-in-Err-clause-turns g c =
    let image = g.M.GuestTarget.image in
    let old : AtTurns g.row.O.Denot = record {
      load = c.args.load.now;
      memory = image c.args.memory.now;
      sources = c.args.sources.now;
      order = c.args.order.now;
    } in
    let mid : AtTurns g.row.O.Denot = record { load = c.loop.load; memory = image c.loop.memory; sources = c.loop.sources; order = c.loop.order } in
    let new : AtTurns g.row.O.Denot = record {
      load = c.turn_of.new.load;
      memory = image c.turn_of.new.memory;
      sources = c.turn_of.new.sources;
      order = c.whose_turn.new.order;
    } in
    let last : TakesTurn g.O.TurnOrder.chooses c.in-Some.source (Err c.in-Err.fault) mid new =
    record {
      is_next = c.in-Some.ensures.some (image c.loop.memory);
      turns = c.in-Err.ensures.turns;
      is_some = c.in-Err.ensures.some;
      others_stay = c.in-Err.ensures.others;
    } in
    pump_fails g.O.TurnOrder.chooses c.args.turns c.loop.counter old mid new c.in-Some.source c.in-Err.fault c.loop-test.true c.loop.invariant last

pub returns-in-Err-clause-bytes : goal.returns-in-Err-clause-bytes
returns-in-Err-clause-bytes g c =
    let image = g.M.GuestTarget.image in
    let old : AtTurns g.row.O.Denot = record {
      load = c.args.load.now;
      memory = image c.args.memory.now;
      sources = c.args.sources.now;
      order = c.args.order.now;
    } in
    let mid : AtTurns g.row.O.Denot = record { load = c.loop.load; memory = image c.loop.memory; sources = c.loop.sources; order = c.loop.order } in
    let new : AtTurns g.row.O.Denot = record {
      load = c.turn_of.new.load;
      memory = image c.turn_of.new.memory;
      sources = c.turn_of.new.sources;
      order = c.whose_turn.new.order;
    } in
    let last : TakesTurn g.O.TurnOrder.chooses c.in-Some.source (Err c.in-Err.fault) mid new =
    record {
      is_next = c.in-Some.ensures.some (image c.loop.memory);
      turns = c.in-Err.ensures.turns;
      is_some = c.in-Err.ensures.some;
      others_stay = c.in-Err.ensures.others;
    } in
    kept_pump g.O.TurnOrder.chooses c.args.turns (Err c.in-Err.fault) old new
    (pump_fails g.O.TurnOrder.chooses c.args.turns c.loop.counter old mid new c.in-Some.source c.in-Err.fault c.loop-test.true c.loop.invariant last)

pub loop-preserved : goal.loop-preserved
loop-preserved g c =
    let image = g.M.GuestTarget.image in
    let old : AtTurns g.row.O.Denot = record {
      load = c.args.load.now;
      memory = image c.args.memory.now;
      sources = c.args.sources.now;
      order = c.args.order.now;
    } in
    let mid : AtTurns g.row.O.Denot = record { load = c.loop.load; memory = image c.loop.memory; sources = c.loop.sources; order = c.loop.order } in
    let new : AtTurns g.row.O.Denot = record {
      load = c.turn_of.new.load;
      memory = image c.turn_of.new.memory;
      sources = c.turn_of.new.sources;
      order = c.whose_turn.new.order;
    } in
    let more : TakesTurn g.O.TurnOrder.chooses c.in-Some.source (Ok c.in_default-turn_of.field-0) mid new =
    record {
      is_next = c.in-Some.ensures.some (image c.loop.memory);
      turns = c.in_default-turn_of.ensures.turns;
      is_some = c.in_default-turn_of.ensures.some;
      others_stay = c.in_default-turn_of.ensures.others;
    } in
    more_turns g.O.TurnOrder.chooses c.loop.counter c.in-Some.source c.in_default-turn_of.field-0 old mid new c.loop.invariant more

pub returns-clause-turns : goal.returns-clause-turns
returns-clause-turns g c =
    let image = g.M.GuestTarget.image in
    let old : AtTurns g.row.O.Denot = record {
      load = c.args.load.now;
      memory = image c.args.memory.now;
      sources = c.args.sources.now;
      order = c.args.order.now;
    } in
    let mid : AtTurns g.row.O.Denot = record { load = c.loop.load; memory = image c.loop.memory; sources = c.loop.sources; order = c.loop.order } in
    pump_stops g.O.TurnOrder.chooses c.args.turns c.loop.counter old mid c.loop.order c.verdict-2.result
    (omega (arith, c.loop.auto.counter-end)) c.loop.invariant
    (inl (omega (arith, c.loop-test.false, c.loop.auto.counter-end), refl)) c.verdict-2.ensures.value

pub returns-clause-bytes : goal.returns-clause-bytes
returns-clause-bytes g c =
    let image = g.M.GuestTarget.image in
    let old : AtTurns g.row.O.Denot = record {
      load = c.args.load.now;
      memory = image c.args.memory.now;
      sources = c.args.sources.now;
      order = c.args.order.now;
    } in
    let mid : AtTurns g.row.O.Denot = record { load = c.loop.load; memory = image c.loop.memory; sources = c.loop.sources; order = c.loop.order } in
    kept_pump g.O.TurnOrder.chooses c.args.turns (Ok c.verdict-2.result) old mid
    (pump_stops g.O.TurnOrder.chooses c.args.turns c.loop.counter old mid c.loop.order c.verdict-2.result
    (omega (arith, c.loop.auto.counter-end)) c.loop.invariant
    (inl (omega (arith, c.loop-test.false, c.loop.auto.counter-end), refl)) c.verdict-2.ensures.value)
