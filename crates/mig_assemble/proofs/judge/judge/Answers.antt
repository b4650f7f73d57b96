use Rattle.std.proofs.Common.{◌∙◌, [], None, Some, inr}
use Rattle.mig_mem.specs.RamTable.{RamTable}
use Rattle.mig_assemble.specs.Target.{pages_of_round}
use Rattle.mig_assemble.specs.AtOnce.{came_at_once}
use Rattle.mig_assemble.proofs.AtOnce.{came_table, judged_at_once, numbers_came}
use Rattle.mig_assemble.proofs.judge.judge.Goals as goal

pub judge-judged-requires : goal.judge-judged-requires
judge-judged-requires g c = record {
  room = rw (numbers_came c.args.arrivals.now.seen.table (pages_of_round c.args.round.now) c.args.packets.now c.arrive.new.arrivals c.in-Ok.ensures.came)
      c.requires.room;
}

pub returns-in-Ok-judged-clause-lawful : goal.returns-in-Ok-judged-clause-lawful
returns-in-Ok-judged-clause-lawful g c =
    judged_at_once c.args.arrivals.now.seen.table c.args.base (pages_of_round c.args.round.now) c.args.packets.now c.arrive.new.arrivals None
    c.in-Ok.ensures.came c.in-Ok-judged.ensures.lawful

pub returns-in-Ok-judged-clause-table : goal.returns-in-Ok-judged-clause-table
returns-in-Ok-judged-clause-table g c =
    let table : RamTable = c.args.arrivals.now.seen.table in
    let came = came_at_once (pages_of_round c.args.round.now) c.args.packets.now in
    came_table c.judge-judged.new.self.seen.table [] c.clear-2.new.self c.clear-2.ensures
    ∙ came_table table came c.judge-judged.new.self (c.judge-judged.ensures.same table came c.in-Ok.ensures.came)

pub returns-clause-refused : goal.returns-clause-refused
returns-clause-refused g c =
    inr (judged_at_once c.args.arrivals.now.seen.table c.args.base (pages_of_round c.args.round.now) c.args.packets.now c.arrive.new.arrivals
    (Some c.in-Err.fault) c.in-Ok.ensures.came c.in-Err.ensures.refused)

pub returns-clause-table : goal.returns-clause-table
returns-clause-table g c =
    let table : RamTable = c.args.arrivals.now.seen.table in
    let came = came_at_once (pages_of_round c.args.round.now) c.args.packets.now in
    came_table c.judge-judged.new.self.seen.table [] c.clear-2.new.self c.clear-2.ensures
    ∙ came_table table came c.judge-judged.new.self (c.judge-judged.ensures.same table came c.in-Ok.ensures.came)
