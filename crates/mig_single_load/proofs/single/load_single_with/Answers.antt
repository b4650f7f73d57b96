use Rattle.std.proofs.Common.{inl, inr}
use Rattle.mig_single_load.specs.SingleLoad.{IsSingleWithoutMemory}
use Rattle.mig_single_load.proofs.Sections.{none_put, of_some}
use Rattle.mig_single_load.proofs.MachineSent.{ram_is_loaded, machine_is_loaded}
use Rattle.mig_single_load.proofs.single.load_single_with.Goals as goal

pub returns-in-Ok-Some-clause-machine : goal.returns-in-Ok-Some-clause-machine
returns-in-Ok-Some-clause-machine g c =
    machine_is_loaded c.args.settings c.args.text.now c.in-Ok-Some.loaded c.requires.page_size
    (inl (of_some _ c.in-Ok-Some.field-0 c.in-Ok-Some.loaded c.in-Ok-Some.field-0-is c.in-Ok-Some.ensures))

pub returns-in-Ok-None-clause-machine : goal.returns-in-Ok-None-clause-machine
returns-in-Ok-None-clause-machine g c = machine_is_loaded c.args.settings c.args.text.now c.load.result c.requires.page_size c.load.ensures

pub returns-in-Err-clause-answer : goal.returns-in-Err-clause-answer
returns-in-Err-clause-answer g c = inr (rw c.without_memory.ensures (none_put c.args.settings c.args.text.now c.requires.page_size))

pub returns-in-Err-clause-machine : goal.returns-in-Err-clause-machine
returns-in-Err-clause-machine g c =
    let without : IsSingleWithoutMemory c.args.settings c.args.text.now c.without_memory.result =
    rw c.without_memory.ensures (none_put c.args.settings c.args.text.now c.requires.page_size) in
    machine_is_loaded c.args.settings c.args.text.now c.without_memory.result c.requires.page_size (inr without)

pub returns-in-Ok-Some-clause-sent : goal.returns-in-Ok-Some-clause-sent
returns-in-Ok-Some-clause-sent g c =
    ram_is_loaded c.args.settings c.args.text.now c.in-Ok-Some.loaded c.requires.page_size
    (inl (of_some _ c.in-Ok-Some.field-0 c.in-Ok-Some.loaded c.in-Ok-Some.field-0-is c.in-Ok-Some.ensures))

pub returns-in-Ok-None-clause-sent : goal.returns-in-Ok-None-clause-sent
returns-in-Ok-None-clause-sent g c = ram_is_loaded c.args.settings c.args.text.now c.load.result c.requires.page_size c.load.ensures

pub returns-in-Err-clause-sent : goal.returns-in-Err-clause-sent
returns-in-Err-clause-sent g c =
    let without : IsSingleWithoutMemory c.args.settings c.args.text.now c.without_memory.result =
    rw c.without_memory.ensures (none_put c.args.settings c.args.text.now c.requires.page_size) in
    ram_is_loaded c.args.settings c.args.text.now c.without_memory.result c.requires.page_size (inr without)
