use Rattle.mig_stream.proofs.Shown.{shown_law, machine_shown_law, flush_law, machine_flush_law, eos_law, machine_eos_law}
use Rattle.mig_stream.proofs.laws.shown_is_one_of_both.Goals as goal

pub returns-clause-one : goal.returns-clause-one
returns-clause-one c = shown_law

pub returns-clause-machine_one : goal.returns-clause-machine_one
returns-clause-machine_one c = machine_shown_law

pub returns-clause-flush : goal.returns-clause-flush
returns-clause-flush c = flush_law

pub returns-clause-machine_flush : goal.returns-clause-machine_flush
returns-clause-machine_flush c = machine_flush_law

pub returns-clause-eos : goal.returns-clause-eos
returns-clause-eos c = eos_law

pub returns-clause-machine_eos : goal.returns-clause-machine_eos
returns-clause-machine_eos c = machine_eos_law
