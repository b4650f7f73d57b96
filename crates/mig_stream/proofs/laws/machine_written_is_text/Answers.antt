use Rattle.mig_stream.proofs.WrittenMachine.{machine_singles, machine_mains}
use Rattle.mig_stream.proofs.laws.machine_written_is_text.Goals as goal

pub returns-clause-single : goal.returns-clause-single
returns-clause-single c = λ limit name table rounds short is most lawful. machine_singles limit name table rounds short is most lawful

pub returns-clause-main : goal.returns-clause-main
returns-clause-main c = λ limit name table n short is most. machine_mains limit name table n short is most
