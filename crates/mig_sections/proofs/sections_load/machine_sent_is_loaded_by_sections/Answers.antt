use Rattle.std.proofs.Common.{refl}
use Rattle.mig_load_types.specs.Settings.{for_table}
use Rattle.mig_single_load.proofs.MachineSent.{read_by_sections, machine_read}
use Rattle.mig_sections.proofs.sections_load.machine_sent_is_loaded_by_sections.Goals as goal

pub returns : goal.returns
returns c = λ given first rounds text memory sections verdict frame lets sent has v.
    read_by_sections given first rounds text memory sections verdict sent.is_table sent.has_limit sent.are_rounds
    (machine_read (for_table first.table given) first.table rounds text frame lets refl sent) has v
