-- The statuses of channels at a round, as sources of a load.
use Rattle.std.specs.Prelude.{List, map}
use Rattle.std.specs.List.{enumerate_from}
use Rattle.mig_load_types.specs.declared.fault.Origin.TheVariants as origin
use Rattle.mig_answer.specs.declared.status.Status.{Status}
use Rattle.mig_answer.specs.MultiLoad.{Standing}

-- these statuses as those of channels, each by its index
abbrev pub standings : List Status → List Standing
standings statuses = map (λ s. record { source = origin.Channel s.0; status = s.1 }) (enumerate_from 0 statuses)
