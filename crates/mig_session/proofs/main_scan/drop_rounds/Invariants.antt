use Rattle.mig_stream.specs.Reader.{waiting}
use Rattle.mig_session.proofs.MainScanning.{DroppedSoFar}
use Rattle.mig_session.proofs.main_scan.drop_rounds.Given as goal

abbrev pub invariant-rounds : goal.invariant-rounds
invariant-rounds g l = DroppedSoFar l.fn.reader l.fn.rounds l.reader l.rounds

abbrev pub decreases-rounds : goal.decreases-rounds
decreases-rounds g l = waiting l.reader
