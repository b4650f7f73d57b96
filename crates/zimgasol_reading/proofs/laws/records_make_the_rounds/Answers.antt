use Rattle.zimgasol_reading.proofs.Filling.{stream_of}
use Rattle.zimgasol_reading.proofs.laws.records_make_the_rounds.Goals as goal

pub returns : goal.returns
returns c image rounds = stream_of image rounds
