use Rattle.std.proofs.Common.{refl}
use Rattle.mig_in_place.proofs.Behind.{first_piece}
use Rattle.mig_in_place.proofs.source_reader.SourceReader.new.Goals as goal

pub returns-clause-first : goal.returns-clause-first
returns-clause-first g c = λ given. first_piece given _ refl
