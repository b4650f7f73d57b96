use Rattle.mig_stream.proofs.Valid.{one_place, stays_valid, closed_is_valid, bad_is_valid_before}
use Rattle.mig_stream.proofs.Closing.{closed_is_first}
use Rattle.mig_stream.proofs.laws.text_is_valid_up_to_one_place.Goals as goal

pub returns-clause-one : goal.returns-clause-one
returns-clause-one c = one_place

pub returns-clause-longer : goal.returns-clause-longer
returns-clause-longer c = stays_valid

pub returns-clause-closed : goal.returns-clause-closed
returns-clause-closed c = closed_is_valid

pub returns-clause-first : goal.returns-clause-first
returns-clause-first c = closed_is_first

pub returns-clause-bad : goal.returns-clause-bad
returns-clause-bad c = bad_is_valid_before
