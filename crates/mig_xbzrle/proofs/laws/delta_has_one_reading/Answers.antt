use Rattle.mig_xbzrle.proofs.Fronts.{one_list, faultless, one_fault}
use Rattle.mig_xbzrle.proofs.Pages.{one_page}
use Rattle.mig_xbzrle.proofs.Turns.{has_reading}
use Rattle.mig_xbzrle.proofs.laws.delta_has_one_reading.Goals as goal

pub returns-clause-reading : goal.returns-clause-reading
returns-clause-reading c = one_list

pub returns-clause-faultless : goal.returns-clause-faultless
returns-clause-faultless c = faultless

pub returns-clause-fault : goal.returns-clause-fault
returns-clause-fault c = one_fault

pub returns-clause-page : goal.returns-clause-page
returns-clause-page c = one_page

pub returns-clause-some : goal.returns-clause-some
returns-clause-some c = has_reading
