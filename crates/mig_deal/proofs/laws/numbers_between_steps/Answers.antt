use Rattle.mig_deal.proofs.History.{each_number_once, each_number_has_one_seat, word_stays_below, seats_stop_at_last}
use Rattle.mig_deal.proofs.laws.numbers_between_steps.Goals as goal

pub returns-clause-once : goal.returns-clause-once
returns-clause-once c = each_number_once

pub returns-clause-one_seat : goal.returns-clause-one_seat
returns-clause-one_seat c = each_number_has_one_seat

pub returns-clause-bounded : goal.returns-clause-bounded
returns-clause-bounded c = word_stays_below

pub returns-clause-stops : goal.returns-clause-stops
returns-clause-stops c = seats_stop_at_last
