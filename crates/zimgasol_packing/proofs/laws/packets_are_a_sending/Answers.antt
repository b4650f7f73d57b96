use Rattle.zimgasol_packing.proofs.Dealt as dealt
use Rattle.zimgasol_packing.proofs.laws.packets_are_a_sending.Goals as goal

pub returns : goal.returns
returns c = dealt.packets_are_a_sending
