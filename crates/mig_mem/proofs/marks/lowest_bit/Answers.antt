use Rattle.std.proofs.Common.{◌≤◌, arith}
use Rattle.std.proofs.lemmas.Nat.{and_le_l}
use Rattle.mig_mem.proofs.Bits.{lowest, no_bit, rest_of}
use Rattle.mig_mem.proofs.marks.lowest_bit.Goals as goal

pub returns-then-rest-eq0-clause-none : goal.returns-then-rest-eq0-clause-none
returns-then-rest-eq0-clause-none c = no_bit c.args.word c.args.from c.requires c.if-rest-eq0.true

pub returns-clause-some : goal.returns-clause-some
returns-clause-some c =
    let less : rest_of c.args.word c.args.from ≤ c.args.word = and_le_l c.args.word _ in
    rw c.from.ensures (lowest c.args.word c.args.from c.requires (omega arith) c.if-rest-eq0.false)
