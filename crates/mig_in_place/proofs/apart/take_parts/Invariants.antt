use Rattle.mig_mem.specs.Lent.{lent_bytes}
use Rattle.mig_in_place.proofs.TakingParts.{IsTaking}
use Rattle.mig_in_place.proofs.apart.take_parts.Given as goal

abbrev pub invariant-pages : goal.invariant-pages
invariant-pages g l = IsTaking l.head (lent_bytes l.contents) l.i l.fn.reader l.reader
