use Rattle.std.proofs.lemmas.Bool.Decides.{Decides-eqb}
use Rattle.std.proofs.lemmas.Slice.Eq.{starts_is}
use Rattle.mig_mapped.proofs.front.begins.Goals as goal

pub returns-clause-found : goal.returns-clause-found
returns-clause-found c = (starts_is Decides-eqb c.args.bytes.now c.args.front.now c.starts_with.result c.starts_with.ensures.value).0

pub returns-clause-all : goal.returns-clause-all
returns-clause-all c = (starts_is Decides-eqb c.args.bytes.now c.args.front.now c.starts_with.result c.starts_with.ensures.value).1
