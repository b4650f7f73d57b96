use Rattle.std.proofs.Common.{◌∙◌}
use Rattle.std.proofs.lemmas.Result.{IfOk-weaker}
use Rattle.zimgasol_mapped.proofs.heads.read_heads.Goals as goal

pub returns-clause-index : goal.returns-clause-index
returns-clause-index g c =
    IfOk-weaker c.read_ordered-big.result _ _ (λ index is. λ all known. is all (c.read_ordered-little.ensures.same ∙ known)) c.read_ordered-big.ensures.index
