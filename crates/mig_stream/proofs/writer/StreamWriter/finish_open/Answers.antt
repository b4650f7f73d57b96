use Rattle.std.proofs.Common.{◌≡◌, ◌∙◌, ◌++◌, ap, List, ℕ}
use Rattle.std.proofs.lemmas.Result.{IfOk-weaker}
use Rattle.mig_stream.proofs.WrittenMachine.{finished_open, end_bytes}
use Rattle.mig_stream.proofs.writer.StreamWriter.finish_open.Goals as goal

pub returns-clause-ok : goal.returns-clause-ok
returns-clause-ok g c =
    IfOk-weaker c.finish_with.result (λ text. text.items ≡ c.args.self.text ++ end_bytes) _
    (λ text is drained parts h. ap (λ (b : List ℕ). drained ++ b) is ∙ finished_open drained c.args.self parts h) c.finish_with.ensures.ok
