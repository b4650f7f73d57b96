use Rattle.std.proofs.Common.{◌≡◌, inl, refl}
use Rattle.mig_command.specs.declared.answer.Comparison.TheVariants.{Same}
use Rattle.mig_command.proofs.Checking.{same_pages}
use Rattle.mig_command.proofs.check.compare_loaded.Goals as goal

pub returns-in_ok-compared-in-Some-clause-same : goal.returns-in_ok-compared-in-Some-clause-same
returns-in_ok-compared-in-Some-clause-same g c = λ v good is.
    let same : c.in_ok-compared-in-Some.field-0 ≡ Same =
    same_pages c.args.loaded.now.memory c.in-Some.memory c.args.image.now _ c.in-Some.is is c.in_ok-compared-in-Some.ensures in
    rw same (inl refl)
