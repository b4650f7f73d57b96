use Rattle.std.proofs.Common.{subst}
use Rattle.mig_mapped.specs.Write.{MappedWriting, PartsAreRead, HasAFile}
use Rattle.mig_mapped.proofs.Parts.{parts_are_read}
use Rattle.mig_mapped.proofs.Exists.{has_a_file}
use Rattle.mig_mapped.proofs.write.MappedWriter.end.Goals as goal

pub returns-clause-read : goal.returns-clause-read
returns-clause-read g c =
    let w : MappedWriting = record { given = c.self.inside.settings; place = c.self.inside.place; blocks = c.self.inside.blocks.items } in
    subst PartsAreRead c.self.view_is (parts_are_read w c.self.invariant)

pub returns-clause-exists : goal.returns-clause-exists
returns-clause-exists g c =
    let w : MappedWriting = record { given = c.self.inside.settings; place = c.self.inside.place; blocks = c.self.inside.blocks.items } in
    subst HasAFile c.self.view_is (has_a_file w c.self.invariant)
