use Rattle.zimgasol_command.proofs.extracting.Extraction.copy_all.Goals as goal

pub loop-file-preserved : goal.loop-file-preserved
loop-file-preserved g c = λ table had. c.in_ok-copy_since.ensures table (c.loop-file.invariant table had)
