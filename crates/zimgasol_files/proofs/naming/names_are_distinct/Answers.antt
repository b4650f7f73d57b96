use Rattle.zimgasol_files.proofs.FileNames.{names_differ}
use Rattle.zimgasol_files.proofs.naming.names_are_distinct.Goals as goal

pub returns : goal.returns
returns c = names_differ
