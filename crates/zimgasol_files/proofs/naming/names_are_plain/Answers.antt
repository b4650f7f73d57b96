use Rattle.zimgasol_files.proofs.FileNames.{name_is_plain}
use Rattle.zimgasol_files.proofs.naming.names_are_plain.Goals as goal

pub returns : goal.returns
returns c = name_is_plain
