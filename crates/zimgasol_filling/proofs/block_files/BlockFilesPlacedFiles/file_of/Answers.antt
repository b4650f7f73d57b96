use Rattle.zimgasol_filling.proofs.Steps.{one_block}
use Rattle.zimgasol_filling.proofs.block_files.BlockFilesPlacedFiles.file_of.Goals as goal

pub returns-clause-own : goal.returns-clause-own
returns-clause-own g c = one_block c.args.self.now.blocks.items
