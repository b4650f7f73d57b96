use Rattle.std.proofs.Common.{rules}
use Rattle.zimgasol_files.proofs.Waits.{taken_is}
use Rattle.zimgasol_files.proofs.pieces.Pieces.take.Goals as goal

pub returns : goal.returns
returns c = taken_is c.args.self.now.buffer.items c.args.self.now.start c.args.self.now.end c.args.len c.min-from.result (search rules) (search rules)
