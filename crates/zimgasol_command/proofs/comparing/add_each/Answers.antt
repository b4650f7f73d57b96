use Rattle.zimgasol_files.specs.Differing.{piece_of}
use Rattle.zimgasol_files.proofs.Sent.{counted_none}
use Rattle.zimgasol_command.proofs.comparing.add_each.Goals as goal

pub loop-page-init : goal.loop-page-init
loop-page-init c = record { counted = counted_none c.args.first (piece_of c.args.pages.now) c.args.differing.now.count }
