use Rattle.std.proofs.Common.{◌≡◌, List, []}
use Rattle.mig_mem.specs.Image.{Page}
use Rattle.mig_stream.specs.Writer.{HasPut}
use Rattle.zimgasol_files.specs.Differing.{piece_of, AreSent}
use Rattle.zimgasol_saving.proofs.send.put_all_differing.Given as goal

abbrev pub invariant-loop-page : goal.invariant-loop-page
invariant-loop-page l = record {
  before : l.round.before ≡ l.fn.round.before;
  sent : HasPut l.fn.round [] → (sent : List Page) × AreSent l.block l.first (piece_of l.pages) l.page sent × HasPut l.round sent;
}
