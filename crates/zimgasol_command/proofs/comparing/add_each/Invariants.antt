use Rattle.zimgasol_files.specs.Differing.{piece_of, IsCountedTo}
use Rattle.zimgasol_command.proofs.comparing.add_each.Given as goal

abbrev pub invariant-loop-page : goal.invariant-loop-page
invariant-loop-page l = record {
  counted : IsCountedTo l.first (piece_of l.pages) l.page l.fn.differing.count l.differing.count;
}
