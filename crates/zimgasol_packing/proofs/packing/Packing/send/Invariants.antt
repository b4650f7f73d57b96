use Rattle.std.proofs.Common.{◌≡◌, ◌++◌, List, length}
use Rattle.mig_mem.specs.Image.{Page}
use Rattle.zimgasol_files.specs.Differing.{piece_of, AreSent}
use Rattle.zimgasol_packing.specs.Packing.{Begun, IsPacking}
use Rattle.zimgasol_packing.proofs.packing.Packing.send.Given as goal

abbrev pub invariant-loop-page : goal.invariant-loop-page
invariant-loop-page g l = record {
  count : length l.self.channels.items ≡ length l.fn.self.channels.items;
  sent : (begun : Begun) (pages : List Page) → IsPacking g.F.Write.contents begun pages l.fn.self
      → (sent : List Page) × AreSent l.block l.first (piece_of l.pages) l.page sent × IsPacking g.F.Write.contents begun (pages ++ sent) l.self;
}
