use Rattle.std.proofs.Common.{◌≡◌, vec_len}
use Rattle.mig_sources.specs.Reads.{piece_limit}
use Rattle.mig_session.proofs.Pumped.{SoFar}
use Rattle.mig_session.proofs.pumping.pump.Given as goal

abbrev pub invariant-loop : goal.invariant-loop
invariant-loop g l = record {
  so_far : SoFar l.source l.counter l.total (g.P.PieceReader.reads l.initial.reader) (g.P.PieceReader.reads l.reader)
      (g.P.PieceReader.remaining l.initial.reader) (g.P.PieceReader.remaining l.reader) l.initial.session l.session;
  has_room : vec_len l.buffer ≡ piece_limit;
}
