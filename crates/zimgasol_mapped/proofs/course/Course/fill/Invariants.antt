use Rattle.std.proofs.Common.{◌≡◌}
use Rattle.zimgasol_mapped.specs.Course.{left_of, IsCourse}
use Rattle.zimgasol_mapped.proofs.course.Course.fill.Given as goal

abbrev pub invariant-loop : goal.invariant-loop
invariant-loop g l = record {
  course : IsCourse g.F.PlacedFile.file_bytes l.self;
  left : left_of g.F.PlacedFile.file_bytes l.self ≡ left_of g.F.PlacedFile.file_bytes l.fn.self;
}
