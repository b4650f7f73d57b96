use Rattle.std.proofs.Common.{ℕ, List, take, drop, ap, ◌∙◌}
use Rattle.zimgasol_mapped.specs.Course.{stage_left}
use Rattle.zimgasol_mapped.proofs.Courses.{map_consumes, give_left}
use Rattle.zimgasol_mapped.proofs.course.Course.give.Goals as goal

pub returns-clause-left : goal.returns-clause-left
returns-clause-left g c =
    let s = c.args.self.now in
    let n = c.copy_some-len.result in
    map_consumes (g.F.PlacedFile.file_bytes s.file) _ _ _
    (λ x. give_left s.records.bytes.items (stage_left s.front.items s.index x s.next s.stage) c.copy_some-len.new.to s.given n
    (c.copy_some-len.ensures.bytes ∙ ap (λ (l : List ℕ). take n (drop s.given l)) c.deref.ensures.value))
