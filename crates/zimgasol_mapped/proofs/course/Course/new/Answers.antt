use Rattle.std.proofs.Common.{refl, ◌∙◌, arith}
use Rattle.zimgasol_mapped.proofs.Courses.{map_agree, new_left}
use Rattle.zimgasol_mapped.proofs.course.Course.new.Goals as goal

pub returns-clause-course : goal.returns-clause-course
returns-clause-course g c = record {
  has_table = c.new.ensures.table ∙ c.in_ok-table.ensures;
  has_page_size = c.requires.size;
  has_room = omega (arith, c.in_ok-vec.field-0.ok.0, c.in_ok-vec.ensures.len);
  is_run = record {
    low = omega arith;
    fits = omega arith;
    zeros = λ q low high. absurd (omega (arith, high));
    are_set = λ q low high. absurd (omega (arith, high));
    has_offset = λ some. absurd (omega (arith, some));
  };
  has_before = λ file known. c.requires.before file known;
}

pub returns-clause-left : goal.returns-clause-left
returns-clause-left g c =
    map_agree (g.F.PlacedFile.file_bytes c.args.file) (g.F.PlacedFile.file_bytes c.args.file) _ _ refl
    (λ x known. new_left c.args.index c.args.front.items x _ c.args.before c.new.ensures.none)
