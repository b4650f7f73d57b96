use Rattle.std.proofs.Common.{◌<◌, length, drop, arith}
use Rattle.zimgasol_mapped.proofs.Courses.{next_left}
use Rattle.zimgasol_mapped.proofs.Steps.{same_pages}
use Rattle.zimgasol_mapped.proofs.course.Course.find_run.Goals as goal

pub returns-then-self-pages-clause-goes : goal.returns-then-self-pages-clause-goes
returns-then-self-pages-clause-goes g c =
    let s = c.args.self.now in
    let lt : s.next.block < length s.index.blocks = omega (arith, c.requires.block, c.requires.blocks) in
    record {
      is_course = record {
        has_table = c.requires.course.has_table;
        has_page_size = c.requires.course.has_page_size;
        has_room = c.requires.course.has_room;
        is_run = record {
          low = omega arith;
          fits = omega arith;
          zeros = λ q low high. absurd (omega (arith, high));
          are_set = λ q low high. absurd (omega (arith, high));
          has_offset = λ some. absurd (omega (arith, some));
        };
        has_before = c.requires.course.has_before;
      };
      same_left = λ file known. next_left s.index s.front.items file (drop s.given s.records.bytes.items) s.next.block s.next.page s.stage c.requires.stage
          (omega (arith, same_pages s.index s.next.block lt, c.pages-pages.ensures, c.if-self-pages.true));
    }
