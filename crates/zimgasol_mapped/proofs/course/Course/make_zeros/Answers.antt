use Rattle.std.proofs.Common.{◌≤◌, rules, arith, ◌∙◌}
use Rattle.zimgasol_mapped.proofs.Courses.{zeros_made}
use Rattle.zimgasol_mapped.proofs.course.Course.make_zeros.Goals as goal

pub returns-clause-ok : goal.returns-clause-ok
returns-clause-ok g c =
    let s = c.args.self.now in
    let run = c.requires.course.is_run in
    let end = c.min-end.result in
    let low : s.next.page ≤ end = search rules in
    let high : end ≤ s.run.page = search rules in
    let same = c.requires.course.has_table in
    record {
      is_course = record {
        has_table = c.put_zeros.ensures.table ∙ same;
        has_page_size = c.requires.course.has_page_size;
        has_room = c.requires.course.has_room;
        is_run = record {
          low = high;
          fits = run.fits;
          zeros = λ q from to. run.zeros q (omega (arith, low, from)) to;
          are_set = run.are_set;
          has_offset = run.has_offset;
        };
        has_before = c.requires.course.has_before;
      };
      same_left = λ file known. zeros_made s.index s.front.items file s.records.bytes.items c.put_zeros.new.self.bytes.items s.given s.next.block s.next.page
          end s.stage s.records.table c.requires.none.has_none c.requires.none.is_begun c.requires.stage same c.in_ok-put_zeros.ensures.bytes c.requires.block
          low (omega (arith, high, run.fits)) (λ q from to. run.zeros q from (omega (arith, to, high)));
    }
