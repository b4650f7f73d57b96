use Rattle.std.proofs.Common.{ℕ, ◌≡◌, ◌+◌, ◌≤◌, List, length, take, drop, ap, ◌∙◌, arith}
use Rattle.std.proofs.lemmas.List.{with_items_is, length-drop}
use Rattle.zimgasol_mapped.proofs.Courses.{after_made, after_over}
use Rattle.zimgasol_mapped.proofs.Slices.{read_len}
use Rattle.zimgasol_mapped.proofs.course.Course.copy_after.Goals as goal

pub returns-then-read-eq0-clause-ok : goal.returns-then-read-eq0-clause-ok
returns-then-read-eq0-clause-ok g c =
    let s = c.args.self.now in
    let n = c.in_ok-read.read in
    let same = with_items_is s.buffer c.read_front.new.buffer (c.read_front.ensures.room ∙ c.deref_mut.ensures.len) in
    let room = ap (λ (l : List ℕ). length l) same ∙ c.read_front.ensures.room ∙ ap (λ (l : List ℕ). length l) c.deref_mut.ensures.value
    ∙ c.requires.course.has_room in
    let all = ap (λ (l : List ℕ). length l) c.deref.ensures.value ∙ room in
    record {
      is_course = record {
        has_table = c.requires.course.has_table;
        has_page_size = c.requires.course.has_page_size;
        has_room = room;
        is_run = c.requires.course.is_run;
        has_before = λ file known. tt;
      };
      same_left = λ file known. after_over s.index s.front.items file s.records.bytes.items c.extend_from_slice.new.self.items c.deref.result.now s.given
          c.args.at n 262144 s.next s.stage c.requires.none.has_none c.requires.none.is_begun c.requires.stage c.in_ok-extend_from_slice.ensures.items
          (omega (arith, all, c.in_ok-read.ensures.count))
          (ap (λ (l : List ℕ). take n l) (c.deref.ensures.value ∙ same) ∙ c.in_ok-read.ensures.bytes file known) c.if-read-eq0.true (omega arith);
    }

pub returns-clause-ok : goal.returns-clause-ok
returns-clause-ok g c =
    let s = c.args.self.now in
    let n = c.in_ok-read.read in
    let same = with_items_is s.buffer c.read_front.new.buffer (c.read_front.ensures.room ∙ c.deref_mut.ensures.len) in
    let room = ap (λ (l : List ℕ). length l) same ∙ c.read_front.ensures.room ∙ ap (λ (l : List ℕ). length l) c.deref_mut.ensures.value
    ∙ c.requires.course.has_room in
    let all = ap (λ (l : List ℕ). length l) c.deref.ensures.value ∙ room in
    let within : n ≤ length c.deref.result.now = omega (arith, all, c.in_ok-read.ensures.count) in
    record {
      is_course = record {
        has_table = c.requires.course.has_table;
        has_page_size = c.requires.course.has_page_size;
        has_room = room;
        is_run = c.requires.course.is_run;
        has_before = λ file known. tt;
      };
      same_left = λ file known.
          let read = ap (λ (l : List ℕ). take n l) (c.deref.ensures.value ∙ same) ∙ c.in_ok-read.ensures.bytes file known in
          let count = read_len n 262144 c.deref.result.now (drop c.args.at file) within read in
          let on : c.saturating_add.result ≡ c.args.at + n =
          omega (arith, c.saturating_add.ensures, count, length-drop c.args.at file, c.read_front.ensures.small file known, c.if-read-eq0.false) in
          after_made s.index s.front.items file s.records.bytes.items c.extend_from_slice.new.self.items c.deref.result.now s.given
          c.args.at n 262144 c.saturating_add.result s.next s.stage c.requires.none.has_none c.requires.none.is_begun c.requires.stage
          c.in_ok-extend_from_slice.ensures.items within read on;
    }
