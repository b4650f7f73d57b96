use Rattle.std.proofs.Common.{ℕ, ◌≡◌, ◌+◌, ◌≤◌, List, length, take, drop, sym, ap, ◌∙◌, subst, arith}
use Rattle.std.proofs.lemmas.List.{with_items_is, length-drop}
use Rattle.zimgasol_mapped.specs.declared.course.Stage.{Stage}
use Rattle.zimgasol_mapped.specs.Course.{HasBefore}
use Rattle.zimgasol_mapped.proofs.Courses.{before_made}
use Rattle.zimgasol_mapped.proofs.Slices.{read_len}
use Rattle.zimgasol_mapped.proofs.course.Course.copy_before.Goals as goal

pub returns-then-read-len-clause-ok : goal.returns-then-read-len-clause-ok
returns-then-read-len-clause-ok g c =
    let s = c.args.self.now in
    let n = c.in_ok-read.read in
    let same = with_items_is s.buffer c.read_front.new.buffer (c.read_front.ensures.room ∙ c.deref_mut.ensures.len) in
    let room = ap (λ (l : List ℕ). length l) same ∙ c.read_front.ensures.room ∙ ap (λ (l : List ℕ). length l) c.deref_mut.ensures.value
    ∙ c.requires.course.has_room in
    let all = ap (λ (l : List ℕ). length l) c.deref.ensures.value ∙ room in
    let within : n ≤ length c.deref.result.now = omega (arith, all, c.in_ok-read.ensures.count, c.min-len.ensures) in
    record {
      is_course = record {
        has_table = c.requires.course.has_table;
        has_page_size = c.requires.course.has_page_size;
        has_room = room;
        is_run = c.requires.course.is_run;
        has_before = λ file known. tt;
      };
      same_left = λ file known.
          let fits : c.args.end ≤ length file = subst (λ (stage : Stage). HasBefore file stage) c.requires.stage (c.requires.course.has_before file known) in
          let read = ap (λ (l : List ℕ). take n l) (c.deref.ensures.value ∙ same) ∙ c.in_ok-read.ensures.bytes file known in
          let count = read_len n c.min-len.result c.deref.result.now (drop c.args.at file) within read in
          absurd (omega (arith, count, length-drop c.args.at file, fits, c.min-len.ensures, c.requires.some, c.if-read-len.true));
    }

pub returns-clause-ok : goal.returns-clause-ok
returns-clause-ok g c =
    let s = c.args.self.now in
    let n = c.in_ok-read.read in
    let same = with_items_is s.buffer c.read_front.new.buffer (c.read_front.ensures.room ∙ c.deref_mut.ensures.len) in
    let room = ap (λ (l : List ℕ). length l) same ∙ c.read_front.ensures.room ∙ ap (λ (l : List ℕ). length l) c.deref_mut.ensures.value
    ∙ c.requires.course.has_room in
    let all = ap (λ (l : List ℕ). length l) c.deref.ensures.value ∙ room in
    let within : n ≤ length c.deref.result.now = omega (arith, all, c.in_ok-read.ensures.count, c.min-len.ensures) in
    record {
      is_course = record {
        has_table = c.requires.course.has_table;
        has_page_size = c.requires.course.has_page_size;
        has_room = room;
        is_run = c.requires.course.is_run;
        has_before = λ file known.
            subst (λ (stage : Stage). HasBefore file stage) c.requires.stage (c.requires.course.has_before file (sym c.read_front.ensures.same ∙ known));
      };
      same_left = λ file known.
          let fits : c.args.end ≤ length file = subst (λ (stage : Stage). HasBefore file stage) c.requires.stage (c.requires.course.has_before file known) in
          let read = ap (λ (l : List ℕ). take n l) (c.deref.ensures.value ∙ same) ∙ c.in_ok-read.ensures.bytes file known in
          let on : c.saturating_add.result ≡ c.args.at + c.min-len.result =
          omega (
            arith,
            c.saturating_add.ensures,
            c.in_ok-read.ensures.count,
            c.if-read-len.false,
            c.min-len.ensures,
            fits,
            c.read_front.ensures.small file known,
            c.requires.some,
          ) in
          before_made s.index s.front.items file s.records.bytes.items c.append_header.new.bytes.items c.deref.result.now s.given
          c.args.at n c.min-len.result c.args.end c.saturating_add.result s.next s.stage c.requires.none.has_none c.requires.none.is_begun c.requires.stage
          c.in_ok-append_header.ensures within read on c.min-len.ensures c.requires.some fits;
    }
