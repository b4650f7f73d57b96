use Rattle.std.proofs.Common.{ℕ, ◌≡◌, ◌+◌, ◌-◌, ◌*◌, ◌<◌, ◌≤◌, ◌^◌, List, length, min, take, refl, sym, ap, ◌∙◌, subst, arith, true, Some}
use Rattle.std.proofs.lemmas.List.{with_items_is, length-take}
use Rattle.mig_mem.specs.RamTable.{RamTable}
use Rattle.mig_mapped.specs.Block.{mapped_block, page_offset}
use Rattle.zimgasol_mapped.specs.declared.course.Stage.{Stage}
use Rattle.zimgasol_mapped.specs.Course.{HasBefore}
use Rattle.zimgasol_mapped.proofs.Courses.{pages_made, pages_cut}
use Rattle.zimgasol_mapped.proofs.Slices.{drop_saturated}
use Rattle.zimgasol_mapped.proofs.Steps.{AreRead, bit, offset_from}
use Rattle.zimgasol_mapped.proofs.course.Course.make_pages.Goals as goal

pub returns-then-read-len-clause-ok : goal.returns-then-read-len-clause-ok
returns-then-read-len-clause-ok g c =
    let s = c.args.self.now in
    let run = c.requires.course.is_run in
    let n = c.in_ok-read.read in
    let len = c.min-len.result in
    let first = s.next.page in
    let after = c.in_ok-after.after in
    let end : ℕ = first + s.run.pages in
    let b = mapped_block s.index.blocks s.next.block in
    let size = s.index.given.page_size in
    let offset : ℕ = page_offset size b first in
    let contents : List ℕ = take n c.deref.result.now in
    let size_is : s.records.table.page_size ≡ size = ap (λ (t : RamTable). t.page_size) c.requires.course.has_table in
    let start : s.run.offset ≡ min offset (2 ^ 64 - 1) =
    run.has_offset c.requires.some ∙ ap (λ (p : ℕ). min (page_offset size b p) (2 ^ 64 - 1)) (sym c.requires.first) in
    let same = with_items_is s.buffer c.read_front.new.buffer (c.read_front.ensures.room ∙ c.deref_mut.ensures.len) in
    let room = ap (λ (l : List ℕ). length l) same ∙ c.read_front.ensures.room ∙ ap (λ (l : List ℕ). length l) c.deref_mut.ensures.value
    ∙ c.requires.course.has_room in
    let are_set : (q : ℕ) → first ≤ q → q < end → bit s.index s.next.block q ≡ true =
    λ q from to. run.are_set q (omega (arith, from, c.requires.first)) (omega (arith, to, c.requires.first)) in
    let are : (file : List ℕ) → g.F.PlacedFile.file_bytes s.file ≡ Some file → AreRead s.index file s.next.block first after offset len contents =
    λ file known. record {
      low = c.in_ok-after.ensures.low;
      has_offset = refl;
      are_bytes = ap (λ (l : List ℕ). take n l) (c.deref.ensures.value ∙ same) ∙ c.in_ok-read.ensures.bytes file known
          ∙ ap (λ (l : List ℕ). take len l) (drop_saturated s.run.offset offset file start (c.read_front.ensures.small file known));
      fits = subst (λ (k : ℕ). (after - first) * k ≤ length contents) size_is c.in_ok-after.ensures.fits;
      are_set = λ q from to. are_set q from (omega (arith, to, c.in_ok-after.ensures.high));
    } in
    let product : s.run.pages * c.page_size-size.result ≡ (end - first) * size =
    ap (λ (k : ℕ). s.run.pages * k) (c.page_size-size.ensures ∙ size_is) ∙ ap (λ (m : ℕ). m * size) (omega arith) in
    record {
      is_course = record {
        has_table = c.put_pages.ensures.table ∙ c.requires.course.has_table;
        has_page_size = c.requires.course.has_page_size;
        has_room = room;
        is_run = run;
        has_before = λ file known. tt;
      };
      same_left = λ file known. pages_cut s.index s.front.items file s.records.bytes.items c.put_pages.new.self.bytes.items contents s.given s.next.block
          first after end offset len s.next s.stage s.records.table c.requires.none.has_none c.requires.none.is_begun c.requires.stage
          c.requires.course.has_table c.in_ok-after.ensures.bytes c.requires.course.has_page_size c.requires.block
          (omega (arith, run.fits, c.requires.first)) (are file known) are_set c.in_ok-after.ensures.high
          (omega (arith, length-take n c.deref.result.now, c.if-read-len.true))
          (omega (arith, c.min-len.ensures, c.saturating_mul.ensures, product))
          (λ lt. subst (λ (k : ℕ). length contents < (after - first + 1) * k) size_is (c.in_ok-after.ensures.all lt));
    }

pub returns-clause-ok : goal.returns-clause-ok
returns-clause-ok g c =
    let s = c.args.self.now in
    let run = c.requires.course.is_run in
    let n = c.in_ok-read.read in
    let len = c.min-len.result in
    let first = s.next.page in
    let after = c.in_ok-after.after in
    let end : ℕ = first + s.run.pages in
    let b = mapped_block s.index.blocks s.next.block in
    let size = s.index.given.page_size in
    let offset : ℕ = page_offset size b first in
    let contents : List ℕ = take n c.deref.result.now in
    let size_is : s.records.table.page_size ≡ size = ap (λ (t : RamTable). t.page_size) c.requires.course.has_table in
    let start : s.run.offset ≡ min offset (2 ^ 64 - 1) =
    run.has_offset c.requires.some ∙ ap (λ (p : ℕ). min (page_offset size b p) (2 ^ 64 - 1)) (sym c.requires.first) in
    let same = with_items_is s.buffer c.read_front.new.buffer (c.read_front.ensures.room ∙ c.deref_mut.ensures.len) in
    let room = ap (λ (l : List ℕ). length l) same ∙ c.read_front.ensures.room ∙ ap (λ (l : List ℕ). length l) c.deref_mut.ensures.value
    ∙ c.requires.course.has_room in
    let are_set : (q : ℕ) → first ≤ q → q < end → bit s.index s.next.block q ≡ true =
    λ q from to. run.are_set q (omega (arith, from, c.requires.first)) (omega (arith, to, c.requires.first)) in
    let are : (file : List ℕ) → g.F.PlacedFile.file_bytes s.file ≡ Some file → AreRead s.index file s.next.block first after offset len contents =
    λ file known. record {
      low = c.in_ok-after.ensures.low;
      has_offset = refl;
      are_bytes = ap (λ (l : List ℕ). take n l) (c.deref.ensures.value ∙ same) ∙ c.in_ok-read.ensures.bytes file known
          ∙ ap (λ (l : List ℕ). take len l) (drop_saturated s.run.offset offset file start (c.read_front.ensures.small file known));
      fits = subst (λ (k : ℕ). (after - first) * k ≤ length contents) size_is c.in_ok-after.ensures.fits;
      are_set = λ q from to. are_set q from (omega (arith, to, c.in_ok-after.ensures.high));
    } in
    let on = offset_from s.index s.next.block first after offset c.in_ok-after.ensures.low refl in
    let product : (after - first) * c.page_size-size.result ≡ (after - first) * size =
    ap (λ (k : ℕ). (after - first) * k) (c.page_size-size.ensures ∙ size_is) in
    record {
      is_course = record {
        has_table = c.put_pages.ensures.table ∙ c.requires.course.has_table;
        has_page_size = c.requires.course.has_page_size;
        has_room = room;
        is_run = record {
          low = omega arith;
          fits = omega (arith, c.in_ok-after.ensures.high, run.fits, c.requires.first);
          zeros = λ q from to. absurd (omega (arith, from, to));
          are_set = λ q from to. are_set q (omega (arith, from, c.in_ok-after.ensures.low)) (omega (arith, to, c.in_ok-after.ensures.high));
          has_offset = λ some. omega (arith, c.saturating_add.ensures, c.saturating_mul-2.ensures, start, on, product);
        };
        has_before = λ file known. subst (λ (stage : Stage). HasBefore file stage) (sym c.requires.stage) tt;
      };
      same_left = λ file known. pages_made s.index s.front.items file s.records.bytes.items c.put_pages.new.self.bytes.items contents s.given s.next.block
          first after offset len s.stage s.records.table c.requires.none.has_none c.requires.none.is_begun c.requires.stage
          c.requires.course.has_table c.in_ok-after.ensures.bytes c.requires.course.has_page_size c.requires.block
          (omega (arith, c.in_ok-after.ensures.high, run.fits, c.requires.first)) (are file known);
    }
