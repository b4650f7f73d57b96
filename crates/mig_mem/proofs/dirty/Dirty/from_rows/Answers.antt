use Rattle.std.proofs.Common.{ℕ, ◌≡◌, ◌∙◌, List, ap}
use Rattle.std.specs.List.{sum_by}
use Rattle.std.specs.declared.vec.Vec.{Vec}
use Rattle.mig_mem.specs.Buffers.{buffers_of}
use Rattle.mig_mem.specs.Marks.{marks_in}
use Rattle.mig_mem.proofs.Counts.{rows_short, marks_counted}
use Rattle.mig_mem.proofs.dirty.Dirty.from_rows.Goals as goal

pub count_rows-count-requires-clause-short : goal.count_rows-count-requires-clause-short
count_rows-count-requires-clause-short g c = rw c.deref.ensures.value (rows_short c.args.table (buffers_of c.args.words.items) c.requires)

pub invariant_of-result : goal.invariant_of-result
invariant_of-result g c =
    let counted : c.count_rows-count.result ≡ sum_by marks_in (buffers_of c.deref.result.now) = c.count_rows-count.ensures in
    record {
      is_table = c.requires.is_table;
      has_room = c.requires.has_room;
      counts = counted ∙ ap (λ (l : List (Vec ℕ g.row.A.Denot)). sum_by marks_in (buffers_of l)) c.deref.ensures.value
          ∙ marks_counted c.args.table (buffers_of c.args.words.items) c.requires;
    }
