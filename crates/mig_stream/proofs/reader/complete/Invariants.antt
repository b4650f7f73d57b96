use Rattle.std.proofs.Common.{◌≡◌, ◌≤◌, ◌++◌, length, take}
use Rattle.mig_stream.specs.Items.{size}
use Rattle.mig_stream.proofs.reader.complete.Given as goal

abbrev pub invariant-bytes : goal.invariant-bytes
invariant-bytes g l = (l.pending.items ++ l.rest ≡ l.fn.pending.items ++ l.fn.piece)
    × (length l.pending.items ≤ size l.progress.page_size l.progress.due l.pending.items)
    × (take (length l.fn.pending.items) l.pending.items ≡ l.fn.pending.items)

abbrev pub decreases-bytes : goal.decreases-bytes
decreases-bytes g l = length l.rest
