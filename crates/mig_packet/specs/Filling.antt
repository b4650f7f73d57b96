-- An incomplete item after a piece.
use Rattle.std.specs.Prelude.{◌≡◌, ℕ, List, ◌++◌, Some, None}
use Rattle.mig_packet.specs.declared.reader.Filled.{Filled}
use Rattle.mig_packet.specs.declared.reader.Filled.TheVariants as filled
use Rattle.mig_packet.specs.Progress.{ChannelProgress, first_fault, due_fault}
use Rattle.mig_packet.specs.Reading.{IsItem}
use Rattle.mig_packet.specs.Reader.{IsUnfinished}

-- A channel has been read to `c`, `bytes` follow, and `pending` are those of them that are kept.
-- Whole: `pending` are the next item, without a fault, and the rest is left. Unfinished: they are
-- all the bytes, a part of that item. Faulty: a fault is known.
abbrev pub Fills : ChannelProgress → List ℕ → List ℕ → Filled → Type 0
Fills c bytes pending (filled.Whole rest) = (bytes ≡ pending ++ rest.now) × IsItem c.page_size c.hello pending × (first_fault c pending ≡ None)
Fills c bytes pending filled.Unfinished = (bytes ≡ pending) × IsUnfinished c pending
Fills c bytes pending (filled.Faulty fault) = due_fault c bytes ≡ Some fault
