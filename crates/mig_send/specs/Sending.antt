-- The rounds that a sender of a single stream has sent, and why a round is refused.
use Rattle.std.specs.Prelude.{◌≡◌, ℕ, List, map}
use Rattle.mig_mem.specs.RamTable.{RamTable}
use Rattle.mig_mem.specs.Image.{Page, Image}
use Rattle.mig_mem.specs.PlaceSet.{PlaceSet}
use Rattle.mig_stream.specs.Written.{RoundPart}
use Rattle.mig_stream.specs.Writer.{Writer, HasWritten, HasDrained}
use Rattle.mig_send.specs.declared.fault.SendFault.{SendFault}
use Rattle.mig_send.specs.declared.fault.SendFault.TheVariants.{Channels, Limit, OtherTable, NoMemory}

-- the sender has sent these rounds
abbrev pub HasSent : Writer → List (List Page) → Type 0
HasSent sender rounds = HasWritten sender (map RoundPart rounds)

-- The sender has sent these rounds, and these bytes of their stream were drained of it. With no
-- bytes that is `HasSent`.
abbrev pub HasSentDrained : List ℕ → Writer → List (List Page) → Type 0
HasSentDrained drained sender rounds = HasDrained drained sender (map RoundPart rounds)

-- an image and its dirty pages are of a table
abbrev pub AreOf : RamTable → Image → PlaceSet → Type 0
AreOf table image dirty = (image.table ≡ table) × (dirty.table ≡ table)

-- a round is refused for another table or a refused allocation, and for nothing else
abbrev pub IsRoundFault : SendFault → Type 0
IsRoundFault Channels = ⊥
IsRoundFault Limit = ⊥
IsRoundFault OtherTable = Unit {0}
IsRoundFault NoMemory = Unit {0}
