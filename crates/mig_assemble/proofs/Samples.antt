-- Worked examples of judging, at a table of two blocks of two pages each.
use Rattle.std.proofs.Common.{ℕ, ◌≡◌, List, [], ◌∷◌, refl, Some, None, false}
use Rattle.mig_mem.specs.RamTable.{RamTable}
use Rattle.mig_mem.specs.Place.{place_at}
use Rattle.mig_mem.specs.Image.{Page}
use Rattle.mig_packet.specs.Packet.{Fields}
use Rattle.mig_assemble.specs.declared.fault.RoundFault.TheVariants.{Foreign, Doubled, Missing, UnknownBlock, Offset, DoublePage}
use Rattle.mig_assemble.specs.Judging.{refusal}

abbrev ram : RamTable
ram = record { page_size = 4096; blocks = record { id = 0x61 ∷ []; pages = 2 } ∷ record { id = 0x62 ∷ []; pages = 2 } ∷ [] }

-- a packet of a block, 0x61 or 0x62, by its number and the offsets of its zero pages
abbrev packet : ℕ → ℕ → List ℕ → Fields
packet id number zero = record { number = number; sync = false; id = id ∷ []; normal = []; zero = zero }

-- one with a normal page beside them
abbrev with_normal : ℕ → ℕ → ℕ → List ℕ → Fields
with_normal id number offset zero = record { number = number; sync = false; id = id ∷ []; normal = record { offset = offset; content = [] } ∷ []; zero = zero }

-- the page record of a block and a page
abbrev page : ℕ → ℕ → Page
page b p = record { place = place_at b p; content = [] }

-- Lawful: the numbers are a run in any order, and records and packets bring each place once. A
-- packet without pages may have any id.
lawful : refusal ram 5 (page 0 1 ∷ []) (packet 0x63 7 [] ∷ packet 0x62 6 (4096 ∷ []) ∷ with_normal 0x61 5 0 [] ∷ []) ≡ None
lawful = refl

no_packets : refusal ram 5 (page 0 1 ∷ []) [] ≡ None
no_packets = refl

-- the least number below the base, though another one is doubled
foreign : refusal ram 2 [] (packet 0x61 1 [] ∷ packet 0x61 0 [] ∷ packet 0x61 1 [] ∷ []) ≡ Some (Foreign 0)
foreign = refl

-- four packets of 0, 1, 1, 3: the doubled number, and not the missing one
doubled : refusal ram 0 [] (packet 0x61 3 [] ∷ packet 0x61 1 [] ∷ packet 0x61 0 [] ∷ packet 0x61 1 [] ∷ []) ≡ Some (Doubled 1)
doubled = refl

-- a missing number comes before a place that is wrong
missing : refusal ram 0 [] (packet 0x63 2 (0 ∷ []) ∷ packet 0x61 0 [] ∷ []) ≡ Some (Missing 1)
missing = refl

unknown : refusal ram 0 [] (packet 0x63 1 (0 ∷ []) ∷ packet 0x61 0 [] ∷ []) ≡ Some (UnknownBlock 1)
unknown = refl

-- the packet of least number, whatever is wrong with it, and wherever it stands
least_packet : refusal ram 0 [] (packet 0x63 2 (0 ∷ []) ∷ packet 0x61 1 (0 ∷ 9 ∷ []) ∷ packet 0x63 0 [] ∷ []) ≡ Some (Offset 1 1)
least_packet = refl

-- the first offset after the block, the normal page being number 0
outside : refusal ram 0 [] (with_normal 0x61 0 4096 (0 ∷ 8192 ∷ 9 ∷ []) ∷ []) ≡ Some (Offset 0 2)
outside = refl

-- a place that is wrong comes before one that occurs twice
outside_first : refusal ram 0 [] (packet 0x61 0 (0 ∷ 0 ∷ 8192 ∷ []) ∷ []) ≡ Some (Offset 0 2)
outside_first = refl

-- the least place that occurs twice, and not the first that is met again
double : refusal ram 0 [] (packet 0x62 1 (0 ∷ 4096 ∷ []) ∷ with_normal 0x62 2 0 [] ∷ packet 0x61 0 (4096 ∷ 4096 ∷ []) ∷ []) ≡ Some (DoublePage (place_at 0 1))
double = refl

-- a record beside a packet, and two records
beside : refusal ram 0 (page 0 1 ∷ []) (packet 0x61 0 (4096 ∷ []) ∷ []) ≡ Some (DoublePage (place_at 0 1))
beside = refl

records_alone : refusal ram 0 (page 1 0 ∷ page 0 1 ∷ page 1 0 ∷ []) [] ≡ Some (DoublePage (place_at 1 0))
records_alone = refl
