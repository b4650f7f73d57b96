-- The length of an item by its first bytes is never longer than by all that it has.
use Rattle.std.proofs.Common.{◌≡◌, ℕ, ◌+◌, ◌<◌, ◌≤◌, Bool, true, false, cond, eqb, List, ◌-◌, ◌++◌, length, get_or, inl, inr, refl, arith}
use Rattle.std.proofs.lemmas.List.{get_or_append_left, get_or_past, length-append}
use Rattle.std.proofs.lemmas.Bool.{cases_lt, eqb-true, eqb-false}
use Rattle.mig_stream.specs.declared.item.Filling.TheVariants.{Zero, Normal}
use Rattle.mig_stream.specs.declared.item.EarlyPart.TheVariants as early
use Rattle.mig_stream.specs.declared.item.PassedItem.{PassedItem}
use Rattle.mig_stream.specs.declared.item.PassedItem.TheVariants.{Command, SubsectionHead, SubsectionBody, Capability, Address, Early}
use Rattle.mig_stream.specs.declared.item.Subsection.TheVariants.{PageBits, Uuid, Capabilities}
use Rattle.mig_stream.specs.declared.item.Due.{Due}
use Rattle.mig_stream.specs.declared.item.Due.TheVariants.{FileHeader, TypeByte, ConfigLength, ConfigName, StartHead, SectionHead, RecordHead, ListEntry}
use Rattle.mig_stream.specs.declared.item.Due.TheVariants.{PageSize, BlockName, Content, Footer, Passed, Nothing}
use Rattle.mig_stream.specs.Items.{passed_size, size}

-- a byte that isn't there counts as 0
byte_grows : (bytes more : List ℕ) (i : ℕ) → get_or bytes i 0 ≤ get_or (bytes ++ more) i 0
byte_grows bytes more i = elim (cases_lt i (length bytes)) [
  | inl h ↦ omega (arith, get_or_append_left bytes more 0 i h)
  | inr h ↦ omega (arith, get_or_past bytes i 0 h)
]

sized_by : (n m : ℕ) (a b : Bool) → eqb n 0 ≡ a → eqb m 0 ≡ b → n ≤ m → cond a 8 (9 + n) ≤ cond b 8 (9 + m)
sized_by n m true true e f le = omega arith
sized_by n m true false e f le = omega arith
sized_by n m false false e f le = omega (arith, le)
sized_by n m false true e f le = absurd (eqb-false n 0 e (omega (arith, le, eqb-true m 0 f)))

passed_grows : (passed : PassedItem) (bytes more : List ℕ) → passed_size passed bytes ≤ passed_size passed (bytes ++ more)
passed_grows (Command before) bytes more = omega (arith, byte_grows bytes more 2, byte_grows bytes more 3)
passed_grows SubsectionHead bytes more = omega (arith, byte_grows bytes more 0)
passed_grows (SubsectionBody PageBits) bytes more = omega arith
passed_grows (SubsectionBody Uuid) bytes more = omega arith
passed_grows (SubsectionBody Capabilities) bytes more = omega arith
passed_grows (Capability others) bytes more = omega (arith, byte_grows bytes more 0)
passed_grows (Address last) bytes more = omega arith
passed_grows (Early before early.Head) bytes more = omega (arith, byte_grows bytes more 4)
passed_grows (Early before (early.Numbers id)) bytes more = omega arith
passed_grows (Early before (early.Plugged id others)) bytes more = omega arith
passed_grows (Early before (early.Footer id)) bytes more = omega arith

-- More bytes never say a shorter item.
pub size_grows : (p : ℕ) (d : Due) (bytes more : List ℕ) → size p d bytes ≤ size p d (bytes ++ more)
size_grows p FileHeader bytes more = omega arith
size_grows p (TypeByte b) bytes more = omega arith
size_grows p ConfigLength bytes more = omega arith
size_grows p (ConfigName n) bytes more = omega arith
size_grows p StartHead bytes more = omega (arith, byte_grows bytes more 4)
size_grows p SectionHead bytes more = omega arith
size_grows p RecordHead bytes more = omega arith
size_grows p ListEntry bytes more = omega (arith, byte_grows bytes more 0)
size_grows p (PageSize true) bytes more = omega arith
size_grows p (PageSize false) bytes more = sized_by (get_or bytes 0 0) (get_or (bytes ++ more) 0 0) _ _ refl refl (byte_grows bytes more 0)
size_grows p (BlockName f page) bytes more = omega (arith, byte_grows bytes more 0)
size_grows p (Content Zero place) bytes more = omega arith
size_grows p (Content Normal place) bytes more = omega arith
size_grows p Footer bytes more = omega arith
size_grows p (Passed passed) bytes more = passed_grows passed bytes more
size_grows p Nothing bytes more = omega arith

-- An item's first bytes are no more than it has after the next ones either, if these aren't more
-- than are missing.
pub fits_on : (p : ℕ) (d : Due) (kept front : List ℕ) → length kept ≤ size p d kept → length front ≤ size p d kept - length kept
    → length (kept ++ front) ≤ size p d (kept ++ front)
fits_on p d kept front fits few = omega (arith, length-append kept front, fits, few, size_grows p d kept front)
