-- Read these first, in this order.
pub mod PageSize
pub mod RamTable
pub mod First
pub mod Refusal
pub mod Place
pub mod Image
pub mod Round
pub mod PlaceSet
pub mod Difference
pub mod Bitmaps
pub mod Skipping
pub mod Tracking
pub mod Lent
-- How the types keep their values. Only private contracts cite these.
pub mod Packed
pub mod Parts
pub mod Leaves
pub mod BlockPages
pub mod Buffers
pub mod Marks
pub mod Regions
pub mod Puts
