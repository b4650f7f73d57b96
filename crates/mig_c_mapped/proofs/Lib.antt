pub mod FileHeads
pub mod Fronts
pub mod Parts
pub mod Totals
