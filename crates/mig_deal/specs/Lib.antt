pub mod Deal
pub mod Drawn
pub mod Rule
pub mod History
