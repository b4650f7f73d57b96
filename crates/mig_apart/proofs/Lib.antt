pub mod ClaimedPlaces
pub mod Free
