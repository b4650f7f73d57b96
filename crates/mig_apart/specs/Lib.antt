-- Read in this order: a load whose pages others read to their places, and the laws on it
pub mod Claims
pub mod Law
