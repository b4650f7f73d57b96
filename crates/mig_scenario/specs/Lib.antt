-- Read first, in this order: the meaning of a line; why an input isn't a scenario; the guest of a
-- scenario, and the law on it. Then the sending of its rounds, and the code's lines as a
-- scenario's. The guest that is kept between two lines is private.
pub mod Line
pub mod Scenario
pub mod FaultNumber
pub mod Guest
pub mod Law
pub mod Layout
pub mod Seen
pub mod Playing
pub mod KeptGuest
