-- Read first, in this order: the arguments; the output and the exit status of each report; what a
-- check reports. Then the reads of an input, and the counts of sources while one of them is fed.
pub mod Words
pub mod Report
pub mod Answer
pub mod Inputs
pub mod Feeding
