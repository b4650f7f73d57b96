-- The records of pages
pub mod Records
-- What libvirt writes before a stream
pub mod Sparse
-- Reads of a file at any place
pub mod Placed
-- The plain stream of a file
pub mod Plain
-- The heads of a file, as they are read
pub mod Heads
-- The stream as which a file is opened
pub mod Opened
-- How far a plain stream was given
pub mod Course
-- What loading the plain stream gives
pub mod Law
