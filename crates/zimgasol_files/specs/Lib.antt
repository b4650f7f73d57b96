-- Printable ids and names, and the names of files
pub mod Shown
pub mod Naming
-- The pages that differ
pub mod Differing
-- A file and an older one, read in pieces
pub mod ReadOn
-- An input, and the bytes of it that wait
pub mod Waiting
-- What words ask of the reading of a stream
pub mod Asked
