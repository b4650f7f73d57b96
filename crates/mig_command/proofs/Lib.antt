pub mod Checking
pub mod Reporting
pub mod CommandLine
pub mod Lengths
