-- To read first: the object of a handle, and what a call makes of it; then a table. The statuses,
-- the senders, hellos and packets are those of `mig_c_calls`; the loads are those of `mig_c_loads`.
pub mod Kinds
pub mod Tables
-- private: what a handle owns
pub mod Owned
