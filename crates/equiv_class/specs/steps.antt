-- Definitions that serve proofs of the code alone; no public clause cites them.
pub mod Lists
pub mod Joins
pub mod Joining
pub mod Numbers
