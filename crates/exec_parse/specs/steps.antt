-- Definitions that serve proofs of the code alone; no public clause cites them.
pub mod Actions
pub mod Constructs
pub mod Executables
pub mod Lists
