-- Definitions that serve proofs of the code alone; no public clause cites them.
pub mod Marks
pub mod Waiting
pub mod Walks
pub mod Groups
