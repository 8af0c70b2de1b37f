-- Definitions that serve proofs of the code alone; no public clause cites them.
pub mod Groups
pub mod Table
