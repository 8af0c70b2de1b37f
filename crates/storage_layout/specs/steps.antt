-- Definitions that serve proofs of the code alone; no public clause cites them.
pub mod Beside
pub mod EndTable
pub mod Ends
pub mod Held
pub mod Kept
pub mod Mixing
pub mod Naming
pub mod Numbered
pub mod Reaching
pub mod Spans
