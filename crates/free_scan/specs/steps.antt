-- Definitions that serve proofs of the code alone; no public clause cites them.
pub mod Firsts
pub mod Fresh
pub mod LinesLeft
pub mod Onward
pub mod PlainText
pub mod PlainWalk
pub mod Reading
pub mod RowsLeft
pub mod Runs
pub mod Scanning
