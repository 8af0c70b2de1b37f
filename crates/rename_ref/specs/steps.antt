-- Definitions that serve proofs of the code alone; no public clause cites them.
pub mod LineLengths
pub mod MeaningSteps
