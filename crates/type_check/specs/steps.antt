-- Definitions that serve proofs of the code alone; no public clause cites them.
pub mod Calling
pub mod Choices
pub mod Constants
pub mod DataBy
pub mod DataRight
pub mod DataRuns
pub mod Declared
pub mod Findings
pub mod Kept
pub mod Natures
pub mod Noted
pub mod Ranges
pub mod SaidNames
pub mod Sights
pub mod Stated
pub mod Typing
pub mod Walking
