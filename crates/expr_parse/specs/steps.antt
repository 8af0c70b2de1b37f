-- Definitions that serve proofs of the code alone; no public clause cites them.
pub mod Callable
pub mod Combinators
pub mod Input
pub mod Nests
pub mod Operators
pub mod Reading
pub mod Faults
