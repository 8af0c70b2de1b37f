-- Definitions that serve proofs of the code alone; no public clause cites them.
pub mod Declaring
pub mod Gathered
pub mod Generics
pub mod Index
pub mod Kinds
pub mod Namings
pub mod Senses
pub mod Signatures
