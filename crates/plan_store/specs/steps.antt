-- Definitions that serve proofs alone.
pub mod Puts
