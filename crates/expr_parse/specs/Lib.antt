pub mod Exact
pub mod steps
