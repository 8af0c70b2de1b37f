pub mod Answers
pub mod Decided
pub mod Levels
pub mod Taking
pub mod Parsing
pub mod steps
pub mod Tiling
