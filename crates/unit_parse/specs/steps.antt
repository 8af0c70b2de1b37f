pub mod Progress
pub mod Unclosed
pub mod Following
pub mod Openings
