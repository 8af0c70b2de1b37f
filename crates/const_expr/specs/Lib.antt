pub mod FirstTold
pub mod Namings
pub mod Seen
pub mod steps
