pub mod Sound
pub mod Conflicts
pub mod steps
