pub mod Fields
pub mod Plans
pub mod steps
