pub mod Parts
pub mod Subscripts
