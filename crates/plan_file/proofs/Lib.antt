pub mod Broken
pub mod Fronts
pub mod Order
pub mod Progress
pub mod Rows
pub mod Sizes
pub mod Steps
pub mod Words
