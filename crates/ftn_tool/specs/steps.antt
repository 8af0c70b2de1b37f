pub mod Fronts
pub mod Found
pub mod Carrying
pub mod Reading
