pub mod Comparing
pub mod Searching
