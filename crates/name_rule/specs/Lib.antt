pub mod Admits
pub mod Rule
