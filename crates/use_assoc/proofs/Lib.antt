pub mod Adding
pub mod Keys
pub mod Modules
pub mod Once
