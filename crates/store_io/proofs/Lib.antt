pub mod Placing
pub mod Putting
pub mod Reading
pub mod Removing
pub mod Taking
