pub mod Middle
pub mod Found
pub mod Recoveries
pub mod steps
