pub mod steps
