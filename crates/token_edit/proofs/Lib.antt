pub mod Chains
pub mod Outside
