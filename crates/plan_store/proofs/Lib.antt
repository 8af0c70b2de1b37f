pub mod Lookups
pub mod Amid
pub mod PlanPuts
pub mod PlanFound
pub mod Recovered
