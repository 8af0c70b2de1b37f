pub mod Firsts
pub mod FaultyOperations
pub mod Elements
pub mod PartLists
pub mod ReferenceTrees
