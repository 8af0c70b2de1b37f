pub mod NameLemmas
pub mod PlaceLemmas
pub mod PowerLaws
pub mod WalkLaws
