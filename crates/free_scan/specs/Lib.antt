pub mod Lines
pub mod Pieces
pub mod Tokens
pub mod Spelling
pub mod Clean
pub mod FirstForm
pub mod ScanFaults
pub mod steps
