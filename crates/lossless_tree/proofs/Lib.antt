pub mod LineRows
pub mod Rising
pub mod Turns
pub mod LineStarts
pub mod Held
pub mod Holding
