pub mod Across
pub mod Held
