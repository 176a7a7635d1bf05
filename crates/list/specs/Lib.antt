pub mod Text
pub mod Names
pub mod Sizes
pub mod Lines
