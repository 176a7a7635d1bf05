-- The definitions that contracts and laws cite.
pub mod Depths
pub mod Answer
