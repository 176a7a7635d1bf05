-- The definitions that contracts and laws cite.
pub mod Indices
pub mod Fields
pub mod Checks
