-- The definitions that contracts and laws cite.
pub mod Chunks
pub mod Items
