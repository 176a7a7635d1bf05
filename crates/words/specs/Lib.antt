-- The definitions that contracts and laws cite.
pub mod Seen
pub mod Stack
