-- The definitions that contracts and laws cite.
pub mod Ready
pub mod Records
pub mod Listing
pub mod Opens
