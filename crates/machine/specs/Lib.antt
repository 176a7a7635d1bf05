-- The definitions that contracts and laws cite.
pub mod Lists
pub mod Walk
