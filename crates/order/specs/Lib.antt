-- The definitions that contracts and laws cite.
pub mod Deal
pub mod Order
