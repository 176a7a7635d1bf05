-- The definitions that contracts and laws cite.
pub mod Records
pub mod Hand
pub mod Leaving
pub mod Turn
pub mod Ends
