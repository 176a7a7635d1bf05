-- The definitions that contracts and laws cite.
pub mod Accounts
pub mod Call
pub mod Stages
pub mod Demand
