-- The laws that proofs cite.
pub mod Sorts
pub mod Chunks
pub mod Accounts
pub mod Bare
pub mod Whole
pub mod Small
pub mod Between
pub mod Demand
pub mod Walkable
