-- The definitions that contracts and theorems cite.
pub mod Bench
pub mod Frauds
