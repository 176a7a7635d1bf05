-- The table's claim, and the theorems about the frauds.
pub mod Bench
pub mod Frauds
