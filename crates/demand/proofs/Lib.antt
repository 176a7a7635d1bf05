-- The theorems about one chunk, and what they stand on.
pub mod Inside
pub mod Says
pub mod Keeps
pub mod Ties
pub mod Demand
