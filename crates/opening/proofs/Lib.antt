-- The laws that proofs cite.
pub mod Fronts
pub mod Storing
pub mod Kept
pub mod Targets
pub mod Tests
pub mod ByCode
pub mod Passed
pub mod Ways
