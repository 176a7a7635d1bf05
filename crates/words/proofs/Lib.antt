-- The laws that proofs cite.
pub mod Runs
pub mod Items
pub mod Notes
