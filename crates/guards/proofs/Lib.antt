-- The laws that proofs cite.
pub mod Ready
pub mod Found
