-- The laws that proofs cite.
pub mod Apart
