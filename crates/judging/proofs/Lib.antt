-- The laws that proofs cite.
pub mod Chain
pub mod Walking
