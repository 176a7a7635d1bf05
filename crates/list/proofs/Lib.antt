-- The laws that the proofs cite.
pub mod Named
pub mod Sized
pub mod Decimals
pub mod Lined
