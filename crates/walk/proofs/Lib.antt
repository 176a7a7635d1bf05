-- The laws that proofs cite.
pub mod Store
pub mod Moment
pub mod Parts
pub mod Turns
pub mod Leaving
pub mod Taking
pub mod Chunks
