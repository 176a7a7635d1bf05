-- The definitions that contracts and laws cite.
pub mod Span
pub mod Writing
pub mod Chunk
pub mod BeforeWalk
