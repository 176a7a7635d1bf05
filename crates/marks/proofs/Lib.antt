-- The laws of a word, of marks, and of their counts, each of which cites those above it.
pub mod Word
pub mod Laws
pub mod Counts
