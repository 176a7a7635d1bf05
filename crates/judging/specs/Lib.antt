-- The definitions that contracts and laws cite.
pub mod Spans
pub mod Judging
pub mod Judges
