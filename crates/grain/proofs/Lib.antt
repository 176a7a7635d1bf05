-- The laws that the proof of the call cites.
pub mod Spans
