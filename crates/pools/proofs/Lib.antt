-- The laws of tests in their order, of the limits and of the tables, each of which cites those above it; and examples.
pub mod First
pub mod LimitLaws
pub mod Most
pub mod Entries
pub mod TableLaws
pub mod Once
pub mod Examples
pub mod Numbers
