-- The definitions that contracts and laws cite.
pub mod Input
pub mod Before
pub mod Parameters
pub mod Pass
pub mod Calls
