pub mod Starts
pub mod Listing
