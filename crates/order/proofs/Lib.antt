-- The laws of the keys' order, and of freeing keys in order of repeats.
pub mod Dealing
pub mod Digits
pub mod Laws
pub mod Repeats
