-- The laws behind the contracts, and the theorems.
pub mod Laws
pub mod Table
pub mod Unpacked
pub mod InTurn
pub mod Named
pub mod Once
pub mod Numbers
